-- The definitions that the contracts cite.
pub mod Decks
pub mod Faults
pub mod Readings

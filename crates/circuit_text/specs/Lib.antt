-- The definitions that the contracts cite.
pub mod Circuits
pub mod Statements
pub mod CircuitTexts

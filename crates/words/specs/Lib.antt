-- The definitions that the contracts cite.
pub mod Words
pub mod WordsLeft
pub mod Lines
pub mod LinesLeft
pub mod Numbers
pub mod Places
pub mod Steps

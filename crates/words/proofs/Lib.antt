-- The lemmas that the proofs share.
pub mod Numbers
pub mod Names
pub mod Words
pub mod Listings
pub mod WordsLeft

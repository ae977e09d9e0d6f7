-- What contracts on output cite.
pub mod Sentences
pub mod Outputs

-- The lemmas that the proofs share.
mod Readings
mod Surroundings
mod Marks
mod Evaluations
pub mod Linkings
mod Extents
mod Lawful
mod Shiftings

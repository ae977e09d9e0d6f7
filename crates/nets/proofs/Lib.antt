-- Lemmas on ways, tiles of wire and their names, and on what the entry is given and says.
pub mod Ways
pub mod Wires
pub mod Joins
pub mod Bounds
pub mod Existence
pub mod Layers
pub mod Spots
pub mod Numberings
pub mod Technologies

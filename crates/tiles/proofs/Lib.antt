-- Lemmas on tiles: places in a list, cuts of regions, walks and searches.
pub mod Tiles
pub mod Cuts
pub mod Links
pub mod Finds

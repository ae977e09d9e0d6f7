-- What contracts on tiles cite.
pub mod Tiles
pub mod Cuts
pub mod Links

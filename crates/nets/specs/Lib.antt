-- What contracts on nets cite.
pub mod Nets
pub mod Laws
pub mod Limits
pub mod Technologies
pub mod Processes
pub mod Wires
pub mod Joins
pub mod Spots
pub mod Numberings

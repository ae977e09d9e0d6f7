pub mod Counts
pub mod Dilations
pub mod Corner

-- The lemmas of this crate.
pub mod Sums
mod Tables
pub mod Devices
mod Tallies
pub mod Isos
pub mod Laws
mod Checked
pub mod Partners
pub mod Pairings
pub mod Exchange
pub mod Reaches
pub mod Searches
pub mod Automorphisms
pub mod Comparisons
mod Rooms
pub mod Colours
pub mod Deciding

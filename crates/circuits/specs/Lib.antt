-- The definitions that the contracts cite.
pub mod Circuits
pub mod Laws
pub mod Netlists
pub mod Pairings
pub mod Components
pub mod Searches
pub mod Tasks
pub mod Colours
pub mod Comparisons
pub mod Memos

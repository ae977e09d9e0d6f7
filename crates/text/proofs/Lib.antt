-- The lemmas that the proofs share.
pub mod Readings
pub mod Sheets
pub mod Plans
pub mod Denotes
pub mod Cells
pub mod Ended
pub mod Scenes

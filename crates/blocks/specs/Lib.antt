pub mod Blocks
pub mod Settled

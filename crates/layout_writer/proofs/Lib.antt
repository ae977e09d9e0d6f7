-- The lemmas that the proofs share.
pub mod Decimals
pub mod Cutting
pub mod Statements
pub mod Named
pub mod Quiet
pub mod Used
pub mod Adding
pub mod Drawings
pub mod Rounds

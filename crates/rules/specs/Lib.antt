-- The definitions that the contracts cite.
pub mod Rules
pub mod Numbers
pub mod Terms
pub mod Sound
pub mod Tests
pub mod Layers
pub mod Values
pub mod Judged
pub mod Laws

-- What contracts on devices cite.
pub mod Channels
pub mod Ends
pub mod Findings
pub mod Laws
pub mod Pieces
pub mod Borders
pub mod Crossings
pub mod Terminals
pub mod Readings

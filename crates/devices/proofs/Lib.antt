-- Lemmas on channels, what lies beside them, and devices.
pub mod Channels
pub mod Orders
pub mod Pieces
pub mod Borders
pub mod Crossings
pub mod Terminals
pub mod Judgements
pub mod Readings
pub mod Writes
pub mod Findings
pub mod Deciding

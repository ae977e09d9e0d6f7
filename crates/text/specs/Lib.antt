-- The definitions that the contracts cite.
pub mod Keywords
pub mod Readings
pub mod Sheets
pub mod Plans
pub mod LayoutTexts
pub mod Scenes

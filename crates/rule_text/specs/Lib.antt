-- The definitions that the contracts cite.
pub mod Operators
pub mod Faults
pub mod Expressions
pub mod Rules
pub mod RuleTexts
pub mod Regions

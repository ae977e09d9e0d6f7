-- The lemmas that the proofs share.
pub mod Expressions
pub mod Rules
pub mod RuleTexts
pub mod Regions

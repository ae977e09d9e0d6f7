-- The lemmas that the proofs share.
mod Statements

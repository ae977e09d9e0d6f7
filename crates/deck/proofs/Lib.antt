-- Lemmas on lists side by side, and on a rule judged on layers that are swept.
mod Sides
mod Judgements

-- Lemmas on sums over places, and on what lines and bands come to.
mod Sums
mod Areas

-- Numbers read digit by digit. Assumes nothing.
use Rattle.std.proofs.Common.{◌≡◌, ℕ, ◌+◌, ◌-◌, ◌*◌, ◌^◌, ◌<◌, ◌≤◌, true, false, cond, ◌&&◌, ltb, leb, List, [], ◌∷◌, length, get_or, drop, Some, None, Option, sym, ◌∙◌, arith}
use Rattle.std.proofs.lemmas.Bool.{and_right, and_parts, le-leb, leb-true, lt-ltb, le-ltb}
use Rattle.std.proofs.lemmas.List.{at_drop_more, at_drop_all}
use Rattle.std.specs.Char.{is_ascii_digit}
use Rattle.words.specs.Numbers.{all_digits, decimal, number_in}

-- what some digits make after those of a number
abbrev pub number_after : ℕ → List ℕ → Option ℕ
number_after n bs = cond (all_digits bs && ltb (decimal n bs) (2 ^ 64)) (Some (decimal n bs)) None

pub grows : (n : ℕ) (bs : List ℕ) → n ≤ decimal n bs
unfolding decimal
grows n [] = omega arith
grows n (b ∷ bs) = omega (arith, grows (n * 10 + (b - 48)) bs)

pub no_digit : (n b : ℕ) (bs : List ℕ) → (leb 48 b && leb b 57) ≡ false → number_after n (b ∷ bs) ≡ None
unfolding all_digits
no_digit n b bs e = simp e

pub digit : (n b : ℕ) (bs : List ℕ) → 48 ≤ b → b ≤ 57 → number_after n (b ∷ bs) ≡ number_after (n * 10 + (b - 48)) bs
unfolding all_digits decimal
digit n b bs p q = simp (le-leb 48 b p, le-leb b 57 q)

pub too_large : (n : ℕ) (bs : List ℕ) → 2 ^ 64 ≤ n → number_after n bs ≡ None
too_large n bs h = let e : (all_digits bs && ltb (decimal n bs) (2 ^ 64)) ≡ false = and_right _ _ (le-ltb (decimal n bs) (2 ^ 64) (omega (arith, grows n bs))) in simp e

pub none_left : (n : ℕ) → n < 2 ^ 64 → number_after n [] ≡ Some n
unfolding all_digits decimal
none_left n h = simp (lt-ltb n (2 ^ 64) h)

-- a loop over the digits: the number so far, and what is left
module _ (word : List ℕ) (n i : ℕ) (so_far : number_after n (drop i word) ≡ number_in word) where
  pub bad-digit : i < length word → is_ascii_digit (get_or word i 0) ≡ false → None ≡ number_in word
  bad-digit h e = sym (no_digit n (get_or word i 0) (drop (i + 1) word) e) ∙ sym (at_drop_more (number_after n) word i 0 h) ∙ so_far

  pub next-digit : i < length word → is_ascii_digit (get_or word i 0) ≡ true → number_after (n * 10 + (get_or word i 0 - 48)) (drop (i + 1) word) ≡ number_in word
  next-digit h e =
      let p = and_parts (leb 48 (get_or word i 0)) (leb (get_or word i 0) 57) e in
      sym (digit n (get_or word i 0) (drop (i + 1) word) (leb-true _ _ p.0) (leb-true _ _ p.1)) ∙ sym (at_drop_more (number_after n) word i 0 h) ∙ so_far

  pub past-limit : i < length word → is_ascii_digit (get_or word i 0) ≡ true → (n * 10 + (get_or word i 0 - 48) < 2 ^ 64 → ⊥) → None ≡ number_in word
  past-limit h e o = sym (too_large (n * 10 + (get_or word i 0 - 48)) (drop (i + 1) word) (omega arith)) ∙ next-digit h e

  pub last-digit : length word ≤ i → n < 2 ^ 64 → Some n ≡ number_in word
  last-digit h f = sym (none_left n f) ∙ sym (at_drop_all (number_after n) word i h) ∙ so_far

-- A number that is written in digits is read as that number. Assumes nothing.
use Rattle.std.proofs.Common.{◌≡◌, ℕ, ◌^◌, ◌<◌, ◌≤◌, true, leb, length, Some, decimal, refl, arith}
use Rattle.std.proofs.lemmas.Fmt.{digits_decimal, digits_value-decimal, decimal_nonempty}
use Rattle.std.proofs.lemmas.Str.Parse.{IsNumeralModel, IsDigitsTest, FoldsDigits, numerals_by_fold}
use Rattle.std.proofs.lemmas.Bool.{and_parts, and_from, leb-true, le-leb, lt-ltb}
use Rattle.words.specs.Numbers.{all_digits, number_in, decimal as worth}

tells : IsDigitsTest (λ ds. all_digits ds ≡ true)
unfolding all_digits
tells = record {
  empty = refl;
  parts = λ c cs h. let p = and_parts _ _ h in let q = and_parts (leb 48 c) (leb c 57) p.0 in ((leb-true 48 c q.0, leb-true c 57 q.1), p.1);
  more = λ c cs i h. and_from _ _ (and_from (leb 48 c) (leb c 57) (le-leb 48 c i.0) (le-leb c 57 i.1)) h;
}

folds : FoldsDigits worth
unfolding worth
folds = record { empty = λ n. refl; more = λ n c cs i. refl }

own : IsNumeralModel (λ ds. all_digits ds ≡ true) (worth 0)
own = numerals_by_fold (λ ds. all_digits ds ≡ true) tells worth folds

pub written_digits : (n : ℕ) → n < 2 ^ 64 → all_digits (decimal n) ≡ true
written_digits n h = digits_decimal own n h

pub written_some : (n : ℕ) → n < 2 ^ 64 → 1 ≤ length (decimal n)
written_some n h = omega (arith, decimal_nonempty n h)

pub number-back : (n : ℕ) → n < 2 ^ 64 → number_in (decimal n) ≡ Some n
number-back n h = simp (le-leb 1 (length (decimal n)) (written_some n h), written_digits n h, digits_value-decimal own n h, lt-ltb n (2 ^ 64) h)

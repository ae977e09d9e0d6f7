-- A square is surrounded if it lies far enough inside the edges and nothing missing is near. Assumes nothing.
use Rattle.std.proofs.Common.{◌≡◌, ℕ, ◌+◌, ◌-◌, ◌*◌, ◌<◌, ◌≤◌, Bool, true, not, ◌&&◌, leb, sym, ◌∙◌, subst, inl, inr, arith}
use Rattle.std.proofs.lemmas.Bool.{cases_Bool, and_parts, and_from, le-leb, leb-true, both_ways, not-true, not_from_false}
use Rattle.region.specs.Firsts.{Squares}
use Rattle.blocks.specs.Blocks.{near, all_of}
use Rattle.blocks.proofs.Counts.{all_true, true_all, tell_same, near-some, some_near}
use Rattle.rules.specs.Rules.{surrounded}

-- what is asked at each offset
abbrev pub held : ℕ → Squares → (x y i j : ℕ) → Bool
held n s x y i j = leb n (x + i) && (leb n (y + j) && s (x + i - n) (y + j - n))

pub parts : (n : ℕ) (s : Squares) (x y i j : ℕ) → held n s x y i j ≡ true → (n ≤ x + i) × (n ≤ y + j) × (s (x + i - n) (y + j - n) ≡ true)
parts n s x y i j h = let p = and_parts (leb n (x + i)) _ h in let q = and_parts (leb n (y + j)) _ p.1 in (leb-true n (x + i) p.0, leb-true n (y + j) q.0, q.1)

pub each : (n : ℕ) (s : Squares) (x y : ℕ) → surrounded n s x y ≡ true → (i j : ℕ) → i < 2 * n + 1 → j < 2 * n + 1 → held n s x y i j ≡ true
unfolding surrounded
each n s x y h i j k l = all_true (2 * n + 1) (λ j. held n s x y i j) (all_true (2 * n + 1) (λ i. all_of (2 * n + 1) (λ j. held n s x y i j)) h i k) j l

pub all : (n : ℕ) (s : Squares) (x y : ℕ) → ((i j : ℕ) → i < 2 * n + 1 → j < 2 * n + 1 → held n s x y i j ≡ true) → surrounded n s x y ≡ true
unfolding surrounded
all n s x y h = true_all (2 * n + 1) (λ i. all_of (2 * n + 1) (λ j. held n s x y i j)) (λ i k. true_all (2 * n + 1) (λ j. held n s x y i j) (λ j l. h i j k l))

pub surrounded_is : (n : ℕ) (s o : Squares) → ((x y : ℕ) → o x y ≡ not (s x y)) → (x y : ℕ) → ((leb n x && leb n y) && not (near n o x y)) ≡ surrounded n s x y
surrounded_is n s o e x y = tell_same _ _
    (λ t.
    let p = and_parts (leb n x && leb n y) (not (near n o x y)) t in
    let q = and_parts (leb n x) (leb n y) p.0 in
    let a = leb-true n x q.0 in
    let b = leb-true n y q.1 in
    let free = not-true (near n o x y) p.1 in
    all n s x y (λ i j k l. and_from (leb n (x + i)) _ (le-leb n (x + i) (omega arith)) (and_from (leb n (y + j)) _ (le-leb n (y + j) (omega arith))
    (elim (cases_Bool (s (x + i - n) (y + j - n))) [
      | inl g ↦ g
      | inr g ↦ absurd (both_ways (near n o x y) free (some_near n o x y (x + i - n) (y + j - n) (omega arith) (omega arith) (omega arith) (omega arith) (e (x + i - n) (y + j - n) ∙ not_from_false _ g)))
    ]))))
    (λ t.
    let z = parts n s x y 0 0 (each n s x y t 0 0 (omega arith) (omega arith)) in
    and_from (leb n x && leb n y) (not (near n o x y)) (and_from (leb n x) (leb n y) (le-leb n x (omega (arith, z.0))) (le-leb n y (omega (arith, z.1))))
    (not_from_false _ (elim (cases_Bool (near n o x y)) [
      | inr g ↦ g
      | inl g ↦
          let w = near-some n o x y g in
          let h = parts n s x y (w.0 + n - x) (w.1 + n - y) (each n s x y t (w.0 + n - x) (w.1 + n - y) (omega (arith, w.2)) (omega (arith, w.4))) in
          let a : x + (w.0 + n - x) - n ≡ w.0 = omega (arith, w.3) in
          let b : y + (w.1 + n - y) - n ≡ w.1 = omega (arith, w.5) in
          absurd (both_ways (s w.0 w.1) (not-true _ (sym (e w.0 w.1) ∙ w.6)) (subst (λ v. s w.0 v ≡ true) b (subst (λ u. s u (y + (w.1 + n - y) - n) ≡ true) a h.2)))
    ])))

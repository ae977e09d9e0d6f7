-- What a closure that changes nothing gave at each number. Assumes nothing.
use Rattle.std.proofs.Common.{◌≡◌, ℕ, zero, suc, ◌+◌, ◌<◌, ◌≤◌, List, get_or, sym, subst, inl, inr, arith}
use Rattle.std.proofs.lemmas.Bool.{cases_eq}
use Rattle.std.specs.Array.{IsFromFnResultFrom}
use denote.Param.Members.{Mut, Called}

pub given :
    {F B : Type 0} (g : Mut F (ℕ × Unit {0}) B) (P : ℕ → B → Type 0) (f : F) (ys : List B) → ((x : ℕ) (y : B) (q : F) → Called g f (x, tt) y q → (q ≡ f) × P x y) →
    (n i : ℕ) → IsFromFnResultFrom g f ys i n → (k : ℕ) (d : B) → i ≤ k → k < i + n → P k (get_or ys k d)
given g P f ys each zero i h k d low high = absurd (omega arith)
given g P f ys each (suc n) i h k d low high =
    let w = each i h.1 h.0 h.3 in
    elim (cases_eq i k) [
      | inl e ↦ subst (λ j. P j (get_or ys j d)) e (subst (P i) (sym (h.2.1 d)) w.1)
      | inr e ↦ given g P f ys each n (i + 1) (subst (λ q. IsFromFnResultFrom g q ys (i + 1) n) w.0 h.4) k d (omega arith) (omega arith)
    ]

-- Regions read one by one, up to the first fault. Assumes nothing.
use Rattle.std.proofs.Common.{◌≡◌, ℕ, zero, suc, ◌+◌, ◌*◌, ◌<◌, ◌≤◌, ◌≢◌, List, length, get_or, set, take, Some, None, Option, refl, ap, ◌∙◌, subst, inl, inr, add-one, arith, get_or-set_other, get_or-set_same, below_more}
use Rattle.std.proofs.lemmas.List.{get_or-take}
use Rattle.std.proofs.lemmas.Bool.{cases_lt, cases_eq}
use Rattle.rules.specs.Numbers.{region_fault, regions_fault, further}
use Rattle.rules.specs.Terms.{Read}
use Rattle.rules.specs.Tests.{TermsRead}
use Rattle.rules.specs.declared.term.Term.{Term}
use Rattle.rules.specs.declared.term.Term.TheVariants.{Layer}

abbrev fault_at : List ℕ → ℕ → Option ℕ
fault_at xs n = region_fault n (get_or xs (3 * n) 0) (get_or xs (3 * n + 1) 0) (get_or xs (3 * n + 2) 0)

pub no_fault : (xs : List ℕ) → regions_fault xs 0 ≡ None
unfolding regions_fault
no_fault xs = refl

pub fault_more : (xs : List ℕ) (n : ℕ) → regions_fault xs n ≡ None → fault_at xs n ≡ None → regions_fault xs (n + 1) ≡ None
unfolding regions_fault
fault_more xs n h g = rw (add-one n, h, g)

fault_here : (xs : List ℕ) (n p : ℕ) → regions_fault xs n ≡ None → fault_at xs n ≡ Some p → regions_fault xs (suc n) ≡ Some (3 * n + p)
unfolding regions_fault
fault_here xs n p h g = rw (h, g)

fault_stays : (xs : List ℕ) (m n p : ℕ) → regions_fault xs n ≡ Some p → n ≤ m → regions_fault xs m ≡ Some p
unfolding regions_fault
fault_stays xs zero n p h l = let e : n ≡ 0 = omega arith in subst (λ k. regions_fault xs k ≡ Some p) e h
fault_stays xs (suc m) n p h l =
    elim (cases_eq n (suc m)) [
      | inl e ↦ subst (λ k. regions_fault xs k ≡ Some p) e h
      | inr e ↦ rw (fault_stays xs m n p h (elim (cases_lt m n) [ inl k ↦ absurd (e (omega arith)) | inr k ↦ k ]))
    ]

pub fault_first : (xs : List ℕ) (m n p : ℕ) → n < m → regions_fault xs n ≡ None → fault_at xs n ≡ Some p → regions_fault xs m ≡ Some (3 * n + p)
fault_first xs m n p l h g = fault_stays xs m (suc n) (3 * n + p) (fault_here xs n p h g) l

further_some : (k q : ℕ) (o : Option ℕ) → further k o ≡ Some q → (p : ℕ) × (o ≡ Some p) × (k + p ≡ q)
further_some k q None e = absurd cc
further_some k q (Some p) e = (p, refl, cc)

-- the first region at fault
pub fault_of : (xs : List ℕ) (m n q : ℕ) → n < m → regions_fault xs n ≡ None → further (3 * n) (fault_at xs n) ≡ Some q → regions_fault xs m ≡ Some q
fault_of xs m n q l h g =
    let p = further_some (3 * n) q (fault_at xs n) g in
    fault_first xs m n p.0 l h p.1 ∙ ap Some p.2

pub terms-more : (xs : List ℕ) (n : ℕ) (ts : List Term) (t : Term) → n < length ts → TermsRead xs n ts → Read n (get_or xs (3 * n) 0) (get_or xs (3 * n + 1) 0) (get_or xs (3 * n + 2) 0) t → TermsRead xs (n + 1) (set ts n t)
terms-more xs n ts t l h r =
    below_more (λ i. Read i (get_or xs (3 * i) 0) (get_or xs (3 * i + 1) 0) (get_or xs (3 * i + 2) 0) (get_or (set ts n t) i (Layer 0))) n
    (λ k q. let ne : k ≢ n = omega arith in rw get_or-set_other (h k q))
    (rw get_or-set_same r)

-- what is read of an array's first terms
pub terms_taken : (xs : List ℕ) (n : ℕ) (ts : List Term) → TermsRead xs n ts → TermsRead xs n (take n ts)
terms_taken xs n ts h i l = rw (get_or-take n ts i (Layer 0) l) (h i l)

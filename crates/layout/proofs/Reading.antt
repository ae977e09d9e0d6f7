-- What a node's numbers say, kind by kind. Assumes nothing.
use Rattle.std.proofs.Common.{◌≡◌, ℕ, zero, suc, ◌+◌, ◌*◌, ◌<◌, ◌≤◌, Bool, true, false, not, ltb, Some, None, Option, sym, refl, ap, List, [], ◌∷◌, get_or, inl, inr, arith}
use Rattle.std.proofs.lemmas.Bool.{and_parts, and_from, and_left, and_right, leb-true, ltb-true, lt-ltb, le-ltb, lt-leb, cases_eq}
use Rattle.std.specs.Option.{is_some}
use Rattle.layout.specs.Limits.{max_number}
use Rattle.layout.specs.Numbers.{node_of, all_at_most, earlier_1}
use Rattle.layout.specs.Nodes.{numbered, orderly, Read, Reads}
use Rattle.layout.specs.declared.node.Node.{Node}
use Rattle.layout.specs.declared.node.Node.TheVariants.{Nothing, One, Both, Changed, Row, Column}
use Rattle.layout.specs.declared.change.Change.TheVariants.{Move, Turn, Mirror}

pub at_most : (m : ℕ) (xs : List ℕ) → all_at_most m xs ≡ true → (i : ℕ) → get_or xs i 0 ≤ m
unfolding all_at_most
at_most m [] h i = omega arith
at_most m (x ∷ xs) h zero = leb-true x m (and_parts _ _ h).0
at_most m (x ∷ xs) h (suc i) = at_most m xs (and_parts _ _ h).1 i

module _ (xs : List ℕ) (n : ℕ) (small : all_at_most max_number xs ≡ true) where
  pub read-0 : get_or xs (6 * n) 0 ≡ 0 → Read xs n Nothing
  unfolding orderly earlier_1 numbered node_of
  read-0 e = record { spelled = e; orders = rw e; same = λ f. rw e; modest = tt }

  pub read-1 : get_or xs (6 * n) 0 ≡ 1 → Read xs n (One (record { layer = get_or xs (6 * n + 1) 0; x = get_or xs (6 * n + 2) 0; y = get_or xs (6 * n + 3) 0; across = get_or xs (6 * n + 4) 0; down = get_or xs (6 * n + 5) 0 }))
  unfolding orderly earlier_1 numbered node_of
  read-1 e = record {
    spelled = (e, refl, refl, refl, refl, refl);
    orders = rw e;
    same = λ f. rw e;
    modest = (omega (arith, at_most max_number xs small (6 * n + 2), at_most max_number xs small (6 * n + 4)), omega (arith, at_most max_number xs small (6 * n + 3), at_most max_number xs small (6 * n + 5)));
  }

  pub read-2 : get_or xs (6 * n) 0 ≡ 2 → get_or xs (6 * n + 1) 0 < n → get_or xs (6 * n + 2) 0 < n → Read xs n (Both (get_or xs (6 * n + 1) 0) (get_or xs (6 * n + 2) 0))
  unfolding orderly earlier_1 numbered node_of
  read-2 e p q = record { spelled = (e, refl, refl); orders = rw e (and_from _ _ (lt-ltb _ _ p) (lt-ltb _ _ q)); same = λ f. rw e; modest = (p, q) }

  pub read-3 : get_or xs (6 * n) 0 ≡ 3 → get_or xs (6 * n + 3) 0 < n → Read xs n (Changed (Move (get_or xs (6 * n + 1) 0) (get_or xs (6 * n + 2) 0)) (get_or xs (6 * n + 3) 0))
  unfolding orderly earlier_1 numbered node_of
  read-3 e p = record { spelled = (e, refl, refl, refl); orders = rw e (lt-ltb _ _ p); same = λ f. rw e; modest = (p, (at_most max_number xs small (6 * n + 1), at_most max_number xs small (6 * n + 2))) }

  pub read-4 : get_or xs (6 * n) 0 ≡ 4 → get_or xs (6 * n + 2) 0 < n → Read xs n (Changed (Turn (get_or xs (6 * n + 1) 0)) (get_or xs (6 * n + 2) 0))
  unfolding orderly earlier_1 numbered node_of
  read-4 e p = record { spelled = (e, refl, refl); orders = rw e (lt-ltb _ _ p); same = λ f. rw e; modest = (p, at_most max_number xs small (6 * n + 1)) }

  pub read-5 : get_or xs (6 * n) 0 ≡ 5 → get_or xs (6 * n + 2) 0 < n → Read xs n (Changed (Mirror (get_or xs (6 * n + 1) 0)) (get_or xs (6 * n + 2) 0))
  unfolding orderly earlier_1 numbered node_of
  read-5 e p = record { spelled = (e, refl, refl); orders = rw e (lt-ltb _ _ p); same = λ f. rw e; modest = (p, at_most max_number xs small (6 * n + 1)) }

  pub read-6 : get_or xs (6 * n) 0 ≡ 6 → get_or xs (6 * n + 3) 0 < n → Read xs n (Row (get_or xs (6 * n + 1) 0) (get_or xs (6 * n + 2) 0) (get_or xs (6 * n + 3) 0))
  unfolding orderly earlier_1 numbered node_of
  read-6 e p = record { spelled = (e, refl, refl, refl); orders = rw e (lt-ltb _ _ p); same = λ f. rw e; modest = (p, at_most max_number xs small (6 * n + 1), at_most max_number xs small (6 * n + 2)) }

  pub read-7 : get_or xs (6 * n) 0 ≡ 7 → get_or xs (6 * n + 3) 0 < n → Read xs n (Column (get_or xs (6 * n + 1) 0) (get_or xs (6 * n + 2) 0) (get_or xs (6 * n + 3) 0))
  unfolding orderly earlier_1 numbered node_of
  read-7 e p = record { spelled = (e, refl, refl, refl); orders = rw e (lt-ltb _ _ p); same = λ f. rw e; modest = (p, at_most max_number xs small (6 * n + 1), at_most max_number xs small (6 * n + 2)) }

-- a node that names no earlier one
module _ (xs : List ℕ) (n : ℕ) where
  pub late-2a : get_or xs (6 * n) 0 ≡ 2 → n ≤ get_or xs (6 * n + 1) 0 → orderly xs n ≡ false
  unfolding orderly earlier_1
  late-2a e p = rw e (and_left _ _ (le-ltb _ _ p))

  pub late-2b : get_or xs (6 * n) 0 ≡ 2 → n ≤ get_or xs (6 * n + 2) 0 → orderly xs n ≡ false
  unfolding orderly earlier_1
  late-2b e p = rw e (and_right _ _ (le-ltb _ _ p))

  pub late-3 : get_or xs (6 * n) 0 ≡ 3 → n ≤ get_or xs (6 * n + 3) 0 → orderly xs n ≡ false
  unfolding orderly earlier_1
  late-3 e p = rw e (le-ltb _ _ p)

  pub late-4 : get_or xs (6 * n) 0 ≡ 4 → n ≤ get_or xs (6 * n + 2) 0 → orderly xs n ≡ false
  unfolding orderly earlier_1
  late-4 e p = rw e (le-ltb _ _ p)

  pub late-5 : get_or xs (6 * n) 0 ≡ 5 → n ≤ get_or xs (6 * n + 2) 0 → orderly xs n ≡ false
  unfolding orderly earlier_1
  late-5 e p = rw e (le-ltb _ _ p)

  pub late-6 : get_or xs (6 * n) 0 ≡ 6 → n ≤ get_or xs (6 * n + 3) 0 → orderly xs n ≡ false
  unfolding orderly earlier_1
  late-6 e p = rw e (le-ltb _ _ p)

  pub late-7 : get_or xs (6 * n) 0 ≡ 7 → n ≤ get_or xs (6 * n + 3) 0 → orderly xs n ≡ false
  unfolding orderly earlier_1
  late-7 e p = rw e (le-ltb _ _ p)

  pub no_kind : 7 < get_or xs (6 * n) 0 → orderly xs n ≡ false
  unfolding orderly earlier_1
  no_kind p = and_left _ _ (lt-leb _ _ p)

-- the nodes that a checked one names
module _ (n k a b c : ℕ) where
  pub below-2 : k ≡ 2 → earlier_1 n k a b c ≡ true → (a < n) × (b < n)
  unfolding earlier_1
  below-2 e h = let p = and_parts (ltb a n) (ltb b n) (rw e at h) in (ltb-true a n p.0, ltb-true b n p.1)

  pub below-3 : k ≡ 3 → earlier_1 n k a b c ≡ true → c < n
  unfolding earlier_1
  below-3 e h = ltb-true c n (rw e at h)

  pub below-4 : k ≡ 4 → earlier_1 n k a b c ≡ true → b < n
  unfolding earlier_1
  below-4 e h = ltb-true b n (rw e at h)

  pub below-5 : k ≡ 5 → earlier_1 n k a b c ≡ true → b < n
  unfolding earlier_1
  below-5 e h = ltb-true b n (rw e at h)

  pub below-6 : k ≡ 6 → earlier_1 n k a b c ≡ true → c < n
  unfolding earlier_1
  below-6 e h = ltb-true c n (rw e at h)

  pub below-7 : k ≡ 7 → earlier_1 n k a b c ≡ true → c < n
  unfolding earlier_1
  below-7 e h = ltb-true c n (rw e at h)

  pub kind-7 : earlier_1 n k a b c ≡ true → k ≤ 7
  unfolding earlier_1
  kind-7 h = leb-true k 7 (and_parts _ _ h).0

-- each checked node is one of the eight
pub read-any : (xs : List ℕ) (n : ℕ) → all_at_most max_number xs ≡ true → orderly xs n ≡ true → (d : Node) × Read xs n d
unfolding orderly
read-any xs n small o =
    let k = get_or xs (6 * n) 0 in
    let last = kind-7 n _ _ _ _ o in
    elim (cases_eq k 0) [
      | inl e ↦ (Nothing, read-0 xs n small e)
      | inr h0 ↦
          elim (cases_eq k 1) [
            | inl e ↦ (One _, read-1 xs n small e)
            | inr h1 ↦
                elim (cases_eq k 2) [
                  | inl e ↦ (Both _ _, read-2 xs n small e (below-2 n _ _ _ _ e o).0 (below-2 n _ _ _ _ e o).1)
                  | inr h2 ↦
                      elim (cases_eq k 3) [
                        | inl e ↦ (Changed _ _, read-3 xs n small e (below-3 n _ _ _ _ e o))
                        | inr h3 ↦
                            elim (cases_eq k 4) [
                              | inl e ↦ (Changed _ _, read-4 xs n small e (below-4 n _ _ _ _ e o))
                              | inr h4 ↦
                                  elim (cases_eq k 5) [
                                    | inl e ↦ (Changed _ _, read-5 xs n small e (below-5 n _ _ _ _ e o))
                                    | inr h5 ↦
                                        elim (cases_eq k 6) [
                                          | inl e ↦ (Row _ _ _, read-6 xs n small e (below-6 n _ _ _ _ e o))
                                          | inr h6 ↦
                                              let e : k ≡ 7 = omega arith in (Column _ _ _, read-7 xs n small e (below-7 n _ _ _ _ e o))
                                        ]
                                  ]
                            ]
                      ]
                ]
          ]
    ]

-- no node is read where none is in order
pub unread : (xs : List ℕ) (n : ℕ) (r : Option Node) → Reads xs n r → (b : Bool) → is_some r ≡ not b → b ≡ not (orderly xs n)
unread xs n None h true e = sym (ap not h)
unread xs n None h false e = cc
unread xs n (Some d) h true e = cc
unread xs n (Some d) h false e = sym (ap not h.orders)

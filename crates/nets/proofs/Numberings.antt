-- Which refusal comes first, and what the entry then says.
use Rattle.std.proofs.Common.{◌≡◌, ℕ, suc, ◌*◌, true, false, eqb, List, length, Ok, Err, refl, subst, arith}
use Rattle.std.proofs.lemmas.Bool.{ne_eqb, eqb-true, and_parts}
use Rattle.layout.specs.Layout.{Drawing}
use Rattle.layout.specs.Numbers.{layout_in, layout_refusal}
use Rattle.layout.specs.Checks.{TurnedAway}
use Rattle.layout.specs.declared.refusal.Refusal.{Refusal}
use Rattle.layout.specs.declared.refusal.Refusal.TheVariants.{Nodes, Number, Node, Boxes, Regions, Region, Technology as OfTechnology, Spots, Room, Circuit, Text}
use Rattle.layout.specs.declared.refusal.Fault.TheVariants.{Refused, Memory}
use Rattle.nets.specs.Nets.{Technology}
use Rattle.nets.specs.Technologies.{technology_in, technology_ok}
use Rattle.nets.specs.Spots.{spots_ok, Misplaced, Counted}
use Rattle.nets.specs.Numberings.{nets_refusal, Says}

module _ (xs technology spots numbers : List ℕ) where
  layout-first : (n : ℕ) → layout_refusal xs ≡ suc n → nets_refusal xs technology spots numbers ≡ suc n
  unfolding nets_refusal
  layout-first n h = rw (h, ne_eqb (suc n) 0 (λ e. omega arith))

  pub turned-away : (e : Refusal) → TurnedAway xs e → Says xs technology spots numbers (Err (Refused e)) numbers
  turned-away (Nodes p) h = (layout-first 0 h.0, h, refl)
  turned-away (Number p) h = (layout-first 1 h.0, h, refl)
  turned-away (Node p) h = (layout-first 1 h.0, h, refl)
  turned-away (Boxes p) h = (layout-first 2 h.0, h, refl)
  turned-away (Regions p) h = absurd h
  turned-away (Region p) h = absurd h
  turned-away (OfTechnology p) h = absurd h
  turned-away (Spots p) h = absurd h
  turned-away (Room p) h = absurd h
  turned-away (Circuit p) h = absurd h
  turned-away (Text p) h = absurd h

  module _ (taken : layout_refusal xs ≡ 0) where
    pub technology-away : technology_ok technology ≡ false → Says xs technology spots numbers (Err (Refused (OfTechnology (length technology)))) numbers
    unfolding nets_refusal
    technology-away h = (rw (taken, h), refl, refl)

    module _ (ok : technology_ok technology ≡ true) where
      pub spots-away : (p : ℕ) → Misplaced spots (length numbers) p → Says xs technology spots numbers (Err (Refused (Spots p))) numbers
      unfolding nets_refusal
      spots-away p h = (rw (taken, ok, h.0), h, refl)

      module _ (good : spots_ok spots (length numbers) ≡ true) where
        none-away : nets_refusal xs technology spots numbers ≡ 0
        unfolding nets_refusal
        none-away = rw (taken, ok, good)

        pub no-memory : (ns : List ℕ) → ns ≡ numbers → Says xs technology spots numbers (Err Memory) ns
        no-memory ns e = (none-away, e)

        pub numbered :
            (k : Technology) (d : Drawing) (ns : List ℕ) → k ≡ technology_in technology → ((l x y : ℕ) → d l x y ≡ layout_in xs l x y) → length ns ≡ length numbers →
            Counted k d spots (length numbers) ns → Says xs technology spots numbers (Ok tt) ns
        numbered k d ns e h m c = (
          none-away,
          m,
          subst (λ v. Counted (technology_in technology) v spots (length numbers) ns) (λ i l x y. h l x y i) (subst (λ v. Counted v d spots (length numbers) ns) e c),
        )

pub spots-threes : (xs : List ℕ) (n : ℕ) → spots_ok xs n ≡ true → length xs ≡ 3 * n
unfolding spots_ok
spots-threes xs n h = eqb-true (length xs) (3 * n) (and_parts (eqb (length xs) (3 * n)) _ h).0

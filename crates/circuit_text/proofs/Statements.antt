-- What a line says, by how many words it has. Assumes nothing.
use Rattle.std.proofs.Common.{◌≡◌, ℕ, ◌+◌, ◌<◌, ◌≤◌, true, false, List, [], ◌∷◌, ◌++◌, map, length, get_or, drop, is_some, Some, None, Ok, Err, Option, Result, sym, refl, ap, ◌∙◌, subst}
use lib.ListN.{length-map}
use Rattle.words.specs.Steps.{by_some, and_then}
use Rattle.std.proofs.lemmas.List.{drop_more, drop_all}
use Rattle.std.proofs.lemmas.Bool.{false≢true}
use Rattle.layout.specs.declared.refusal.Fault.{Fault}
use Rattle.layout.specs.declared.refusal.Fault.TheVariants.{Refused, Memory}
use Rattle.words.specs.Places.{place_of}
use Rattle.words.specs.declared.word.Marks.TheVariants.{Plain}
use Rattle.words.specs.Words.{token_of, Cut}
use Rattle.words.specs.declared.word.Word.{Word}
use Rattle.circuit_text.specs.Circuits.{Circuit, blank, spelled}
use Rattle.circuit_text.specs.Statements.{new_names, pinned, said_by, stated}
use Rattle.layout.specs.Refusals.{Follows}
use Rattle.words.proofs.Listings.{Listing, list-stopped}
use Rattle.circuit_text.specs.CircuitTexts.{LinesRead}

pub spelled-long : (ws : List Word) → length (spelled ws) ≡ length ws
spelled-long ws = length-map ws (λ w. w.bytes.now)

-- an option that is there, or is not
pub there-is : {A : Type 0} (o : Option A) → is_some o ≡ true → (p : A) × (o ≡ Some p)
there-is (Some p) h = (p, refl)
there-is None h = absurd (false≢true h)

pub none_is : {A : Type 0} (o : Option A) → is_some o ≡ false → o ≡ None
none_is (Some p) h = absurd (false≢true (sym h))
none_is None h = refl

-- pins one after another
module _ (n : ℕ) (ns : List (List ℕ)) (ws : List Word) (i : ℕ) (d : Word) (l : i < length ws) where
  rest-is : spelled (drop i ws) ≡ (get_or ws i d).bytes.now ∷ spelled (drop (i + 1) ws)
  rest-is = ap spelled (drop_more ws i d l)

  pub names-next : is_some (place_of ns (get_or ws i d).bytes.now) ≡ false → new_names n ns (spelled (drop i ws)) ≡ new_names n (ns ++ (get_or ws i d).bytes.now ∷ []) (spelled (drop (i + 1) ws))
  unfolding new_names
  names-next h =
      ap (new_names n ns) rest-is
      ∙ ap (λ o. by_some o (new_names n (ns ++ (get_or ws i d).bytes.now ∷ []) (spelled (drop (i + 1) ws))) (λ k. Err n)) (none_is (place_of ns (get_or ws i d).bytes.now) h)

  pub names-known : is_some (place_of ns (get_or ws i d).bytes.now) ≡ true → new_names n ns (spelled (drop i ws)) ≡ Err n
  unfolding new_names
  names-known h =
      let p = there-is (place_of ns (get_or ws i d).bytes.now) h in
      ap (new_names n ns) rest-is
      ∙ ap (λ o. by_some o (new_names n (ns ++ (get_or ws i d).bytes.now ∷ []) (spelled (drop (i + 1) ws))) (λ k. Err n)) p.1

pub names-done : (n : ℕ) (ns : List (List ℕ)) (ws : List Word) (i : ℕ) → length ws ≤ i → new_names n ns (spelled (drop i ws)) ≡ Ok ns
unfolding new_names
names-done n ns ws i l = ap (λ v. new_names n ns (spelled v)) (drop_all i ws l)

-- all pins, or one that is not new
pub pinned-as : (n : ℕ) (c : Circuit) (ws : List (List ℕ)) (r : Result (List (List ℕ)) ℕ) → is_some c.pins ≡ false → new_names n c.names ws ≡ r → pinned n c ws ≡ and_then r (λ ns. Ok (record { names = ns; pins = Some (record { many = length ws; line = n }); devices = c.devices }))
pinned-as n c ws r h e =
    ap (λ o. by_some o (and_then (new_names n c.names ws) (λ ns. Ok (record { names = ns; pins = Some (record { many = length ws; line = n }); devices = c.devices }))) (λ p. Err n)) (none_is c.pins h)
    ∙ ap (λ v. and_then v (λ ns. Ok (record { names = ns; pins = Some (record { many = length ws; line = n }); devices = c.devices }))) e

-- the words of a line
map-bytes : (ws : List Word) → map (λ t. t.bytes) (map token_of ws) ≡ spelled ws
map-bytes [] = refl
map-bytes (w ∷ ws) = ap (λ r. w.bytes.now ∷ r) (map-bytes ws)

pub stated-as : (n : ℕ) (c : Circuit) (line : List ℕ) (ws : List Word) → Cut Plain line ws → stated n c line ≡ said_by n c (spelled ws)
stated-as n c line ws cut = ap (λ ts. said_by n c (map (λ t. t.bytes) ts)) (sym cut.same) ∙ ap (said_by n c) (map-bytes ws)

-- a line says what its words say, by the first of them
pub follows-word : (n : ℕ) (c : Circuit) (line : List ℕ) (ws : List Word) → Cut Plain line ws → (k : Word) (rest : List Word) → ws ≡ k ∷ rest → (w : List ℕ) → k.bytes.now ≡ w →
    (d : Circuit) (r : Result (Unit {0}) Fault) → Follows (said_by n c (w ∷ spelled rest)) d r → Follows (stated n c line) d r
follows-word n c line ws cut k rest is w e d r h =
    subst (λ (u : Result Circuit ℕ). Follows u d r) (sym (stated-as n c line ws cut ∙ ap (λ us. said_by n c (spelled us)) is ∙ ap (λ u. said_by n c (u ∷ spelled rest)) e)) h

-- a line that can't be read stops the text
pub stopped : (text : List ℕ) (left : List (List ℕ)) (n : ℕ) (s : Circuit) → Listing stated blank text left n s → (line : List ℕ) (rest : List (List ℕ)) → left ≡ line ∷ rest → (k : ℕ) → k ≡ n →
    (c : Circuit) (f : Fault) → Follows {U = Unit {0}} (stated k s line) c (Err f) → LinesRead text (Err f)
stopped text left n s h line rest e k a c (Refused r) j = (j.0, list-stopped stated blank text left n s h line rest e k a _ j.1)
stopped text left n s h line rest e k a c Memory j = tt

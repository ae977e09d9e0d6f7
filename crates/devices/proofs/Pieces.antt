-- The first item of the group of each, in a list.
use Rattle.std.proofs.Common.{◌≡◌, ℕ, ◌+◌, ◌<◌, ◌≤◌, List, [], ◌∷◌, ◌++◌, length, vec_items, sym, ap, ◌∙◌, subst, inl, inr, arith}
use Rattle.std.proofs.lemmas.List.{length_push, get_or_append_left, get_or_push, get_or_past}
use Rattle.std.proofs.lemmas.Bool.{cases_lt}
use Rattle.layout.specs.Layout.{Drawing}
use Rattle.groups.specs.Names.{size, group}
use Rattle.groups.specs.Chains.{Grouped}
use Rattle.groups.specs.declared.forest.Groups.{Groups}
use Rattle.groups.proofs.Roots.{root-low, root-at, root_ends}
use Rattle.scanline.specs.declared.band.Band.{Band}
use Rattle.tiles.specs.declared.tile.Tile.{Tile}
use Rattle.tiles.specs.Tiles.{held, Ordered}
use Rattle.tiles.specs.Cuts.{Cut}
use Rattle.tiles.specs.Links.{Touch}
use Rattle.nets.specs.Nets.{Technology, wire}
use Rattle.nets.specs.Wires.{Tiled, Named}
use Rattle.devices.specs.Pieces.{root_of, Linked, Wired}

-- the first i are in the list
pub record Rooted (f : ℕ → ℕ) (i : ℕ) (rs : List ℕ) : Type 0 where
  pub long : length rs ≡ i
  pub each : (j : ℕ) → j < i → root_of rs j ≡ f j

pub rooted_none : (f : ℕ → ℕ) (rs : List ℕ) → rs ≡ [] → Rooted f 0 rs
rooted_none f rs e = record { long = ap length e; each = λ j h. absurd (omega arith) }

pub rooted_more : (f : ℕ → ℕ) (i r : ℕ) (rs ss : List ℕ) → r ≡ f i → ss ≡ rs ++ r ∷ [] → Rooted f i rs → Rooted f (i + 1) ss
rooted_more f i r rs ss e h old = subst (Rooted f (i + 1)) (sym h) (record {
  long = length_push rs r ∙ ap (λ n. n + 1) old.long;
  each = λ j l. elim (cases_lt j i) [
    | inl k ↦ get_or_append_left rs (r ∷ []) j j (omega (arith, old.long)) ∙ old.each j k
    | inr g ↦ let z : j ≡ i = omega arith in get_or_push rs r j j (old.long ∙ sym z) ∙ (e ∙ ap f (sym z))
  ];
})

pub rooted-all : (g : Groups) (i n : ℕ) (rs : List ℕ) → size g ≡ n → n ≤ i → i ≤ n → Rooted (group g) i rs → (length rs ≡ n) × ((j : ℕ) → root_of rs j ≡ group g j)
rooted-all g i n rs e p q all = (
  omega (arith, all.long),
  λ j. elim (cases_lt j i) [
    | inl l ↦ all.each j l
    | inr m ↦ get_or_past rs j j (omega (arith, all.long)) ∙ sym (root-at (vec_items g.parents) j (get_or_past (vec_items g.parents) j j (omega (arith, g.parents.ok.0))))
  ],
)

module _ (g : Groups) (rs : List ℕ) (same : (i : ℕ) → root_of rs i ≡ group g i) where
  roots-are : group g ≡ root_of rs
  roots-are = λ j i. sym (same i) j

  roots-low : (i : ℕ) → root_of rs i ≤ i
  roots-low i = omega (arith, same i, root-low (vec_items g.parents) g.falls i)

  roots-top : (i : ℕ) → root_of rs (root_of rs i) ≡ root_of rs i
  roots-top i = ap (root_of rs) (same i) ∙ (same (group g i) ∙ (root-at (vec_items g.parents) (group g i) (root_ends (vec_items g.parents) g.falls i) ∙ sym (same i)))

  pub linked-from :
      (layer : ℕ) (bs : List Band) (before ts slice : List Tile) → before ≡ [] → Cut layer bs before ts → slice ≡ ts → Grouped (Touch slice) (group g) → length rs ≡ length ts → Linked layer bs ts rs
  linked-from layer bs before ts slice none cut e grouped long =
      let all : ts ≡ cut.fresh = cut.adds ∙ ap (λ v. v ++ cut.fresh) none in
      record {
        ordered = subst Ordered (sym all) cut.ordered;
        holds = λ l x y. ap (λ v. held v l x y) all ∙ cut.holds l x y;
        long = long;
        low = roots-low;
        top = roots-top;
        grouped = subst (λ f. Grouped (Touch ts) f) roots-are (subst (λ v. Grouped (Touch v) (group g)) e grouped);
      }

  pub wired-from : (k : Technology) (d : Drawing) (ts slice : List Tile) → Tiled (wire k d) ts → slice ≡ ts → Named k d slice (group g) → length rs ≡ length ts → Wired k d ts rs
  wired-from k d ts slice tiled e named long = record {
    tiled = tiled;
    long = long;
    named = subst (λ f. Named k d ts f) roots-are (subst (λ v. Named k d v (group g)) e named);
  }

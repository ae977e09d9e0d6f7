-- Parts that draw the same, put together. Assumes nothing.
use Rattle.std.proofs.Common.{◌≡◌, ℕ, zero, suc, ◌-◌, ◌≤◌, Bool, true, false, ◌&&◌, ◌||◌, ltb, leb, List, [], ◌∷◌, ◌++◌, sym, refl, ap, ◌∙◌, arith}
use Rattle.std.proofs.lemmas.Bool.{and_parts, leb-true}
use Rattle.layout.specs.Layout.{Layout, nothing, both, moved, turned, mirrored, row, column, Drawing, shifted, in_a_row, in_a_column, drawn_with}
use Rattle.layout.specs.Numbers.{earlier_1}
use Rattle.text.specs.Scenes.{together, together_with}
use Rattle.text.proofs.Scenes.{not-moved}

abbrev pub drawing : Layout → Drawing
drawing p = drawn_with (λ k l x y. false) p

-- one of the eight kinds
pub kinds : (P : ℕ → Type 0) → P 0 → P 1 → P 2 → P 3 → P 4 → P 5 → P 6 → P 7 → (k : ℕ) → k ≤ 7 → P k
kinds P p0 p1 p2 p3 p4 p5 p6 p7 zero h = p0
kinds P p0 p1 p2 p3 p4 p5 p6 p7 (suc zero) h = p1
kinds P p0 p1 p2 p3 p4 p5 p6 p7 (suc (suc zero)) h = p2
kinds P p0 p1 p2 p3 p4 p5 p6 p7 (suc (suc (suc zero))) h = p3
kinds P p0 p1 p2 p3 p4 p5 p6 p7 (suc (suc (suc (suc zero)))) h = p4
kinds P p0 p1 p2 p3 p4 p5 p6 p7 (suc (suc (suc (suc (suc zero))))) h = p5
kinds P p0 p1 p2 p3 p4 p5 p6 p7 (suc (suc (suc (suc (suc (suc zero)))))) h = p6
kinds P p0 p1 p2 p3 p4 p5 p6 p7 (suc (suc (suc (suc (suc (suc (suc zero))))))) h = p7
kinds P p0 p1 p2 p3 p4 p5 p6 p7 (suc (suc (suc (suc (suc (suc (suc (suc k)))))))) h = absurd (omega arith)

pub at_most_7 : (n k a b c : ℕ) → earlier_1 n k a b c ≡ true → k ≤ 7
unfolding earlier_1
at_most_7 n k a b c o = leb-true k 7 (and_parts (leb k 7) _ o).0

pub moved_same : (r b : ℕ) (p q : Layout) → drawing p ≡ drawing q → drawing (moved r b p) ≡ drawing (moved r b q)
unfolding drawn_with
moved_same r b p q e = λ i l x y. shifted r b (e i) l x y

pub turned_same : (s : ℕ) (p q : Layout) → drawing p ≡ drawing q → drawing (turned s p) ≡ drawing (turned s q)
unfolding drawn_with
turned_same s p q e = λ i l x y. ltb x s && (ltb y s && e i l y (s - 1 - x))

pub mirrored-same : (s : ℕ) (p q : Layout) → drawing p ≡ drawing q → drawing (mirrored s p) ≡ drawing (mirrored s q)
unfolding drawn_with
mirrored-same s p q e = λ i l x y. ltb x s && e i l (s - 1 - x) y

pub row_same : (n f : ℕ) (p q : Layout) → drawing p ≡ drawing q → drawing (row n f p) ≡ drawing (row n f q)
unfolding drawn_with
row_same n f p q e = λ i l x y. in_a_row n f (e i) l x y

pub column-same : (n f : ℕ) (p q : Layout) → drawing p ≡ drawing q → drawing (column n f p) ≡ drawing (column n f q)
unfolding drawn_with
column-same n f p q e = λ i l x y. in_a_column n f (e i) l x y

pub put_same : (p : Layout) → drawing (moved 0 0 p) ≡ drawing p
put_same p = λ i l x y. not-moved p l x y i

-- what parts draw
pub spread : List Layout → Drawing
spread [] = λ l x y. false
spread (p ∷ ps) = λ l x y. drawing p l x y || spread ps l x y

or-false : (b : Bool) → (b || false) ≡ b
or-false true = refl
or-false false = refl

or_assoc : (a b c : Bool) → ((a || b) || c) ≡ (a || (b || c))
or_assoc true b c = refl
or_assoc false b c = refl

pub spread_none : spread [] ≡ drawing nothing
unfolding spread drawn_with
spread_none = λ i l x y. false

pub spread_one : (p : Layout) → spread (p ∷ []) ≡ drawing p
unfolding spread
spread_one p = λ i l x y. or-false (drawing p l x y) i

spread_append : (ps qs : List Layout) (l x y : ℕ) → spread (ps ++ qs) l x y ≡ (spread ps l x y || spread qs l x y)
unfolding spread
spread_append [] qs l x y = refl
spread_append (p ∷ ps) qs l x y = ap (λ t. drawing p l x y || t) (spread_append ps qs l x y) ∙ sym (or_assoc (drawing p l x y) (spread ps l x y) (spread qs l x y))

pub spread_both : (ps qs : List Layout) (p q : Layout) → spread ps ≡ drawing p → spread qs ≡ drawing q → spread (ps ++ qs) ≡ drawing (both p q)
unfolding drawn_with
spread_both ps qs p q e f =
    let g : spread (ps ++ qs) ≡ (λ l x y. spread ps l x y || spread qs l x y) = λ i l x y. spread_append ps qs l x y i in
    let h : (λ l x y. spread ps l x y || spread qs l x y) ≡ drawing (both p q) = λ i l x y. e i l x y || f i l x y in
    g ∙ h

with_spread : (ps : List Layout) (p : Layout) (l x y : ℕ) → drawing (together_with p ps) l x y ≡ (drawing p l x y || spread ps l x y)
unfolding spread together_with drawn_with
with_spread [] p l x y = sym (or-false (drawing p l x y))
with_spread (q ∷ qs) p l x y = with_spread qs (both p q) l x y ∙ or_assoc (drawing p l x y) (drawing q l x y) (spread qs l x y)

pub together_spread : (ps : List Layout) → drawing (together ps) ≡ spread ps
unfolding spread
together_spread [] = sym spread_none
together_spread (p ∷ ps) = λ i l x y. with_spread ps p l x y i

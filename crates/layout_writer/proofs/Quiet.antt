-- A text that says no pin has none. Assumes nothing.
use Rattle.std.proofs.Common.{◌≡◌, ℕ, suc, cond, eqb, List, [], ◌∷◌, length, get_or, Some, None, Option, refl, ap, ◌∙◌, inl, inr}
use Rattle.std.proofs.lemmas.Bool.{cases_Bool}
use Rattle.std.specs.List.{AllByRecursion}
use Rattle.words.specs.Steps.{by_some}
use Rattle.layout.specs.declared.change.Change.{Change}
use Rattle.layout.specs.declared.change.Change.TheVariants.{Move, Turn, Mirror}
use Rattle.layout.specs.declared.node.Node.{Node}
use Rattle.layout.specs.declared.node.Node.TheVariants.{One, Changed, Row, Column}
use Rattle.text.specs.Sheets.{added, joined}
use Rattle.text.specs.Plans.{Drawing, blank, placed, sheeted, waiting, drawn, moved_on, turned, begun, said, all_said, last, finished}
use Rattle.text.specs.declared.plan.Pin.{Pin}
use Rattle.text.specs.declared.statement.Statement.{Statement}
use Rattle.text.specs.declared.statement.Statement.TheVariants as statement
use Rattle.text.specs.declared.statement.Said.{Said}

abbrev pub Unpinned : Statement → Type 0
Unpinned (statement.Box l x y a h) = Unit {0}
Unpinned statement.Cell = Unit {0}
Unpinned statement.Close = Unit {0}
Unpinned (statement.Put c x y) = Unit {0}
Unpinned (statement.Turned s) = Unit {0}
Unpinned (statement.Mirrored s) = Unit {0}
Unpinned (statement.Row m f c) = Unit {0}
Unpinned (statement.Column m f c) = Unit {0}
Unpinned (statement.Pin l x y) = ⊥

abbrev pub Quiet : Said → Type 0
Quiet s = Unpinned s.statement

by-pins : {A : Type 0} (o : Option A) (d : Drawing) (f : A → Drawing) (ps : List Pin) → d.pins ≡ ps → ((a : A) → (f a).pins ≡ ps) → (by_some o d f).pins ≡ ps
by-pins None d f ps e g = e
by-pins (Some a) d f ps e g = g a

placed_pins : (d : Drawing) (n : ℕ) → (placed d n).pins ≡ d.pins
placed_pins d n = by-pins d.within _ _ d.pins refl (λ k. refl)

drawn_pins : (d : Drawing) (b : Node) (line : ℕ) → (drawn d b line).pins ≡ d.pins
drawn_pins d b line = placed_pins (sheeted d (added d.sheet b (Some line))) (length d.sheet.lines)

moved-pins : (d : Drawing) → (moved_on d).pins ≡ d.pins
moved-pins d = by-pins d.put d _ d.pins refl (λ p. drawn_pins (waiting d None) (Changed (Move p.x p.y) p.node) p.line)

turned-pins : (d : Drawing) (by : Change) → (turned d by).pins ≡ d.pins
turned-pins d by = by-pins d.put d _ d.pins refl (λ p. refl)

begun-pins : (d : Drawing) (s : Statement) (n : ℕ) → Unpinned s → (begun d s n).pins ≡ d.pins
begun-pins d (statement.Box l x y a h) n u = drawn_pins d (One (record { layer = l; x = x; y = y; across = a; down = h })) n
begun-pins d statement.Cell n u = refl
begun-pins d statement.Close n u = refl
begun-pins d (statement.Put c x y) n u = refl
begun-pins d (statement.Turned s) n u = refl
begun-pins d (statement.Mirrored s) n u = refl
begun-pins d (statement.Row m f c) n u = drawn_pins d (Row m f (get_or d.cells c 0)) n
begun-pins d (statement.Column m f c) n u = drawn_pins d (Column m f (get_or d.cells c 0)) n
begun-pins d (statement.Pin l x y) n u = absurd u

next-pins : (d : Drawing) (s : Statement) (n : ℕ) → Unpinned s → (begun (moved_on d) s n).pins ≡ d.pins
next-pins d s n u = begun-pins (moved_on d) s n u ∙ moved-pins d

said-pins : (d : Drawing) (s : Statement) (n : ℕ) → Unpinned s → (said d s n).pins ≡ d.pins
said-pins d (statement.Box l x y a h) n u = next-pins d (statement.Box l x y a h) n u
said-pins d statement.Cell n u = next-pins d statement.Cell n u
said-pins d statement.Close n u = next-pins d statement.Close n u
said-pins d (statement.Put c x y) n u = next-pins d (statement.Put c x y) n u
said-pins d (statement.Turned s) n u = turned-pins d (Turn s)
said-pins d (statement.Mirrored s) n u = turned-pins d (Mirror s)
said-pins d (statement.Row m f c) n u = next-pins d (statement.Row m f c) n u
said-pins d (statement.Column m f c) n u = next-pins d (statement.Column m f c) n u
said-pins d (statement.Pin l x y) n u = absurd u

all_pins : (ss : List Said) (d : Drawing) → AllByRecursion Quiet ss → (all_said d ss).pins ≡ d.pins
unfolding all_said
all_pins [] d q = refl
all_pins (s ∷ ss) d q = all_pins ss (said d s.statement s.line) q.1 ∙ said-pins d s.statement s.line q.0

last-pins : (d : Drawing) (n : ℕ) → (last d n).pins ≡ d.pins
last-pins d n =
    let e = sheeted d (added d.sheet (Changed (Move 0 0) n) None) in
    elim (cases_Bool (eqb (suc n) (length d.sheet.lines))) [ inl t ↦ ap (λ b. (cond b d e).pins) t | inr t ↦ ap (λ b. (cond b d e).pins) t ]

pub no_pins : (ss : List Said) → AllByRecursion Quiet ss → (finished (all_said blank ss)).pins ≡ []
no_pins ss q =
    let d = moved_on (all_said blank ss) in
    let j = joined d.sheet d.outer None in
    last-pins (sheeted d j.sheet) j.node ∙ moved-pins (all_said blank ss) ∙ all_pins ss blank q

-- Statements drawn as nodes: which numbers a layout text means. Assumes nothing: these are definitions.
use Rattle.std.specs.Prelude.{ℕ, suc, cond, List, [], ◌∷◌, ◌++◌, length, Some, None, vec_items, Option, ◌==◌, slice_index}
use Rattle.layout.specs.declared.change.Change.{Change}
use Rattle.layout.specs.declared.change.Change.TheVariants.{Move, Turn, Mirror}
use Rattle.layout.specs.declared.node.Node.{Node}
use Rattle.layout.specs.declared.node.Node.TheVariants.{One, Changed, Row, Column}
use Rattle.words.specs.Steps.{by_some}
use Rattle.text.specs.Sheets.{Nodes, added, joined, sheet_of}
use Rattle.text.specs.declared.statement.Statement.{Statement}
use Rattle.text.specs.declared.statement.Statement.TheVariants as statement
use Rattle.text.specs.declared.statement.Said.{Said}
use Rattle.text.specs.declared.plan.Pin.{Pin}
use Rattle.text.specs.declared.plan.Put.{Put}
use Rattle.text.specs.declared.plan.Plan.{Plan}

-- the nodes so far; the node of each cell; the nodes of the text's statements and of the open cell's, with the cell's line; a put that waits for its turns; the pins
pub record Drawing : Type 0 where
  pub sheet : Nodes
  pub cells : List ℕ
  pub outer : List ℕ
  pub inner : List ℕ
  pub within : Option ℕ
  pub put : Option Put
  pub pins : List Pin

abbrev pub plan_of : Plan → Drawing
plan_of p = record { sheet = sheet_of p.sheet; cells = vec_items p.cells; outer = vec_items p.outer; inner = vec_items p.inner; within = p.within; put = p.put; pins = vec_items p.pins }

abbrev pub blank : Drawing
blank = record { sheet = record { nodes = []; lines = [] }; cells = []; outer = []; inner = []; within = None; put = None; pins = [] }

-- one more statement of the cell that is open, or of the text
abbrev pub placed : Drawing → ℕ → Drawing
placed d n =
    by_some d.within
    (record { sheet = d.sheet; cells = d.cells; outer = d.outer ++ n ∷ []; inner = d.inner; within = d.within; put = d.put; pins = d.pins })
    (λ k. record { sheet = d.sheet; cells = d.cells; outer = d.outer; inner = d.inner ++ n ∷ []; within = d.within; put = d.put; pins = d.pins })

abbrev pub sheeted : Drawing → Nodes → Drawing
sheeted d s = record { sheet = s; cells = d.cells; outer = d.outer; inner = d.inner; within = d.within; put = d.put; pins = d.pins }

abbrev pub waiting : Drawing → Option Put → Drawing
waiting d p = record { sheet = d.sheet; cells = d.cells; outer = d.outer; inner = d.inner; within = d.within; put = p; pins = d.pins }

-- a statement's node
abbrev pub drawn : Drawing → Node → ℕ → Drawing
drawn d node line = placed (sheeted d (added d.sheet node (Some line))) (length d.sheet.lines)

-- a put is moved once its turns are over
abbrev pub moved_on : Drawing → Drawing
moved_on d = by_some d.put d (λ p. drawn (waiting d None) (Changed (Move p.x p.y) p.node) p.line)

abbrev pub turned : Drawing → Change → Drawing
turned d by =
    by_some d.put d
    (λ p. waiting (sheeted d (added d.sheet (Changed by p.node) (Some p.line))) (Some (record { node = length d.sheet.lines; x = p.x; y = p.y; line = p.line })))

-- a cell ends: its statements are put together
abbrev pub closed : Drawing → Drawing
closed d =
    let j = joined d.sheet d.inner d.within in
    record { sheet = j.sheet; cells = d.cells ++ j.node ∷ []; outer = d.outer; inner = d.inner; within = None; put = d.put; pins = d.pins }

abbrev pub opened : Drawing → ℕ → Drawing
opened d line = record { sheet = d.sheet; cells = d.cells; outer = d.outer; inner = []; within = Some line; put = d.put; pins = d.pins }

abbrev pub pinned : Drawing → Pin → Drawing
pinned d p = record { sheet = d.sheet; cells = d.cells; outer = d.outer; inner = d.inner; within = d.within; put = d.put; pins = d.pins ++ p ∷ [] }

-- what each statement draws, but for a turn
abbrev pub begun : Drawing → Statement → ℕ → Drawing
begun d (statement.Box l x y a h) n = drawn d (One (record { layer = l; x = x; y = y; across = a; down = h })) n
begun d statement.Cell n = opened d n
begun d statement.Close n = closed d
begun d (statement.Put c x y) n = waiting d (Some (record { node = slice_index d.cells c; x = x; y = y; line = n }))
begun d (statement.Turned s) n = d
begun d (statement.Mirrored s) n = d
begun d (statement.Row m f c) n = drawn d (Row m f (slice_index d.cells c)) n
begun d (statement.Column m f c) n = drawn d (Column m f (slice_index d.cells c)) n
begun d (statement.Pin l x y) n = pinned d (record { layer = l; x = x; y = y })

-- a turn changes the put before; any other statement ends that put
abbrev pub said : Drawing → Statement → ℕ → Drawing
said d (statement.Box l x y a h) n = begun (moved_on d) (statement.Box l x y a h) n
said d statement.Cell n = begun (moved_on d) statement.Cell n
said d statement.Close n = begun (moved_on d) statement.Close n
said d (statement.Put c x y) n = begun (moved_on d) (statement.Put c x y) n
said d (statement.Turned s) n = turned d (Turn s)
said d (statement.Mirrored s) n = turned d (Mirror s)
said d (statement.Row m f c) n = begun (moved_on d) (statement.Row m f c) n
said d (statement.Column m f c) n = begun (moved_on d) (statement.Column m f c) n
said d (statement.Pin l x y) n = begun (moved_on d) (statement.Pin l x y) n

unfoldable pub all_said : Drawing → List Said → Drawing
all_said d [] = d
all_said d (s ∷ ss) = all_said (said d s.statement s.line) ss

-- the layout is the last node: where a text's only statement is not, it is moved by nothing
abbrev pub last : Drawing → ℕ → Drawing
last d n = cond (suc n == length d.sheet.lines) d (sheeted d (added d.sheet (Changed (Move 0 0) n) None))

abbrev pub finished : Drawing → Drawing
finished d =
    let e = moved_on d in
    let j = joined e.sheet e.outer None in
    last (sheeted e j.sheet) j.node

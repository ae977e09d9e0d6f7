-- The nodes of a text draw what its statements draw. Assumes nothing.
use Rattle.std.proofs.Common.{◌≡◌, ℕ, zero, suc, ◌+◌, ◌-◌, ◌*◌, ◌<◌, false, cond, List, [], ◌∷◌, ◌++◌, length, get_or, is_some, Some, None, Ok, Option, Result, sym, refl, ap, ◌∙◌, subst, inl, inr, arith}
use Rattle.std.proofs.lemmas.List.{length-append, length_push, append_assoc, append-nil}
use Rattle.std.proofs.lemmas.Bool.{cases_eq, eq-eqb, ne_eqb, le-leb}
use Rattle.layout.specs.Layout.{Layout, nothing, box, both, moved, turned, mirrored, row, column, shifted, drawn_with}
use Rattle.layout.specs.Layout as layouts
use Rattle.layout.specs.Nodes.{numbers_of}
use Rattle.layout.specs.declared.change.Change.{Change}
use Rattle.layout.specs.declared.change.Change.TheVariants.{Move, Turn, Mirror}
use Rattle.layout.specs.declared.node.Node.{Node}
use Rattle.layout.specs.declared.node.Node.TheVariants.{Nothing, One, Both, Changed, Row, Column}
use Rattle.layout.specs.Numbers.{layout_in, node_at, sixes}
use Rattle.layout.proofs.Checks.{sixes-near}
use Rattle.words.specs.Steps.{by_some}
use Rattle.text.specs.Readings.{State, said_in}
use Rattle.text.specs.Sheets.{Nodes, Joined, added, joined, joined_to}
use Rattle.text.specs.Plans.{Drawing, blank, placed, sheeted, waiting, drawn, moved_on, begun, said, all_said, last, finished}
use Rattle.text.specs.Plans as plans
use Rattle.text.specs.Scenes.{Scene, Placed, empty, together, together_with, part_more, holding, put_down, changed, begins, shown, all_shown, picture, Draws}
use Rattle.text.proofs.Cells.{NamesEnded, ends, AllEnded}
use Rattle.text.proofs.Ended.{said-sane}
use Rattle.text.specs.declared.statement.Statement.{Statement}
use Rattle.text.specs.declared.statement.Statement.TheVariants as statement
use Rattle.text.specs.declared.statement.Said.{Said}
use Rattle.text.specs.declared.plan.Put.{Put}
use Rattle.text.proofs.Denotes.{HasNumbers, Denotes, a_nothing, a_box, a_both, a_moved, a_turned, a_mirrored, a_row, a_column, node-new, more, inside, is_at}

-- nodes, one by one
abbrev pub Each : List ℕ → List ℕ → List Layout → Type 0
Each xs [] [] = Unit {0}
Each xs [] (p ∷ ps) = ⊥
Each xs (n ∷ ns) [] = ⊥
Each xs (n ∷ ns) (p ∷ ps) = Denotes xs n p × Each xs ns ps

pub each_more : (xs ys : List ℕ) (ns : List ℕ) (ps : List Layout) → Each xs ns ps → Each (xs ++ ys) ns ps
each_more xs ys [] [] e = tt
each_more xs ys [] (p ∷ ps) e = e
each_more xs ys (n ∷ ns) [] e = e
each_more xs ys (n ∷ ns) (p ∷ ps) e = (more xs ys e.0, each_more xs ys ns ps e.1)

pub each-push : (xs : List ℕ) (ns : List ℕ) (ps : List Layout) (n : ℕ) (p : Layout) → Each xs ns ps → Denotes xs n p → Each xs (ns ++ n ∷ []) (ps ++ p ∷ [])
each-push xs [] [] n p e d = (d, tt)
each-push xs [] (q ∷ qs) n p e d = absurd e
each-push xs (m ∷ ms) [] n p e d = absurd e
each-push xs (m ∷ ms) (q ∷ qs) n p e d = (e.0, each-push xs ms qs n p e.1 d)

pub each_at : (xs : List ℕ) (ns : List ℕ) (ps : List Layout) (c : ℕ) → Each xs ns ps → c < length ns → Denotes xs (get_or ns c 0) (get_or ps c nothing)
each_at xs [] [] c e h = absurd (omega arith)
each_at xs [] (q ∷ qs) c e h = absurd e
each_at xs (m ∷ ms) [] c e h = absurd e
each_at xs (m ∷ ms) (q ∷ qs) zero e h = e.0
each_at xs (m ∷ ms) (q ∷ qs) (suc c) e h = each_at xs ms qs c e.1 (omega arith)

pub each_long : (xs : List ℕ) (ns : List ℕ) (ps : List Layout) → Each xs ns ps → length ns ≡ length ps
each_long xs [] [] e = refl
each_long xs [] (q ∷ qs) e = absurd e
each_long xs (m ∷ ms) [] e = absurd e
each_long xs (m ∷ ms) (q ∷ qs) e = ap suc (each_long xs ms qs e.1)

abbrev pub Waits : List ℕ → Option Put → Option Placed → Type 0
Waits xs None None = Unit {0}
Waits xs None (Some q) = ⊥
Waits xs (Some p) None = ⊥
Waits xs (Some p) (Some q) = Denotes xs p.node q.what × (p.x ≡ q.x) × (p.y ≡ q.y)

pub waits_more : (xs ys : List ℕ) (p : Option Put) (q : Option Placed) → Waits xs p q → Waits (xs ++ ys) p q
waits_more xs ys None None w = tt
waits_more xs ys None (Some q) w = w
waits_more xs ys (Some p) None w = w
waits_more xs ys (Some p) (Some q) w = (more xs ys w.0, w.1, w.2)

-- a sheet is whole, and one is another with more nodes
abbrev pub Whole : Nodes → Type 0
Whole s = length s.nodes ≡ 6 * length s.lines

-- a node has six numbers
pub six : (d : Node) → length (numbers_of d) ≡ 6
six Nothing = refl
six (One q) = refl
six (Both a b) = refl
six (Changed (Move r b) a) = refl
six (Changed (Turn s) a) = refl
six (Changed (Mirror s) a) = refl
six (Row m f a) = refl
six (Column m f a) = refl

pub whole-added : (s : Nodes) (d : Node) (l : Option ℕ) → Whole s → Whole (added s d l)
whole-added s d l w = omega (arith, six d, length-append s.nodes (numbers_of d), length_push s.lines l)

new : (s : Nodes) (d : Node) → Whole s → HasNumbers (s.nodes ++ numbers_of d) (length s.lines) (numbers_of d)
new s d w = node-new s.nodes (length s.lines) (numbers_of d) w (six d)

pub below : (s : Nodes) {n : ℕ} {p : Layout} → Whole s → Denotes s.nodes n p → n < length s.lines
below s w d = omega (arith, inside s.nodes d)

-- what parts are together
pub record Joins (s : Nodes) (j : Joined) (p : Layout) : Type 0 where
  pub more_nodes : List ℕ
  pub after : j.sheet.nodes ≡ s.nodes ++ more_nodes
  pub whole : Whole j.sheet
  pub is : Denotes j.sheet.nodes j.node p

pub joins-to : (s : Nodes) (n : ℕ) (ns : List ℕ) (l : Option ℕ) (p : Layout) (ps : List Layout) → Whole s → Denotes s.nodes n p → Each s.nodes ns ps → Joins s (joined_to s n ns l) (together_with p ps)
unfolding joined_to together_with
joins-to s n [] l p [] w d e = record { more_nodes = []; after = sym (append-nil s.nodes); whole = w; is = d }
joins-to s n [] l p (q ∷ qs) w d e = absurd e
joins-to s n (m ∷ ms) l p [] w d e = absurd e
joins-to s n (m ∷ ms) l p (q ∷ qs) w d e =
    let b = Both n m in
    let ks = numbers_of b in
    let t = added s b l in
    let here : Denotes t.nodes (length s.lines) (both p q) = a_both (new s b w) (below s w d) (below s w e.0) (more s.nodes ks d) (more s.nodes ks e.0) in
    let j = joins-to t (length s.lines) ms l (both p q) qs (whole-added s b l w) here (each_more s.nodes ks ms qs e.1) in
    record { more_nodes = ks ++ j.more_nodes; after = j.after ∙ append_assoc s.nodes ks j.more_nodes; whole = j.whole; is = j.is }

pub joins : (s : Nodes) (ns : List ℕ) (l : Option ℕ) (ps : List Layout) → Whole s → Each s.nodes ns ps → Joins s (joined s ns l) (together ps)
joins s [] l [] w e =
    record { more_nodes = numbers_of Nothing; after = refl; whole = whole-added s Nothing l w; is = a_nothing (new s Nothing w) }
joins s [] l (q ∷ qs) w e = absurd e
joins s (m ∷ ms) l [] w e = absurd e
joins s (m ∷ ms) l (q ∷ qs) w e = joins-to s m ms l q qs w e.0 e.1

-- a drawing shows a scene
pub record Shows (d : Drawing) (s : Scene) : Type 0 where
  pub whole : Whole d.sheet
  pub cells : Each d.sheet.nodes d.cells s.cells
  pub outer : Each d.sheet.nodes d.outer s.outer
  pub inner : Each d.sheet.nodes d.inner s.inner
  pub within : s.inside ≡ is_some d.within
  pub put : Waits d.sheet.nodes d.put s.put

pub shows-empty : Shows blank empty
shows-empty = record { whole = refl; cells = tt; outer = tt; inner = tt; within = refl; put = tt }

-- nodes may come after
pub shows-sheet : (d : Drawing) (s : Scene) (t : Nodes) (ys : List ℕ) → Shows d s → t.nodes ≡ d.sheet.nodes ++ ys → Whole t → Shows (sheeted d t) s
shows-sheet d s t ys h e w = record {
  whole = w;
  cells = subst (λ (xs : List ℕ). Each xs d.cells s.cells) (sym e) (each_more d.sheet.nodes ys d.cells s.cells h.cells);
  outer = subst (λ (xs : List ℕ). Each xs d.outer s.outer) (sym e) (each_more d.sheet.nodes ys d.outer s.outer h.outer);
  inner = subst (λ (xs : List ℕ). Each xs d.inner s.inner) (sym e) (each_more d.sheet.nodes ys d.inner s.inner h.inner);
  within = h.within;
  put = subst (λ (xs : List ℕ). Waits xs d.put s.put) (sym e) (waits_more d.sheet.nodes ys d.put s.put h.put);
}

-- one part more
abbrev outer-more : Drawing → ℕ → Drawing
outer-more d n = record { sheet = d.sheet; cells = d.cells; outer = d.outer ++ n ∷ []; inner = d.inner; within = d.within; put = d.put; pins = d.pins }

abbrev inner-more : Drawing → ℕ → Drawing
inner-more d n = record { sheet = d.sheet; cells = d.cells; outer = d.outer; inner = d.inner ++ n ∷ []; within = d.within; put = d.put; pins = d.pins }

abbrev outer-part : Scene → Layout → Scene
outer-part s p = record { cells = s.cells; outer = s.outer ++ p ∷ []; inner = s.inner; inside = s.inside; put = s.put }

abbrev inner-part : Scene → Layout → Scene
inner-part s p = record { cells = s.cells; outer = s.outer; inner = s.inner ++ p ∷ []; inside = s.inside; put = s.put }

place-by : (d : Drawing) (s : Scene) (n : ℕ) (p : Layout) → Shows d s → Denotes d.sheet.nodes n p → (w : Option ℕ) → d.within ≡ w → Shows (placed d n) (part_more s p)
place-by d s n p h den None e =
    let shows : Shows (outer-more d n) (outer-part s p) = record { whole = h.whole; cells = h.cells; outer = each-push d.sheet.nodes d.outer s.outer n p h.outer den; inner = h.inner; within = h.within; put = h.put } in
    subst (λ (D : Drawing). Shows D (part_more s p)) (sym (ap (λ u. by_some u (outer-more d n) (λ k. inner-more d n)) e))
    (subst (λ (S : Scene). Shows (outer-more d n) S) (sym (ap (λ t. cond t (inner-part s p) (outer-part s p)) (h.within ∙ ap is_some e))) shows)
place-by d s n p h den (Some k) e =
    let shows : Shows (inner-more d n) (inner-part s p) = record { whole = h.whole; cells = h.cells; outer = h.outer; inner = each-push d.sheet.nodes d.inner s.inner n p h.inner den; within = h.within; put = h.put } in
    subst (λ (D : Drawing). Shows D (part_more s p)) (sym (ap (λ u. by_some u (outer-more d n) (λ k. inner-more d n)) e))
    (subst (λ (S : Scene). Shows (inner-more d n) S) (sym (ap (λ t. cond t (inner-part s p) (outer-part s p)) (h.within ∙ ap is_some e))) shows)

place-shows : (d : Drawing) (s : Scene) (n : ℕ) (p : Layout) → Shows d s → Denotes d.sheet.nodes n p → Shows (placed d n) (part_more s p)
place-shows d s n p h den = place-by d s n p h den d.within refl

draw_shows : (d : Drawing) (s : Scene) (b : Node) (line : ℕ) (p : Layout) → Shows d s → Denotes (d.sheet.nodes ++ numbers_of b) (length d.sheet.lines) p → Shows (drawn d b line) (part_more s p)
draw_shows d s b line p h den =
    let t = added d.sheet b (Some line) in
    place-shows (sheeted d t) s (length d.sheet.lines) p (shows-sheet d s t (numbers_of b) h refl (whole-added d.sheet b (Some line) h.whole)) den

-- a put moved after its turns
abbrev moved_by : Drawing → Put → Drawing
moved_by d p = drawn (waiting d None) (Changed (Move p.x p.y) p.node) p.line

abbrev moved-part : Scene → Placed → Scene
moved-part s q = part_more (holding s None) (moved q.x q.y q.what)

move_by : (d : Drawing) (s : Scene) → Shows d s → (p : Option Put) (q : Option Placed) → Waits d.sheet.nodes p q → d.put ≡ p → s.put ≡ q → Shows (moved_on d) (put_down s)
move_by d s h None None w e f =
    subst (λ (D : Drawing). Shows D (put_down s)) (sym (ap (λ u. by_some u d (moved_by d)) e)) (subst (λ (S : Scene). Shows d S) (sym (ap (λ u. by_some u s (moved-part s)) f)) h)
move_by d s h None (Some q) w e f = absurd w
move_by d s h (Some p) None w e f = absurd w
move_by d s h (Some p) (Some q) w e f =
    let b = Changed (Move p.x p.y) p.node in
    let ks = numbers_of b in
    let h0 : Shows (waiting d None) (holding s None) = record { whole = h.whole; cells = h.cells; outer = h.outer; inner = h.inner; within = h.within; put = tt } in
    let den : Denotes (d.sheet.nodes ++ ks) (length d.sheet.lines) (moved p.x p.y q.what) = a_moved (new d.sheet b h.whole) (below d.sheet h.whole w.0) (more d.sheet.nodes ks w.0) in
    let den' = subst (λ (u : ℕ). Denotes (d.sheet.nodes ++ ks) (length d.sheet.lines) (moved q.x u q.what)) w.2 (subst (λ (u : ℕ). Denotes (d.sheet.nodes ++ ks) (length d.sheet.lines) (moved u p.y q.what)) w.1 den) in
    subst (λ (D : Drawing). Shows D (put_down s)) (sym (ap (λ u. by_some u d (moved_by d)) e))
    (subst (λ (S : Scene). Shows (moved_by d p) S) (sym (ap (λ u. by_some u s (moved-part s)) f))
    (draw_shows (waiting d None) (holding s None) b p.line (moved q.x q.y q.what) h0 den'))

move_shows : (d : Drawing) (s : Scene) → Shows d s → Shows (moved_on d) (put_down s)
move_shows d s h = move_by d s h d.put s.put h.put refl refl

-- a turn of the put that waits
abbrev turned_by : Drawing → Change → Put → Drawing
turned_by d by p =
    waiting (sheeted d (added d.sheet (Changed by p.node) (Some p.line))) (Some (record { node = length d.sheet.lines; x = p.x; y = p.y; line = p.line }))

abbrev changed_part : Scene → (Layout → Layout) → Placed → Scene
changed_part s f q = holding s (Some (record { what = f q.what; x = q.x; y = q.y }))

module _ (by : Change) (f : Layout → Layout) (mk : (xs : List ℕ) (n a : ℕ) (p : Layout) → HasNumbers xs n (numbers_of (Changed by a)) → a < n → Denotes xs a p → Denotes xs n (f p)) where
  turn_by : (d : Drawing) (s : Scene) → Shows d s → (p : Option Put) (q : Option Placed) → Waits d.sheet.nodes p q → d.put ≡ p → s.put ≡ q → Shows (plans.turned d by) (changed s f)
  turn_by d s h None None w e g =
      subst (λ (D : Drawing). Shows D (changed s f)) (sym (ap (λ u. by_some u d (turned_by d by)) e)) (subst (λ (S : Scene). Shows d S) (sym (ap (λ u. by_some u s (changed_part s f)) g)) h)
  turn_by d s h None (Some q) w e g = absurd w
  turn_by d s h (Some p) None w e g = absurd w
  turn_by d s h (Some p) (Some q) w e g =
      let b = Changed by p.node in
      let ks = numbers_of b in
      let t = added d.sheet b (Some p.line) in
      let h1 = shows-sheet d s t ks h refl (whole-added d.sheet b (Some p.line) h.whole) in
      let den = mk (d.sheet.nodes ++ ks) (length d.sheet.lines) p.node q.what (new d.sheet b h.whole) (below d.sheet h.whole w.0) (more d.sheet.nodes ks w.0) in
      let h2 : Shows (turned_by d by p) (changed_part s f q) = record { whole = h1.whole; cells = h1.cells; outer = h1.outer; inner = h1.inner; within = h1.within; put = (den, w.1, w.2) } in
      subst (λ (D : Drawing). Shows D (changed s f)) (sym (ap (λ u. by_some u d (turned_by d by)) e)) (subst (λ (S : Scene). Shows (turned_by d by p) S) (sym (ap (λ u. by_some u s (changed_part s f)) g)) h2)

  turn-shows : (d : Drawing) (s : Scene) → Shows d s → Shows (plans.turned d by) (changed s f)
  turn-shows d s h = turn_by d s h d.put s.put h.put refl refl

-- a cell that ends
close-shows : (d : Drawing) (s : Scene) → Shows d s → Shows (plans.closed d) (begins s statement.Close)
close-shows d s h =
    let j = joins d.sheet d.inner d.within s.inner h.whole h.inner in
    let t = joined d.sheet d.inner d.within in
    let h1 = shows-sheet d s t.sheet j.more_nodes h j.after j.whole in
    record { whole = h1.whole; cells = each-push t.sheet.nodes d.cells s.cells t.node (together s.inner) h1.cells j.is; outer = h1.outer; inner = h1.inner; within = refl; put = h1.put }

begin-shows : (d : Drawing) (s : Scene) (st : Statement) (n : ℕ) → Shows d s → NamesEnded (length d.cells) st → Shows (begun d st n) (begins s st)
begin-shows d s (statement.Box l x y a k) n h w =
    let b = One (record { layer = l; x = x; y = y; across = a; down = k }) in draw_shows d s b n (box l x y a k) h (a_box (new d.sheet b h.whole))
begin-shows d s statement.Cell n h w = record { whole = h.whole; cells = h.cells; outer = h.outer; inner = tt; within = refl; put = h.put }
begin-shows d s statement.Close n h w = close-shows d s h
begin-shows d s (statement.Put c x y) n h w = record { whole = h.whole; cells = h.cells; outer = h.outer; inner = h.inner; within = h.within; put = (each_at d.sheet.nodes d.cells s.cells c h.cells w, refl, refl) }
begin-shows d s (statement.Turned k) n h w = h
begin-shows d s (statement.Mirrored k) n h w = h
begin-shows d s (statement.Row m f c) n h w =
    let den = each_at d.sheet.nodes d.cells s.cells c h.cells w in
    let b = Row m f (get_or d.cells c 0) in
    draw_shows d s b n (row m f (get_or s.cells c nothing)) h (a_row (new d.sheet b h.whole) (below d.sheet h.whole den) (more d.sheet.nodes (numbers_of b) den))
begin-shows d s (statement.Column m f c) n h w =
    let den = each_at d.sheet.nodes d.cells s.cells c h.cells w in
    let b = Column m f (get_or d.cells c 0) in
    draw_shows d s b n (column m f (get_or s.cells c nothing)) h (a_column (new d.sheet b h.whole) (below d.sheet h.whole den) (more d.sheet.nodes (numbers_of b) den))
begin-shows d s (statement.Pin l x y) n h w = record { whole = h.whole; cells = h.cells; outer = h.outer; inner = h.inner; within = h.within; put = h.put }

-- how many cells have ended
placed_cells : (d : Drawing) (n : ℕ) (w : Option ℕ) → d.within ≡ w → (placed d n).cells ≡ d.cells
placed_cells d n None e = ap (λ u. (by_some u (outer-more d n) (λ k. inner-more d n)).cells) e
placed_cells d n (Some k) e = ap (λ u. (by_some u (outer-more d n) (λ k. inner-more d n)).cells) e

drawn_cells : (d : Drawing) (b : Node) (line : ℕ) → (drawn d b line).cells ≡ d.cells
drawn_cells d b line = placed_cells (sheeted d (added d.sheet b (Some line))) (length d.sheet.lines) d.within refl

moved-cells : (d : Drawing) (p : Option Put) → d.put ≡ p → (moved_on d).cells ≡ d.cells
moved-cells d None e = ap (λ u. (by_some u d (moved_by d)).cells) e
moved-cells d (Some p) e = ap (λ u. (by_some u d (moved_by d)).cells) e ∙ drawn_cells (waiting d None) (Changed (Move p.x p.y) p.node) p.line

turned-cells : (d : Drawing) (by : Change) (p : Option Put) → d.put ≡ p → (plans.turned d by).cells ≡ d.cells
turned-cells d by None e = ap (λ u. (by_some u d (turned_by d by)).cells) e
turned-cells d by (Some p) e = ap (λ u. (by_some u d (turned_by d by)).cells) e

begun-cells : (d : Drawing) (st : Statement) (n : ℕ) → length (begun d st n).cells ≡ length d.cells + ends st
begun-cells d (statement.Box l x y a k) n = omega (arith, ap length (drawn_cells d (One (record { layer = l; x = x; y = y; across = a; down = k })) n))
begun-cells d statement.Cell n = omega arith
begun-cells d statement.Close n = length_push d.cells (joined d.sheet d.inner d.within).node
begun-cells d (statement.Put c x y) n = omega arith
begun-cells d (statement.Turned k) n = omega arith
begun-cells d (statement.Mirrored k) n = omega arith
begun-cells d (statement.Row m f c) n = omega (arith, ap length (drawn_cells d (Row m f (get_or d.cells c 0)) n))
begun-cells d (statement.Column m f c) n = omega (arith, ap length (drawn_cells d (Column m f (get_or d.cells c 0)) n))
begun-cells d (statement.Pin l x y) n = omega arith

-- one statement, and all
module _ (d : Drawing) (s : Scene) (h : Shows d s) (k : ℕ) (has : length d.cells ≡ k) where
  next : (st : Statement) (n : ℕ) → NamesEnded k st → Shows (begun (moved_on d) st n) (begins (put_down s) st) × (length (begun (moved_on d) st n).cells ≡ k + ends st)
  next st n w =
      let same : k ≡ length (moved_on d).cells = sym has ∙ sym (ap length (moved-cells d d.put refl)) in (
        begin-shows (moved_on d) (put_down s) st n (move_shows d s h) (subst (λ (u : ℕ). NamesEnded u st) same w),
        begun-cells (moved_on d) st n ∙ ap (λ u. u + ends st) (sym same),
      )

  say-shows : (st : Statement) (n : ℕ) → NamesEnded k st → Shows (said d st n) (shown s st) × (length (said d st n).cells ≡ k + ends st)
  say-shows (statement.Box l x y a b) n w = next (statement.Box l x y a b) n w
  say-shows statement.Cell n w = next statement.Cell n w
  say-shows statement.Close n w = next statement.Close n w
  say-shows (statement.Put c x y) n w = next (statement.Put c x y) n w
  say-shows (statement.Turned z) n w = (turn-shows (Turn z) (turned z) (λ xs m a p c i e. a_turned c i e) d s h, omega (arith, ap length (turned-cells d (Turn z) d.put refl)))
  say-shows (statement.Mirrored z) n w = (turn-shows (Mirror z) (mirrored z) (λ xs m a p c i e. a_mirrored c i e) d s h, omega (arith, ap length (turned-cells d (Mirror z) d.put refl)))
  say-shows (statement.Row m f c) n w = next (statement.Row m f c) n w
  say-shows (statement.Column m f c) n w = next (statement.Column m f c) n w
  say-shows (statement.Pin l x y) n w = next (statement.Pin l x y) n w

all_shows : (ss : List Said) (d : Drawing) (s : Scene) (k : ℕ) → Shows d s → length d.cells ≡ k → AllEnded k ss → Shows (all_said d ss) (all_shown s ss)
unfolding all_said all_shown AllEnded
all_shows [] d s k h has w = h
all_shows (t ∷ ts) d s k h has w =
    let n = say-shows d s h k has t.statement t.line w.0 in
    all_shows ts (said d t.statement t.line) (shown s t.statement) (k + ends t.statement) n.0 n.1 w.1

-- the last node is the layout
last-is : (t : Nodes) (n : ℕ) (p : Layout) → Whole t → Denotes t.nodes n p → suc n ≡ length t.lines → (l x y : ℕ) → layout_in t.nodes l x y ≡ drawn_with (λ k l x y. false) p l x y
unfolding layout_in layouts.drawn
last-is t n p w d e l x y =
    let near = sixes-near t.nodes in
    let six : sixes t.nodes ≡ suc n = omega arith in
    let one : sixes t.nodes - 1 ≡ n = omega arith in
    ap (λ a. drawn_with (λ k l x y. false) a l x y) (ap (λ k. node_at t.nodes (sixes t.nodes) k) one ∙ is_at t.nodes (sixes t.nodes) (omega arith) d)

pub not-moved : (p : Layout) (l x y : ℕ) → drawn_with (λ k l x y. false) (moved 0 0 p) l x y ≡ drawn_with (λ k l x y. false) p l x y
unfolding drawn_with shifted
not-moved p l x y =
    let ex : x - 0 ≡ x = omega arith in let ey : y - 0 ≡ y = omega arith in
    simp (le-leb 0 x (omega arith), le-leb 0 y (omega arith), ex, ey)

draws : (ss : List Said) → AllEnded 0 ss → (l x y : ℕ) → layout_in (finished (all_said blank ss)).sheet.nodes l x y ≡ drawn_with (λ k l x y. false) (picture ss) l x y
draws ss w l x y =
    let d = all_said blank ss in
    let s = all_shown empty ss in
    let h = move_shows d s (all_shows ss blank empty 0 shows-empty refl w) in
    let e = moved_on d in
    let j = joins e.sheet e.outer None (put_down s).outer h.whole h.outer in
    let t = joined e.sheet e.outer None in
    let b = Changed (Move 0 0) t.node in
    let ks = numbers_of b in
    let D = sheeted e t.sheet in
    let D' = sheeted D (added t.sheet b None) in
    let p = together (put_down s).outer in
    elim (cases_eq (suc t.node) (length t.sheet.lines)) [
      | inl q ↦ ap (λ b. layout_in (cond b D D').sheet.nodes l x y) (eq-eqb (suc t.node) (length t.sheet.lines) q) ∙ last-is t.sheet t.node p j.whole j.is q l x y
      | inr q ↦
          let den : Denotes (t.sheet.nodes ++ ks) (length t.sheet.lines) (moved 0 0 p) = a_moved (new t.sheet b j.whole) (below t.sheet j.whole j.is) (more t.sheet.nodes ks j.is) in
          ap (λ b. layout_in (cond b D D').sheet.nodes l x y) (ne_eqb (suc t.node) (length t.sheet.lines) q)
          ∙ last-is (added t.sheet b None) (length t.sheet.lines) (moved 0 0 p) (whole-added t.sheet b None j.whole) den (omega (arith, length_push t.sheet.lines None)) l x y
          ∙ not-moved p l x y
    ]

same-state : {a b : State} → ◌≡◌ {A = Result State ℕ} (Ok a) (Ok b) → a ≡ b
same-state e = cc

-- what is read draws what is said
pub text_draws : (text nodes : List ℕ) (s : State) → said_in text ≡ Ok s → nodes ≡ (finished (all_said blank s.said)).sheet.nodes → Draws text nodes
text_draws text nodes s e q z f l x y =
    let same : s ≡ z = same-state (sym e ∙ f) in
    ap (λ ns. layout_in ns l x y) q ∙ draws s.said (said-sane text s e).ended l x y ∙ ap (λ (u : State). drawn_with (λ k l x y. false) (picture u.said) l x y) same

-- The text of a layout is read as cells that draw what the nodes draw. Assumes nothing.
use Rattle.std.proofs.Common.{◌≡◌, ℕ, zero, suc, ◌+◌, ◌-◌, ◌*◌, ◌^◌, ◌<◌, ◌≤◌, Bool, true, false, cond, not, ltb, List, [], ◌∷◌, ◌++◌, length, get_or, Some, None, Ok, Err, codes, decimal, sym, refl, ap, ◌∙◌, subst, inl, inr, arith}
use Rattle.std.proofs.ByRecursion.{All-push}
use Rattle.std.proofs.lemmas.List.{append_assoc, append-nil, length_push, get_or_push, get_or_append_left}
use Rattle.std.proofs.lemmas.Bool.{cases_eq, cases_Bool, le-ltb, both_ways}
use Rattle.std.specs.List.{AllByRecursion}
use Rattle.layout.specs.Layout.{Layout, nothing, box, both, moved, turned, mirrored, row, column, Drawing, drawn}
use Rattle.layout.specs.Limits.{max_number}
use Rattle.layout.specs.Nodes.{orderly, numbered}
use Rattle.layout.specs.Numbers.{node_of, node_at, sixes, layout_in, earlier_1}
use Rattle.layout.specs.Pieces.{Sound, piece}
use Rattle.layout.proofs.Reading.{at_most, below-2, below-3, below-4, below-5, below-6, below-7}
use Rattle.layout.proofs.Pieces.{earlier-at, read_of, piece_is, settle}
use Rattle.words.specs.Places.{place_below, place_of}
use Rattle.words.specs.Lines.{last_line as final-line}
use Rattle.words.specs.Numbers.{all_digits, decimal as worth}
use Rattle.words.specs.Steps.{and_then}
use Rattle.words.specs.Words.{words_from, words_of}
use Rattle.words.specs.declared.word.Marks.TheVariants.{Braces}
use Rattle.text.specs.LayoutTexts.{meant}
use Rattle.text.specs.Readings.{State, start, read, finished, said_in}
use Rattle.text.specs.Scenes.{Scene, empty, shown, begins, changed, all_shown, picture, together, put_down}
use Rattle.text.specs.declared.statement.Statement.{Statement}
use Rattle.text.specs.declared.statement.Statement.TheVariants as statement
use Rattle.text.specs.declared.statement.Said.{Said}
use Rattle.text.proofs.Scenes.{text_draws}
use Rattle.layout_writer.specs.Lines.{name, line_of, box_words, put_words, put_here, open_words}
use Rattle.layout_writer.specs.Cells.{uses, has_cell}
use Rattle.layout_writer.specs.Texts.{node_text, put_line, statements, cell_text, cells_text, layout_text, ReadsBack}
use Rattle.layout_writer.proofs.Cutting.{whole_plain, whole-name, Says, also, Turns, turns-none, turns_then, turns-blank, line-turns}
use Rattle.layout_writer.proofs.Drawings.{drawing, kinds, at_most_7, moved_same, turned_same, mirrored-same, row_same, column-same, put_same, spread, spread_none, spread_one, spread_both, together_spread}
use Rattle.layout_writer.proofs.Named.{place-new, place-old}
use Rattle.layout_writer.proofs.Quiet.{Quiet, no_pins}
use Rattle.layout_writer.proofs.Statements.{stands, Number, a_number, Named, box-says, put-says, row-says, column-says, turned-says, mirrored-says, open-says, close-says}
use Rattle.layout_writer.proofs.Used.{named-cell, names-once}

-- between two statements of a cell, or of the text
abbrev pub grown : Bool → (cells inner parts : List Layout) → Scene
grown true cs i ps = record { cells = cs; outer = []; inner = ps; inside = true; put = None }
grown false cs i ps = record { cells = cs; outer = ps; inner = i; inside = false; put = None }

abbrev at : ℕ → Statement → Said
at n s = record { statement = s; line = n }

shown_more : (ss : List Said) (t : Said) (r : Scene) → all_shown r (ss ++ t ∷ []) ≡ shown (all_shown r ss) t.statement
unfolding all_shown
shown_more [] t r = refl
shown_more (q ∷ ss) t r = shown_more ss t (shown r q.statement)

zero_number : Number (codes "0") 0
unfolding all_digits worth
zero_number = record { whole = whole_plain (codes "0") refl (omega arith); is = refl }

-- a cell that has ended, and draws a node
pub record Known (xs : List ℕ) (c : List (List ℕ)) (k : ℕ) (cs : List Layout) (m : ℕ) : Type 0 where
  pub place : ℕ
  pub named : Named c k m place
  pub same : drawing (get_or cs place nothing) ≡ drawing (piece xs m)

-- blanks before a line
pub record Margin (g : List ℕ) : Type 0 where
  pub past : (bs : List ℕ) (s z : State) (n m : ℕ) → Turns bs s z n m → Turns (g ++ bs) s z n m

no_margin : Margin []
no_margin = record { past = λ bs s z n m t. t }

four : Margin (codes "    ")
four = record { past = λ bs s z n m t. turns-blank _ s z n m (turns-blank _ s z n m (turns-blank _ s z n m (turns-blank bs s z n m t))) }

-- one part more
module _ (cs i ps : List Layout) where
  box-grown : (b : Bool) (l x y a h : ℕ) → put_down (begins (grown b cs i ps) (statement.Box l x y a h)) ≡ grown b cs i (ps ++ box l x y a h ∷ [])
  box-grown true l x y a h = refl
  box-grown false l x y a h = refl

  put-grown : (b : Bool) (j x y : ℕ) → put_down (begins (grown b cs i ps) (statement.Put j x y)) ≡ grown b cs i (ps ++ moved x y (get_or cs j nothing) ∷ [])
  put-grown true j x y = refl
  put-grown false j x y = refl

  changed-grown : (b : Bool) (j : ℕ) (f : Layout → Layout) → put_down (changed (begins (grown b cs i ps) (statement.Put j 0 0)) f) ≡ grown b cs i (ps ++ moved 0 0 (f (get_or cs j nothing)) ∷ [])
  changed-grown true j f = refl
  changed-grown false j f = refl

  row-grown : (b : Bool) (m f j : ℕ) → put_down (begins (grown b cs i ps) (statement.Row m f j)) ≡ grown b cs i (ps ++ row m f (get_or cs j nothing) ∷ [])
  row-grown true m f j = refl
  row-grown false m f j = refl

  column-grown : (b : Bool) (m f j : ℕ) → put_down (begins (grown b cs i ps) (statement.Column m f j)) ≡ grown b cs i (ps ++ column m f (get_or cs j nothing) ∷ [])
  column-grown true m f j = refl
  column-grown false m f j = refl

-- what is shown after one statement, and after a put and a turn
after_one : (d : List Said) (r : ℕ) (t : Statement) (u : Scene) → put_down (all_shown empty d) ≡ u → ((v : Scene) → shown v t ≡ begins (put_down v) t) → all_shown empty (d ++ at r t ∷ []) ≡ begins u t
after_one d r t u e step = shown_more d (at r t) empty ∙ step (all_shown empty d) ∙ ap (λ (v : Scene). begins v t) e

after_turn : (d : List Said) (r : ℕ) (t : Statement) (f : Layout → Layout) (v : Scene) → all_shown empty d ≡ v → ((w : Scene) → shown w t ≡ changed w f) → all_shown empty (d ++ at r t ∷ []) ≡ changed v f
after_turn d r t f v e step = shown_more d (at r t) empty ∙ step (all_shown empty d) ∙ ap (λ (w : Scene). changed w f) e

module _ (xs : List ℕ) (sound : Sound xs) where
  small : (i : ℕ) → get_or xs i 0 < 2 ^ 64
  small i = omega (arith, at_most max_number xs sound.small i)

  piece-numbered : (n : ℕ) → n < sixes xs → numbered (piece xs) xs n ≡ piece xs n
  piece-numbered n h = let r = read_of xs sound n h in r.1.same (piece xs) ∙ sym (piece_is xs sound n h r.0 r.1)

  module _ (g : List ℕ) (margin : Margin g) (b : Bool) (c : List (List ℕ)) (k : ℕ) (cs i : List Layout) where
    -- what has been read, and what it draws
    record Stand (ps : List Layout) : Type 0 where
      said : List Said
      turning : Bool
      row : ℕ
      quiet : AllByRecursion Quiet said
      shows : put_down (all_shown empty said) ≡ grown b cs i ps

    abbrev state : (ps : List Layout) → Stand ps → State
    state ps s = stands s.said c k s.turning

    -- bytes that add parts
    record Grows (bytes : List ℕ) (ps : List Layout) (s : Stand ps) (d : Drawing) : Type 0 where
      more : List Layout
      after : Stand (ps ++ more)
      turns : Turns bytes (state ps s) (state (ps ++ more) after) s.row after.row
      draws : spread more ≡ d

    grows_same : (bytes : List ℕ) (ps : List Layout) (s : Stand ps) (d e : Drawing) → d ≡ e → Grows bytes ps s d → Grows bytes ps s e
    grows_same bytes ps s d e q h = record { more = h.more; after = h.after; turns = h.turns; draws = h.draws ∙ q }

    grows_none : (ps : List Layout) (s : Stand ps) → Grows [] ps s (drawing nothing)
    grows_none ps s =
        let e = append-nil ps in
        let z : Stand (ps ++ []) = record { said = s.said; turning = s.turning; row = s.row; quiet = s.quiet; shows = s.shows ∙ ap (grown b cs i) (sym e) } in
        record { more = []; after = z; turns = turns-none (state ps s) s.row; draws = spread_none }

    grows_then : (x y : List ℕ) (ps : List Layout) (s : Stand ps) (p q : Layout) (h : Grows x ps s (drawing p)) → Grows y (ps ++ h.more) h.after (drawing q) → Grows (x ++ y) ps s (drawing (both p q))
    grows_then x y ps s p q h w =
        let t = w.after in
        let e = append_assoc ps h.more w.more in
        let z : Stand (ps ++ (h.more ++ w.more)) = record { said = t.said; turning = t.turning; row = t.row; quiet = t.quiet; shows = t.shows ∙ ap (grown b cs i) e } in
        record {
          more = h.more ++ w.more;
          after = z;
          turns = turns_then x y (state ps s) (state (ps ++ h.more) h.after) (state (ps ++ (h.more ++ w.more)) z) s.row h.after.row t.row h.turns w.turns;
          draws = spread_both h.more w.more p q h.draws w.draws;
        }

    -- a statement on a line
    grows-line : (ps : List Layout) (s : Stand ps) (ws : List (List ℕ)) (d : List Said) (t : Bool) (q : Layout) → Says s.row (state ps s) ws (stands d c k t) → AllByRecursion Quiet d → put_down (all_shown empty d) ≡ grown b cs i (ps ++ q ∷ []) → Grows (g ++ line_of ws) ps s (drawing q)
    grows-line ps s ws d t q says quiet shows =
        let z : Stand (ps ++ q ∷ []) = record { said = d; turning = t; row = suc s.row; quiet = quiet; shows = shows } in
        record { more = q ∷ []; after = z; turns = margin.past (line_of ws) (state ps s) (state (ps ++ q ∷ []) z) s.row (suc s.row) (line-turns says); draws = spread_one q }

    grows-put : (ps : List Layout) (s : Stand ps) (m j x y : ℕ) (w1 w2 : List ℕ) → Named c k m j → Number w1 x → Number w2 y → Grows (g ++ line_of (put_words m w1 w2)) ps s (drawing (moved x y (get_or cs j nothing)))
    grows-put ps s m j x y w1 w2 h p q =
        let st = statement.Put j x y in
        grows-line ps s (put_words m w1 w2) (s.said ++ at s.row st ∷ []) true (moved x y (get_or cs j nothing))
        (put-says s.row s.said c k s.turning m j w1 w2 x y h p q)
        (All-push Quiet s.said (at s.row st) s.quiet tt)
        (ap put_down (after_one s.said s.row st (grown b cs i ps) s.shows (λ v. refl)) ∙ put-grown cs i ps b j x y)

    module _ (bound : ℕ) (low : bound ≤ sixes xs) (known : (m : ℕ) → m < bound → has_cell xs m ≡ true → Known xs c k cs m) where
      module _ (n : ℕ) (here : n < sixes xs) (under : n ≤ bound) (part : ℕ → List ℕ) (parts : (m : ℕ) → m < n → (ps : List Layout) (s : Stand ps) → Grows (part m) ps s (drawing (piece xs m))) where
        abbrev A : ℕ
        A = get_or xs (6 * n + 1) 0

        abbrev B : ℕ
        B = get_or xs (6 * n + 2) 0

        abbrev C : ℕ
        C = get_or xs (6 * n + 3) 0

        abbrev E : ℕ
        E = get_or xs (6 * n + 4) 0

        abbrev F : ℕ
        F = get_or xs (6 * n + 5) 0

        abbrev Tells : ℕ → Type 0
        Tells K = K ≡ get_or xs (6 * n) 0 → earlier_1 n K A B C ≡ true → (ps : List Layout) (s : Stand ps) → Grows (node_text g part K A B C E F) ps s (drawing (node_of (piece xs) K A B C E F))

        has : (K m : ℕ) → K ≡ get_or xs (6 * n) 0 → m < n → 2 ≤ uses K A B C m → Known xs c k cs m
        has K m q h u = known m (omega arith) (named-cell xs m n here (subst (λ (w : ℕ). 2 ≤ uses w A B C m) q u))

        tells-0 : Tells 0
        unfolding node_of
        tells-0 q o ps s = grows_none ps s

        tells-1 : Tells 1
        unfolding node_of
        tells-1 q o ps s =
            let st = statement.Box A B C E F in
            grows-line ps s (box_words A B C E F) (s.said ++ at s.row st ∷ []) false (box A B C E F)
            (box-says s.row s.said c k s.turning (decimal A) (decimal B) (decimal C) (decimal E) (decimal F) A B C E F (a_number A (small (6 * n + 1))) (a_number B (small (6 * n + 2))) (a_number C (small (6 * n + 3))) (a_number E (small (6 * n + 4))) (a_number F (small (6 * n + 5))))
            (All-push Quiet s.said (at s.row st) s.quiet tt)
            (ap put_down (after_one s.said s.row st (grown b cs i ps) s.shows (λ v. refl)) ∙ box-grown cs i ps b A B C E F)

        tells-2 : Tells 2
        unfolding node_of
        tells-2 q o ps s =
            let w = below-2 n 2 A B C refl o in
            let h = parts A w.0 ps s in
            grows_then (part A) (part B) ps s (piece xs A) (piece xs B) h (parts B w.1 (ps ++ h.more) h.after)

        tells-3 : Tells 3
        unfolding node_of
        tells-3 q o ps s =
            let kn = has 3 C q (below-3 n 3 A B C refl o) (names-once C) in
            grows_same (g ++ line_of (put_words C (decimal A) (decimal B))) ps s (drawing (moved A B (get_or cs kn.place nothing))) (drawing (moved A B (piece xs C))) (moved_same A B (get_or cs kn.place nothing) (piece xs C) kn.same)
            (grows-put ps s C kn.place A B (decimal A) (decimal B) kn.named (a_number A (small (6 * n + 1))) (a_number B (small (6 * n + 2))))

        tells-4 : Tells 4
        unfolding node_of
        tells-4 q o ps s =
            let kn = has 4 B q (below-4 n 4 A B C refl o) (names-once B) in
            let j = kn.place in
            let d = s.said ++ at s.row (statement.Put j 0 0) ∷ [] in
            let ws = put_here B ++ codes "turned" ∷ decimal A ∷ [] in
            let p = get_or cs j nothing in
            grows_same (g ++ line_of ws) ps s (drawing (moved 0 0 (turned A p))) (drawing (turned A (piece xs B))) (put_same (turned A p) ∙ turned_same A p (piece xs B) kn.same)
            (grows-line ps s ws (d ++ at s.row (statement.Turned A) ∷ []) true (moved 0 0 (turned A p))
            (also (put-says s.row s.said c k s.turning B j (codes "0") (codes "0") 0 0 kn.named zero_number zero_number) (turned-says s.row d c k (decimal A) A (a_number A (small (6 * n + 1)))))
            (All-push Quiet d (at s.row (statement.Turned A)) (All-push Quiet s.said (at s.row (statement.Put j 0 0)) s.quiet tt) tt)
            (ap put_down (after_turn d s.row (statement.Turned A) (turned A) (begins (grown b cs i ps) (statement.Put j 0 0)) (after_one s.said s.row (statement.Put j 0 0) (grown b cs i ps) s.shows (λ v. refl)) (λ v. refl)) ∙ changed-grown cs i ps b j (turned A)))

        tells-5 : Tells 5
        unfolding node_of
        tells-5 q o ps s =
            let kn = has 5 B q (below-5 n 5 A B C refl o) (names-once B) in
            let j = kn.place in
            let d = s.said ++ at s.row (statement.Put j 0 0) ∷ [] in
            let ws = put_here B ++ codes "mirrored" ∷ decimal A ∷ [] in
            let p = get_or cs j nothing in
            grows_same (g ++ line_of ws) ps s (drawing (moved 0 0 (mirrored A p))) (drawing (mirrored A (piece xs B))) (put_same (mirrored A p) ∙ mirrored-same A p (piece xs B) kn.same)
            (grows-line ps s ws (d ++ at s.row (statement.Mirrored A) ∷ []) true (moved 0 0 (mirrored A p))
            (also (put-says s.row s.said c k s.turning B j (codes "0") (codes "0") 0 0 kn.named zero_number zero_number) (mirrored-says s.row d c k (decimal A) A (a_number A (small (6 * n + 1)))))
            (All-push Quiet d (at s.row (statement.Mirrored A)) (All-push Quiet s.said (at s.row (statement.Put j 0 0)) s.quiet tt) tt)
            (ap put_down (after_turn d s.row (statement.Mirrored A) (mirrored A) (begins (grown b cs i ps) (statement.Put j 0 0)) (after_one s.said s.row (statement.Put j 0 0) (grown b cs i ps) s.shows (λ v. refl)) (λ v. refl)) ∙ changed-grown cs i ps b j (mirrored A)))

        tells-6 : Tells 6
        unfolding node_of
        tells-6 q o ps s =
            let kn = has 6 C q (below-6 n 6 A B C refl o) (names-once C) in
            let j = kn.place in
            let st = statement.Row A B j in
            let ws = codes "row" ∷ decimal A ∷ decimal B ∷ name C ∷ [] in
            let p = get_or cs j nothing in
            grows_same (g ++ line_of ws) ps s (drawing (row A B p)) (drawing (row A B (piece xs C))) (row_same A B p (piece xs C) kn.same)
            (grows-line ps s ws (s.said ++ at s.row st ∷ []) false (row A B p)
            (row-says s.row s.said c k s.turning (decimal A) (decimal B) A B C j (a_number A (small (6 * n + 1))) (a_number B (small (6 * n + 2))) kn.named)
            (All-push Quiet s.said (at s.row st) s.quiet tt)
            (ap put_down (after_one s.said s.row st (grown b cs i ps) s.shows (λ v. refl)) ∙ row-grown cs i ps b A B j))

        tells-7 : Tells 7
        unfolding node_of
        tells-7 q o ps s =
            let kn = has 7 C q (below-7 n 7 A B C refl o) (names-once C) in
            let j = kn.place in
            let st = statement.Column A B j in
            let ws = codes "column" ∷ decimal A ∷ decimal B ∷ name C ∷ [] in
            let p = get_or cs j nothing in
            grows_same (g ++ line_of ws) ps s (drawing (column A B p)) (drawing (column A B (piece xs C))) (column-same A B p (piece xs C) kn.same)
            (grows-line ps s ws (s.said ++ at s.row st ∷ []) false (column A B p)
            (column-says s.row s.said c k s.turning (decimal A) (decimal B) A B C j (a_number A (small (6 * n + 1))) (a_number B (small (6 * n + 2))) kn.named)
            (All-push Quiet s.said (at s.row st) s.quiet tt)
            (ap put_down (after_one s.said s.row st (grown b cs i ps) s.shows (λ v. refl)) ∙ column-grown cs i ps b A B j))

        tells : (ps : List Layout) (s : Stand ps) → Grows (node_text g part (get_or xs (6 * n) 0) A B C E F) ps s (drawing (piece xs n))
        unfolding orderly numbered
        tells ps s =
            let K = get_or xs (6 * n) 0 in
            let o : earlier_1 n K A B C ≡ true = earlier-at xs (sixes xs) n here sound.names in
            grows_same (node_text g part K A B C E F) ps s (drawing (node_of (piece xs) K A B C E F)) (drawing (piece xs n)) (ap drawing (piece-numbered n here))
            (kinds Tells tells-0 tells-1 tells-2 tells-3 tells-4 tells-5 tells-6 tells-7 K (at_most_7 n K A B C o) refl o ps s)

      -- a part that is put
      put-part : (m : ℕ) → Known xs c k cs m → (ps : List Layout) (s : Stand ps) → Grows (put_line g m) ps s (drawing (piece xs m))
      put-part m kn ps s =
          let p = get_or cs kn.place nothing in
          grows_same (put_line g m) ps s (drawing (moved 0 0 p)) (drawing (piece xs m)) (put_same p ∙ kn.same) (grows-put ps s m kn.place 0 0 (codes "0") (codes "0") kn.named zero_number zero_number)

      spoken : (l n : ℕ) → n < l → n < sixes xs → n ≤ bound → (ps : List Layout) (s : Stand ps) → Grows (statements xs g l n) ps s (drawing (piece xs n))
      unfolding statements
      spoken zero n h here under ps s = absurd (omega arith)
      spoken (suc l) n h here under ps s =
          let part : ℕ → List ℕ = λ m. cond (has_cell xs m) (put_line g m) (statements xs g l m) in
          tells n here under part (λ m lt qs t. elim (cases_Bool (has_cell xs m)) [
            | inl e ↦ subst (λ (d : Bool). Grows (cond d (put_line g m) (statements xs g l m)) qs t (drawing (piece xs m))) (sym e) (put-part m (known m (omega arith) e) qs t)
            | inr e ↦ subst (λ (d : Bool). Grows (cond d (put_line g m) (statements xs g l m)) qs t (drawing (piece xs m))) (sym e) (spoken l m (omega arith) (omega arith) (omega arith) qs t)
          ]) ps s

  -- the cells of the first nodes have been read
  record Come (n : ℕ) : Type 0 where
    said : List Said
    turning : Bool
    row : ℕ
    names : List (List ℕ)
    count : ℕ
    cells : List Layout
    inner : List Layout
    turns : Turns (cells_text xs n) start (stands said names count turning) 0 row
    shows : put_down (all_shown empty said) ≡ grown false cells inner []
    quiet : AllByRecursion Quiet said
    names-long : length names ≡ count
    cells-long : length cells ≡ count
    unused : (m : ℕ) → n ≤ m → m < 2 ^ 62 → place_of names (name m) ≡ None
    known : (m : ℕ) → m < n → has_cell xs m ≡ true → Known xs names count cells m

  come-none : Come 0
  unfolding cells_text all_shown place_below
  come-none = record {
    said = [];
    turning = false;
    row = 0;
    names = [];
    count = 0;
    cells = [];
    inner = [];
    turns = turns-none start 0;
    shows = refl;
    quiet = tt;
    names-long = refl;
    cells-long = refl;
    unused = λ m l h. refl;
    known = λ m h e. absurd (omega arith);
  }

  -- a node without a cell
  come-on : (n : ℕ) → has_cell xs n ≡ false → Come n → Come (suc n)
  unfolding cells_text
  come-on n e c = record {
    said = c.said;
    turning = c.turning;
    row = c.row;
    names = c.names;
    count = c.count;
    cells = c.cells;
    inner = c.inner;
    turns = subst (λ (t : List ℕ). Turns t start (stands c.said c.names c.count c.turning) 0 c.row) (sym (ap (λ d. cells_text xs n ++ cond d (cell_text xs n) []) e ∙ append-nil (cells_text xs n))) c.turns;
    shows = c.shows;
    quiet = c.quiet;
    names-long = c.names-long;
    cells-long = c.cells-long;
    unused = λ m l h. c.unused m (omega arith) h;
    known = λ m h f. elim (cases_eq m n) [
      | inl y ↦ absurd (both_ways (has_cell xs m) (ap (has_cell xs) y ∙ e) f)
      | inr y ↦ c.known m (omega arith) f
    ];
  }

  -- a node with a cell
  module _ (n : ℕ) (here : n < sixes xs) (owns : has_cell xs n ≡ true) (c : Come n) where
    few : n < 2 ^ 62
    few = let f = sound.few in omega arith

    abbrev ns : List (List ℕ)
    ns = c.names ++ name n ∷ []

    abbrev d1 : List Said
    d1 = c.said ++ at c.row statement.Cell ∷ []

    opened : Turns (line_of (open_words n)) (stands c.said c.names c.count c.turning) (stands d1 ns c.count false) c.row (suc c.row)
    opened = line-turns (open-says c.row c.said c.names c.count c.turning n (omega (arith, c.names-long)) (whole-name n (omega (arith, few))) (c.unused n (omega arith) few))

    known-inside : (m : ℕ) → m < n → has_cell xs m ≡ true → Known xs ns c.count c.cells m
    known-inside m h e =
        let kn = c.known m h e in
        let f = few in
        record { place = kn.place; named = record { whole = kn.named.whole; place = place-old c.names n m (omega arith) (omega arith) (λ q. omega arith) ∙ kn.named.place; ended = kn.named.ended }; same = kn.same }

    inside : Stand (codes "    ") four true ns c.count c.cells c.inner []
    inside = record {
      said = d1;
      turning = false;
      row = suc c.row;
      quiet = All-push Quiet c.said (at c.row statement.Cell) c.quiet tt;
      shows = ap put_down (after_one c.said c.row statement.Cell (grown false c.cells c.inner []) c.shows (λ v. refl));
    }

    body : Grows (codes "    ") four true ns c.count c.cells c.inner (statements xs (codes "    ") (suc n) n) [] inside (drawing (piece xs n))
    body = spoken (codes "    ") four true ns c.count c.cells c.inner n (omega arith) known-inside (suc n) n (omega arith) here (omega arith) [] inside

    come-cell : Come (suc n)
    unfolding cells_text inside
    come-cell =
        let f = few in
        let w = body in
        let t = w.after in
        let p = together w.more in
        let d2 = t.said ++ at t.row statement.Close ∷ [] in
        let k = c.count in
        let s0 = stands c.said c.names k c.turning in
        let s1 = stands d1 ns k false in
        let s2 = stands t.said ns k t.turning in
        let s3 = stands d2 ns (k + 1) false in
        let long = length_push c.names (name n) in
        let ends : Turns (line_of (codes "}" ∷ [])) s2 s3 t.row (suc t.row) = line-turns (close-says t.row t.said ns k t.turning (omega (arith, c.names-long))) in
        let st = statements xs (codes "    ") (suc n) n in
        let rest = turns_then st (line_of (codes "}" ∷ [])) s1 s2 s3 (suc c.row) t.row (suc t.row) w.turns ends in
        let all = turns_then (line_of (open_words n)) (st ++ line_of (codes "}" ∷ [])) s0 s1 s3 c.row (suc c.row) (suc t.row) opened rest in
        let turns = turns_then (cells_text xs n) (cell_text xs n) start s0 s3 0 c.row (suc t.row) c.turns all in
        record {
          said = d2;
          turning = false;
          row = suc t.row;
          names = ns;
          count = k + 1;
          cells = c.cells ++ p ∷ [];
          inner = w.more;
          turns = subst (λ (b : Bool). Turns (cells_text xs n ++ cond b (cell_text xs n) []) start s3 0 (suc t.row)) (sym owns) turns;
          shows = ap put_down (after_one t.said t.row statement.Close (grown true c.cells c.inner w.more) t.shows (λ v. refl));
          quiet = All-push Quiet t.said (at t.row statement.Close) t.quiet tt;
          names-long = omega (arith, long, c.names-long);
          cells-long = omega (arith, length_push c.cells p, c.cells-long);
          unused = λ m l h. place-old c.names n m (omega arith) (omega arith) (λ q. omega arith) ∙ c.unused m (omega arith) h;
          known = λ m h e. elim (cases_eq m n) [
            | inl y ↦ record {
              place = k;
              named = record { whole = whole-name m (omega arith); place = ap (λ u. place_of ns (name u)) y ∙ place-new c.names (name n) ∙ ap (λ u. Some u) c.names-long; ended = omega arith };
              same = ap drawing (get_or_push c.cells p nothing k c.cells-long) ∙ together_spread w.more ∙ w.draws ∙ ap (λ u. drawing (piece xs u)) (sym y);
            }
            | inr y ↦
                let kn = known-inside m (omega arith) e in
                record {
                  place = kn.place;
                  named = record { whole = kn.named.whole; place = kn.named.place; ended = omega (arith, kn.named.ended) };
                  same = ap drawing (get_or_append_left c.cells (p ∷ []) nothing kn.place (omega (arith, kn.named.ended, c.cells-long))) ∙ kn.same;
                }
          ];
        }

  comes : (n : ℕ) → n ≤ sixes xs → Come n
  comes zero h = come-none
  comes (suc n) h =
      let c = comes n (omega arith) in
      elim (cases_Bool (has_cell xs n)) [ inl e ↦ come-cell n (omega arith) e c | inr e ↦ come-on n e c ]

  -- all cells, and then the last node
  come : Come (sixes xs)
  come = comes (sixes xs) (omega arith)

  outside : Stand [] no_margin false come.names come.count come.cells come.inner []
  outside = record { said = come.said; turning = come.turning; row = come.row; quiet = come.quiet; shows = come.shows }

  top : Grows [] no_margin false come.names come.count come.cells come.inner (statements xs [] (sixes xs) (sixes xs - 1)) [] outside (drawing (piece xs (sixes xs - 1)))
  top =
      let some = sound.some in
      spoken [] no_margin false come.names come.count come.cells come.inner (sixes xs) (omega arith) come.known (sixes xs) (sixes xs - 1) (omega arith) (omega arith) (omega arith) [] outside

  ended : State
  ended = stands top.after.said come.names come.count top.after.turning

  all-turns : Turns (layout_text xs) start ended 0 top.after.row
  unfolding ended outside
  all-turns =
      turns_then (cells_text xs (sixes xs)) (statements xs [] (sixes xs) (sixes xs - 1)) start (stands come.said come.names come.count come.turning) ended 0 come.row top.after.row come.turns top.turns

  all_read : read start (words_of Braces (layout_text xs)) ≡ Ok ended
  unfolding read words_from
  all_read =
      let t = all-turns.on 0 [] in
      ap (λ bs. read start (words_from Braces 0 0 false [] bs)) (sym (append-nil (layout_text xs))) ∙ t.1

  written-said : said_in (layout_text xs) ≡ Ok ended
  unfolding ended
  written-said =
      let over : ltb come.count (length come.names) ≡ false = le-ltb come.count (length come.names) (omega (arith, come.names-long)) in
      ap (λ r. and_then r (λ s. cond (finished s) (Ok s) (Err (final-line (layout_text xs))))) all_read
      ∙ ap (λ b. cond (not b) (Ok ended) (Err (final-line (layout_text xs)))) over

  picture-is : picture top.after.said ≡ together top.more
  picture-is = ap (λ (s : Scene). together s.outer) top.after.shows

  drawn-back : (l x y : ℕ) → layout_in (meant ended).nodes l x y ≡ layout_in xs l x y
  unfolding layout_in drawn ended
  drawn-back l x y =
      let n = sixes xs in
      let some = sound.some in
      let back : drawing (picture top.after.said) ≡ drawing (node_at xs n (n - 1)) = ap drawing picture-is ∙ together_spread top.more ∙ top.draws ∙ ap drawing (sym (settle xs sound n (n - 1) (omega arith) (omega arith))) in
      text_draws (layout_text xs) (meant ended).nodes ended written-said refl ended written-said l x y ∙ ap (λ (d : Drawing). d l x y) back

  pub round : ReadsBack (layout_text xs) xs
  unfolding ended
  round = record {
    meaning = meant ended;
    read = ap (λ r. and_then r (λ s. Ok (meant s))) written-said;
    no_pins = no_pins top.after.said top.after.quiet;
    draws = drawn-back;
  }

pub reads_back : (xs text : List ℕ) → Sound xs → text ≡ layout_text xs → ReadsBack text xs
reads_back xs text sound q = subst (λ (t : List ℕ). ReadsBack t xs) (sym q) (round xs sound)

-- The statements that are written are read as what they say. Assumes nothing.
use Rattle.std.proofs.Common.{◌≡◌, ℕ, ◌+◌, ◌^◌, ◌<◌, ◌≤◌, Bool, true, false, cond, not, ltb, List, [], ◌∷◌, ◌++◌, length, Some, None, Ok, Err, codes, decimal, refl, ap, ◌∙◌, arith}
use Rattle.std.proofs.lemmas.Bool.{lt-ltb, le-ltb}
use Rattle.words.specs.Places.{place_of}
use Rattle.words.specs.Numbers.{number_in}
use Rattle.words.specs.Steps.{by_some}
use Rattle.text.specs.Keywords.{keyword_of, slots, slot_at}
use Rattle.text.specs.Readings.{State, Started, may_begin, value_of, settled, waiting, begin, noted, valued, go_on, accept}
use Rattle.text.specs.declared.keyword.Keyword.{Keyword}
use Rattle.text.specs.declared.keyword.Slot.{Slot}
use Rattle.text.specs.declared.keyword.Keyword.TheVariants as key
use Rattle.text.specs.declared.keyword.Slot.TheVariants as slot
use Rattle.text.specs.declared.statement.Statement.TheVariants as statement
use Rattle.text.specs.declared.statement.Said.{Said}
use Rattle.layout_writer.specs.Lines.{name, put_words}
use Rattle.layout_writer.proofs.Decimals.{number-back}
use Rattle.layout_writer.proofs.Cutting.{Whole, whole_plain, whole_open, whole-close, whole-number, Says, done, word}

-- between two statements, and in one
abbrev pub stands : List Said → List (List ℕ) → ℕ → Bool → State
stands d c k t = record { said = d; cells = c; pins = []; closed = k; turning = t; begun = None }

abbrev goes : List Said → List (List ℕ) → ℕ → Bool → ℕ → List ℕ → Keyword → State
goes d c k t l v K = record { said = d; cells = c; pins = []; closed = k; turning = t; begun = Some (record { keyword = K; line = l; values = v }) }

begin-word : (s : State) (K : Keyword) (w : List ℕ) (n : ℕ) → s.begun ≡ None → keyword_of w ≡ Some K → may_begin s K ≡ true → accept s w n ≡ Ok (settled s (record { keyword = K; line = n; values = [] }))
begin-word s K w n b e m =
    ap (λ o. by_some o (begin s w n) (λ b. go_on (waiting s None) b w n)) b
    ∙ ap (λ o. by_some o (Err n) (λ k. cond (may_begin s k) (Ok (settled s (record { keyword = k; line = n; values = [] }))) (Err n))) e
    ∙ ap (λ t. cond t (Ok (settled s (record { keyword = K; line = n; values = [] }))) (Err n)) m

next_word : (s : State) (b : Started) (p : Slot) (w : List ℕ) (n v : ℕ) → s.begun ≡ Some b → slot_at (slots b.keyword) (length b.values) ≡ Some p → value_of s p w ≡ Some v → accept s w n ≡ Ok (settled (noted (waiting s None) p w) (valued b v))
next_word s b p w n v h e f =
    ap (λ o. by_some o (begin s w n) (λ b. go_on (waiting s None) b w n)) h
    ∙ ap (λ o. by_some o (Err n) (λ p. by_some (value_of (waiting s None) p w) (Err n) (λ v. Ok (settled (noted (waiting s None) p w) (valued b v))))) e
    ∙ ap (λ o. by_some o (Err n) (λ v. Ok (settled (noted (waiting s None) p w) (valued b v)))) (same_value p ∙ f)
  where
    same_value : (p : Slot) → value_of (waiting s None) p w ≡ value_of s p w
    same_value slot.Number = refl
    same_value slot.Cell = refl
    same_value slot.NewCell = refl
    same_value slot.NewPin = refl
    same_value slot.At = refl
    same_value slot.Open = refl

-- a number, as it is written
pub record Number (w : List ℕ) (v : ℕ) : Type 0 where
  pub whole : Whole w
  pub is : number_in w ≡ Some v

pub a_number : (n : ℕ) → n < 2 ^ 64 → Number (decimal n) n
a_number n h = record { whole = whole-number n h; is = number-back n h }

-- the name of a cell that has ended
pub record Named (c : List (List ℕ)) (k a j : ℕ) : Type 0 where
  pub whole : Whole (name a)
  pub place : place_of c (name a) ≡ Some j
  pub ended : j < k

cell-value : (c : List (List ℕ)) (k a j : ℕ) → Named c k a j → by_some (place_of c (name a)) None (λ i. cond (ltb i k) (Some i) None) ≡ Some j
cell-value c k a j h =
    ap (λ o. by_some o None (λ i. cond (ltb i k) (Some i) None)) h.place ∙ ap (λ t. cond t (Some j) None) (lt-ltb j k h.ended)

module _ (n : ℕ) (d : List Said) (c : List (List ℕ)) (k : ℕ) (t : Bool) where
  number-next : (K : Keyword) (vs w : List ℕ) (x : ℕ) → slot_at (slots K) (length vs) ≡ Some slot.Number → Number w x → accept (goes d c k t n vs K) w n ≡ Ok (settled (stands d c k t) (record { keyword = K; line = n; values = vs ++ x ∷ [] }))
  number-next K vs w x e h = next_word (goes d c k t n vs K) (record { keyword = K; line = n; values = vs }) slot.Number w n x refl e h.is

  cell-next : (K : Keyword) (vs : List ℕ) (a j : ℕ) → slot_at (slots K) (length vs) ≡ Some slot.Cell → Named c k a j → accept (goes d c k t n vs K) (name a) n ≡ Ok (settled (stands d c k t) (record { keyword = K; line = n; values = vs ++ j ∷ [] }))
  cell-next K vs a j e h = next_word (goes d c k t n vs K) (record { keyword = K; line = n; values = vs }) slot.Cell (name a) n j refl e (cell-value c k a j h)

  pub box-says : (w1 w2 w3 w4 w5 : List ℕ) (a b e f g : ℕ) → Number w1 a → Number w2 b → Number w3 e → Number w4 f → Number w5 g → Says n (stands d c k t) (codes "box" ∷ w1 ∷ w2 ∷ w3 ∷ w4 ∷ w5 ∷ []) (stands (d ++ record { statement = statement.Box a b e f g; line = n } ∷ []) c k false)
  box-says w1 w2 w3 w4 w5 a b e f g p q r s u =
      word (whole_plain (codes "box") refl (omega arith)) (begin-word (stands d c k t) key.Box (codes "box") n refl refl refl)
      (word p.whole (number-next key.Box [] w1 a refl p)
      (word q.whole (number-next key.Box (a ∷ []) w2 b refl q)
      (word r.whole (number-next key.Box (a ∷ b ∷ []) w3 e refl r)
      (word s.whole (number-next key.Box (a ∷ b ∷ e ∷ []) w4 f refl s)
      (word u.whole (number-next key.Box (a ∷ b ∷ e ∷ f ∷ []) w5 g refl u) done)))))

  pub put-says : (a j : ℕ) (w1 w2 : List ℕ) (x y : ℕ) → Named c k a j → Number w1 x → Number w2 y → Says n (stands d c k t) (put_words a w1 w2) (stands (d ++ record { statement = statement.Put j x y; line = n } ∷ []) c k true)
  put-says a j w1 w2 x y h p q =
      word (whole_plain (codes "put") refl (omega arith)) (begin-word (stands d c k t) key.Put (codes "put") n refl refl refl)
      (word h.whole (cell-next key.Put [] a j refl h)
      (word (whole_plain (codes "at") refl (omega arith)) (next_word (goes d c k t n (j ∷ []) key.Put) (record { keyword = key.Put; line = n; values = j ∷ [] }) slot.At (codes "at") n 0 refl refl refl)
      (word p.whole (number-next key.Put (j ∷ 0 ∷ []) w1 x refl p)
      (word q.whole (number-next key.Put (j ∷ 0 ∷ x ∷ []) w2 y refl q) done))))

  pub row-says : (w1 w2 : List ℕ) (m f a j : ℕ) → Number w1 m → Number w2 f → Named c k a j → Says n (stands d c k t) (codes "row" ∷ w1 ∷ w2 ∷ name a ∷ []) (stands (d ++ record { statement = statement.Row m f j; line = n } ∷ []) c k false)
  row-says w1 w2 m f a j p q h =
      word (whole_plain (codes "row") refl (omega arith)) (begin-word (stands d c k t) key.Row (codes "row") n refl refl refl)
      (word p.whole (number-next key.Row [] w1 m refl p)
      (word q.whole (number-next key.Row (m ∷ []) w2 f refl q)
      (word h.whole (cell-next key.Row (m ∷ f ∷ []) a j refl h) done)))

  pub column-says : (w1 w2 : List ℕ) (m f a j : ℕ) → Number w1 m → Number w2 f → Named c k a j → Says n (stands d c k t) (codes "column" ∷ w1 ∷ w2 ∷ name a ∷ []) (stands (d ++ record { statement = statement.Column m f j; line = n } ∷ []) c k false)
  column-says w1 w2 m f a j p q h =
      word (whole_plain (codes "column") refl (omega arith)) (begin-word (stands d c k t) key.Column (codes "column") n refl refl refl)
      (word p.whole (number-next key.Column [] w1 m refl p)
      (word q.whole (number-next key.Column (m ∷ []) w2 f refl q)
      (word h.whole (cell-next key.Column (m ∷ f ∷ []) a j refl h) done)))

  pub close-says : k < length c → Says n (stands d c k t) (codes "}" ∷ []) (stands (d ++ record { statement = statement.Close; line = n } ∷ []) c (k + 1) false)
  close-says h =
      let inside : ltb k (length c) ≡ true = lt-ltb k (length c) h in
      let after : Bool → State = λ b. stands (d ++ record { statement = statement.Close; line = n } ∷ []) c (cond b (k + 1) k) false in
      word whole-close (begin-word (stands d c k t) key.Close (codes "}") n refl refl inside ∙ ap (λ b. Ok (after b)) inside) done

  pub open-says : (m : ℕ) → length c ≤ k → Whole (name m) → place_of c (name m) ≡ None → Says n (stands d c k t) (codes "cell" ∷ name m ∷ codes "{" ∷ []) (stands (d ++ record { statement = statement.Cell; line = n } ∷ []) (c ++ name m ∷ []) k false)
  open-says m h w p =
      let outside : not (ltb k (length c)) ≡ true = ap not (le-ltb k (length c) h) in
      word (whole_plain (codes "cell") refl (omega arith)) (begin-word (stands d c k t) key.Cell (codes "cell") n refl refl outside)
      (word w (next_word (goes d c k t n [] key.Cell) (record { keyword = key.Cell; line = n; values = [] }) slot.NewCell (name m) n 0 refl refl (ap (λ o. by_some o (Some 0) (λ j. None)) p))
      (word whole_open (next_word (goes d (c ++ name m ∷ []) k t n (0 ∷ []) key.Cell) (record { keyword = key.Cell; line = n; values = 0 ∷ [] }) slot.Open (codes "{") n 0 refl refl refl) done))

module _ (n : ℕ) (d : List Said) (c : List (List ℕ)) (k : ℕ) where
  pub turned-says : (w : List ℕ) (a : ℕ) → Number w a → Says n (stands d c k true) (codes "turned" ∷ w ∷ []) (stands (d ++ record { statement = statement.Turned a; line = n } ∷ []) c k true)
  turned-says w a p =
      word (whole_plain (codes "turned") refl (omega arith)) (begin-word (stands d c k true) key.Turned (codes "turned") n refl refl refl)
      (word p.whole (number-next n d c k true key.Turned [] w a refl p) done)

  pub mirrored-says : (w : List ℕ) (a : ℕ) → Number w a → Says n (stands d c k true) (codes "mirrored" ∷ w ∷ []) (stands (d ++ record { statement = statement.Mirrored a; line = n } ∷ []) c k true)
  mirrored-says w a p =
      word (whole_plain (codes "mirrored") refl (omega arith)) (begin-word (stands d c k true) key.Mirrored (codes "mirrored") n refl refl refl)
      (word p.whole (number-next n d c k true key.Mirrored [] w a refl p) done)

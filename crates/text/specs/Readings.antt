-- A layout text, word by word: which statements it says, or which word can't stand where it stands. Assumes nothing: these are definitions.
use Rattle.std.specs.Prelude.{◌≡◌, ℕ, ◌+◌, Bool, true, false, cond, not, ◌||◌, List, [], ◌∷◌, ◌++◌, length, is_some, Some, None, Ok, Err, vec_items, codes, Option, Result, nat_lt}
use Rattle.std.specs.Str.{bytes_eq}
use Rattle.layout.specs.declared.refusal.Fault.{Fault}
use Rattle.layout.specs.declared.refusal.Fault.TheVariants.{Refused, Memory}
use Rattle.layout.specs.declared.refusal.Refusal.TheVariants.{Text}
use Rattle.layout.specs.Refusals.{place_of}
use Rattle.words.specs.Lines.{last_line}
use Rattle.words.specs.Words.{Token, words_of}
use Rattle.words.specs.declared.word.Marks.TheVariants.{Braces}
use Rattle.words.specs.Places.{place_of as place-among}
use Rattle.words.specs.Numbers.{number_in}
use Rattle.words.specs.Steps.{by_some, and_then}
use Rattle.text.specs.Keywords.{keyword_of, slots, slot_at, turns, statement_of}
use Rattle.text.specs.declared.keyword.Keyword.{Keyword}
use Rattle.text.specs.declared.keyword.Slot.{Slot}
use Rattle.text.specs.declared.keyword.Keyword.TheVariants as key
use Rattle.text.specs.declared.keyword.Slot.TheVariants as slot
use Rattle.text.specs.declared.statement.Said.{Said}
use Rattle.text.specs.declared.reader.Begun.{Begun}
use Rattle.text.specs.declared.reader.Reader.{Reader}

-- a statement that has begun: its first word with its line, and the values of the words after it so far
pub record Started : Type 0 where
  pub keyword : Keyword
  pub line : ℕ
  pub values : List ℕ

-- what has been read: the statements, the names of cells and pins, how many cells have ended, whether a turn may follow, and the statement that has begun
pub record State : Type 0 where
  pub said : List Said
  pub cells : List (List ℕ)
  pub pins : List (List ℕ)
  pub closed : ℕ
  pub turning : Bool
  pub begun : Option Started

abbrev pub start : State
start = record { said = []; cells = []; pins = []; closed = 0; turning = false; begun = None }

abbrev pub inside : State → Bool
inside s = nat_lt s.closed (length s.cells)

-- no cell and no pin is said inside a cell; a turn follows a put
abbrev pub may_begin : State → Keyword → Bool
may_begin s key.Box = true
may_begin s key.Cell = not (inside s)
may_begin s key.Close = inside s
may_begin s key.Put = true
may_begin s key.Turned = s.turning
may_begin s key.Mirrored = s.turning
may_begin s key.Row = true
may_begin s key.Column = true
may_begin s key.Pin = not (inside s)

abbrev pub brace : List ℕ → Bool
brace w = bytes_eq w (codes "{") || bytes_eq w (codes "}")

-- a name is any word but a brace
abbrev pub new_name : List (List ℕ) → List ℕ → Option ℕ
new_name ns w = cond (brace w) None (by_some (place-among ns w) (Some 0) (λ k. None))

-- the value of a word that can stand in a slot: of a number itself, of a cell its number, else 0
abbrev pub value_of : State → Slot → List ℕ → Option ℕ
value_of s slot.Number w = number_in w
value_of s slot.Cell w = by_some (place-among s.cells w) None (λ k. cond (nat_lt k s.closed) (Some k) None)
value_of s slot.NewCell w = new_name s.cells w
value_of s slot.NewPin w = new_name s.pins w
value_of s slot.At w = cond (bytes_eq w (codes "at")) (Some 0) None
value_of s slot.Open w = cond (bytes_eq w (codes "{")) (Some 0) None

abbrev pub started : Begun → Started
started b = record { keyword = b.keyword; line = b.line; values = b.values.items }

abbrev pub state_of : Reader → State
state_of r = record { said = vec_items r.said; cells = r.cells; pins = r.pins; closed = r.closed; turning = r.turning; begun = by_some r.begun None (λ b. Some (started b)) }

-- how many cells have ended after a statement
abbrev pub closed_by : State → Keyword → ℕ
closed_by s key.Box = s.closed
closed_by s key.Cell = s.closed
closed_by s key.Close = cond (inside s) (s.closed + 1) s.closed
closed_by s key.Put = s.closed
closed_by s key.Turned = s.closed
closed_by s key.Mirrored = s.closed
closed_by s key.Row = s.closed
closed_by s key.Column = s.closed
closed_by s key.Pin = s.closed

-- a statement ends once each of its words has a value
abbrev pub completed : State → Started → State
completed s b = record {
  said = s.said ++ record { statement = statement_of b.keyword b.values; line = b.line } ∷ [];
  cells = s.cells;
  pins = s.pins;
  closed = closed_by s b.keyword;
  turning = turns b.keyword;
  begun = None;
}

abbrev pub waiting : State → Option Started → State
waiting s o = record { said = s.said; cells = s.cells; pins = s.pins; closed = s.closed; turning = s.turning; begun = o }

abbrev pub settled : State → Started → State
settled s b = cond (nat_lt (length b.values) (length (slots b.keyword))) (waiting s (Some b)) (completed s b)

-- a statement begins
abbrev pub begin : State → List ℕ → ℕ → Result State ℕ
begin s w n = by_some (keyword_of w) (Err n) (λ k. cond (may_begin s k) (Ok (settled s (record { keyword = k; line = n; values = [] }))) (Err n))

-- it goes on with a word and its value; a new name is kept
abbrev pub noted : State → Slot → List ℕ → State
noted s slot.Number w = s
noted s slot.Cell w = s
noted s slot.NewCell w = record { said = s.said; cells = s.cells ++ w ∷ []; pins = s.pins; closed = s.closed; turning = s.turning; begun = s.begun }
noted s slot.NewPin w = record { said = s.said; cells = s.cells; pins = s.pins ++ w ∷ []; closed = s.closed; turning = s.turning; begun = s.begun }
noted s slot.At w = s
noted s slot.Open w = s

abbrev pub valued : Started → ℕ → Started
valued b v = record { keyword = b.keyword; line = b.line; values = b.values ++ v ∷ [] }

abbrev pub go_on : State → Started → List ℕ → ℕ → Result State ℕ
go_on s b w n =
    by_some (slot_at (slots b.keyword) (length b.values)) (Err n)
    (λ p. by_some (value_of s p w) (Err n) (λ v. Ok (settled (noted s p w) (valued b v))))

-- one word more, or the line of a word that can't stand here
abbrev pub accept : State → List ℕ → ℕ → Result State ℕ
accept s w n = by_some s.begun (begin s w n) (λ b. go_on (waiting s None) b w n)

unfoldable pub read : State → List Token → Result State ℕ
read s [] = Ok s
read s (t ∷ ts) = and_then (accept s t.bytes t.line) (λ z. read z ts)

-- at the end no statement is left half said, and no cell open
abbrev pub finished : State → Bool
finished s = not (is_some s.begun || inside s)

-- what a text says, or the line of the first word that can't stand where it stands: at an early end the last line
abbrev pub said_in : List ℕ → Result State ℕ
said_in text = and_then (read start (words_of Braces text)) (λ s. cond (finished s) (Ok s) (Err (last_line text)))

abbrev pub Read : Result State ℕ → Result Reader Fault → Type 0
Read m (Ok r) = m ≡ Ok (state_of r)
Read m (Err (Refused e)) = (e ≡ Text (place_of e)) × (m ≡ Err (place_of e))
Read m (Err Memory) = Unit {0}

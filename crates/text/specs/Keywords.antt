-- The statements of a layout text, word by word. Assumes nothing: these are definitions.
use Rattle.std.specs.Prelude.{ℕ, Bool, true, false, cond, List, [], ◌∷◌, length, Some, None, codes, Option, nat_lt, slice_index, slice_index_or}
use Rattle.std.specs.Str.{bytes_eq}
use Rattle.text.specs.declared.keyword.Keyword.{Keyword}
use Rattle.text.specs.declared.keyword.Slot.{Slot}
use Rattle.text.specs.declared.keyword.Keyword.TheVariants as key
use Rattle.text.specs.declared.keyword.Slot.TheVariants as slot
use Rattle.text.specs.declared.statement.Statement.{Statement}
use Rattle.text.specs.declared.statement.Statement.TheVariants as statement

-- the words that begin a statement
abbrev pub keyword_of : List ℕ → Option Keyword
keyword_of w =
    cond (bytes_eq w (codes "box")) (Some key.Box)
    (cond (bytes_eq w (codes "cell")) (Some key.Cell)
    (cond (bytes_eq w (codes "}")) (Some key.Close)
    (cond (bytes_eq w (codes "put")) (Some key.Put)
    (cond (bytes_eq w (codes "turned")) (Some key.Turned)
    (cond (bytes_eq w (codes "mirrored")) (Some key.Mirrored)
    (cond (bytes_eq w (codes "row")) (Some key.Row)
    (cond (bytes_eq w (codes "column")) (Some key.Column)
    (cond (bytes_eq w (codes "pin")) (Some key.Pin) None))))))))

-- the words that follow
abbrev pub slots : Keyword → List Slot
slots key.Box = slot.Number ∷ slot.Number ∷ slot.Number ∷ slot.Number ∷ slot.Number ∷ []
slots key.Cell = slot.NewCell ∷ slot.Open ∷ []
slots key.Close = []
slots key.Put = slot.Cell ∷ slot.At ∷ slot.Number ∷ slot.Number ∷ []
slots key.Turned = slot.Number ∷ []
slots key.Mirrored = slot.Number ∷ []
slots key.Row = slot.Number ∷ slot.Number ∷ slot.Cell ∷ []
slots key.Column = slot.Number ∷ slot.Number ∷ slot.Cell ∷ []
slots key.Pin = slot.NewPin ∷ slot.Number ∷ slot.Number ∷ slot.Number ∷ []

abbrev pub slot_at : List Slot → ℕ → Option Slot
slot_at ss n = cond (nat_lt n (length ss)) (Some (slice_index_or ss n slot.Number)) None

-- a put and its turns are followed by turns
abbrev pub turns : Keyword → Bool
turns key.Box = false
turns key.Cell = false
turns key.Close = false
turns key.Put = true
turns key.Turned = true
turns key.Mirrored = true
turns key.Row = false
turns key.Column = false
turns key.Pin = false

-- what they say, by their values
abbrev pub statement_of : Keyword → List ℕ → Statement
statement_of key.Box vs = statement.Box (slice_index vs 0) (slice_index vs 1) (slice_index vs 2) (slice_index vs 3) (slice_index vs 4)
statement_of key.Cell vs = statement.Cell
statement_of key.Close vs = statement.Close
statement_of key.Put vs = statement.Put (slice_index vs 0) (slice_index vs 2) (slice_index vs 3)
statement_of key.Turned vs = statement.Turned (slice_index vs 0)
statement_of key.Mirrored vs = statement.Mirrored (slice_index vs 0)
statement_of key.Row vs = statement.Row (slice_index vs 0) (slice_index vs 1) (slice_index vs 2)
statement_of key.Column vs = statement.Column (slice_index vs 0) (slice_index vs 1) (slice_index vs 2)
statement_of key.Pin vs = statement.Pin (slice_index vs 1) (slice_index vs 2) (slice_index vs 3)

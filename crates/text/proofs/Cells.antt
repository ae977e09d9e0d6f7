-- Statements that name cells that have ended. Assumes nothing.
use Rattle.std.proofs.Common.{ℕ, ◌+◌, ◌<◌, List, [], ◌∷◌}
use Rattle.text.specs.declared.statement.Statement.{Statement}
use Rattle.text.specs.declared.statement.Statement.TheVariants as statement
use Rattle.text.specs.declared.statement.Said.{Said}

-- a put, a row and a column name one of the cells that have ended, of which there are n
abbrev pub NamesEnded : ℕ → Statement → Type 0
NamesEnded n (statement.Box l x y a h) = Unit {0}
NamesEnded n statement.Cell = Unit {0}
NamesEnded n statement.Close = Unit {0}
NamesEnded n (statement.Put c x y) = c < n
NamesEnded n (statement.Turned k) = Unit {0}
NamesEnded n (statement.Mirrored k) = Unit {0}
NamesEnded n (statement.Row m f c) = c < n
NamesEnded n (statement.Column m f c) = c < n
NamesEnded n (statement.Pin l x y) = Unit {0}

abbrev pub ends : Statement → ℕ
ends (statement.Box l x y a h) = 0
ends statement.Cell = 0
ends statement.Close = 1
ends (statement.Put c x y) = 0
ends (statement.Turned k) = 0
ends (statement.Mirrored k) = 0
ends (statement.Row m f c) = 0
ends (statement.Column m f c) = 0
ends (statement.Pin l x y) = 0

unfoldable pub AllEnded : ℕ → List Said → Type 0
AllEnded n [] = Unit {0}
AllEnded n (s ∷ ss) = NamesEnded n s.statement × AllEnded (n + ends s.statement) ss

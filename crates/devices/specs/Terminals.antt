-- The nets beside a channel, each with its first square, as borders are looked at one by one. Assumes nothing: these are definitions.
use Rattle.std.specs.Prelude.{◌≡◌, ℕ, ◌<◌, Bool, cond, ◌&&◌, ◌||◌, ◌⊎◌, List, length, Some, None, Option, ◌==◌, ◌≢◌, nat_lt, slice_index_or}
use Rattle.std.specs.List.{ContainsAt as In}
use Rattle.devices.specs.declared.border.Border.{Border}
use Rattle.devices.specs.declared.terminal.Terminal.{Terminal}
use Rattle.devices.specs.declared.terminal.Terminals.{Terminals}
use Rattle.devices.specs.declared.terminal.Terminals.TheVariants.{Isolated, One, Two, Many}

-- the least row is first, and in it the least column
abbrev pub precedes : Terminal → Terminal → Bool
precedes s t = nat_lt s.y t.y || (s.y == t.y && nat_lt s.x t.x)

abbrev pub sooner : Terminal → Terminal → Terminal
sooner s t = cond (precedes t s) t s

-- one square more
abbrev pub with_one : Terminals → Terminal → Terminals
with_one Isolated u = One u
with_one (One s) u = cond (s.net == u.net) (One (sooner s u)) (Two s u)
with_one (Two s t) u = cond (s.net == u.net) (Two (sooner s u) t) (cond (t.net == u.net) (Two s (sooner t u)) Many)
with_one Many u = Many

-- the two ends of a device, the one with the first square before the other
abbrev pub ends_of : Terminals → Option (Terminal × Terminal)
ends_of Isolated = None
ends_of (One s) = Some (s, s)
ends_of (Two s t) = cond (precedes t s) (Some (t, s)) (Some (s, t))
ends_of Many = None

-- a border of the channel r is this one
pub record Held (bs : List Border) (r : ℕ) (t : Terminal) : Type 0 where
  pub border : Border
  pub has : In bs border
  pub channel : border.channel ≡ r
  pub net : border.net ≡ t.net
  pub across : border.x ≡ t.x
  pub down : border.y ≡ t.y

-- the border is of the net of t, and not before t
pub record Later (t : Terminal) (b : Border) : Type 0 where
  pub net : b.net ≡ t.net
  pub late : (b.y < t.y) ⊎ ((b.y ≡ t.y) × (b.x < t.x)) → ⊥

-- what the borders of the channel r come to: none; of one net, and its first square; of two; of three or more
abbrev pub Sums : List Border → ℕ → Terminals → Type 0
Sums bs r Isolated = (b : Border) → In bs b → b.channel ≢ r
Sums bs r (One t) = Held bs r t × ((b : Border) → In bs b → b.channel ≡ r → Later t b)
Sums bs r (Two s t) = Held bs r s × Held bs r t × (s.net ≢ t.net) × ((b : Border) → In bs b → b.channel ≡ r → Later s b ⊎ Later t b)
Sums bs r Many =
    (s : Terminal) × (t : Terminal) × (u : Terminal) × Held bs r s × Held bs r t × Held bs r u × (s.net ≢ t.net) × (s.net ≢ u.net) × (t.net ≢ u.net)

-- the same of each of n channels
pub record Gathered (bs : List Border) (n : ℕ) (es : List Terminals) : Type 0 where
  pub long : length es ≡ n
  pub each : (r : ℕ) → r < n → Sums bs r (slice_index_or es r Isolated)

-- What the contracts on a crossing say of its parts. Assumes nothing: these are definitions.
use Rattle.std.specs.Prelude.{◌≡◌, ℕ, List, vec_items}
use Rattle.tiles.specs.declared.tile.Tile.{Tile}
use Rattle.tiles.specs.Tiles.{Ordered}
use Rattle.tiles.specs.Cuts.{Bounded}
use Rattle.devices.specs.declared.border.Border.{Border}
use Rattle.devices.specs.declared.direction.Direction.{Direction}
use Rattle.devices.specs.declared.crossing.Crossing.{Crossing}
use Rattle.layout.specs.Layout.{Drawing}
use Rattle.nets.specs.Nets.{Technology, wire}
use Rattle.nets.specs.Wires.{Shows}
use Rattle.devices.specs.Pieces.{gated, Wired, Gated}
use Rattle.devices.specs.Borders.{Added, Flanked, Fringed}

-- tiles in order, and regions that reach not far
pub record Laid (c : Crossing) : Type 0 where
  pub channels : Ordered (vec_items c.channels.tiles)
  pub wires : Ordered (vec_items c.wires.tiles)
  pub channel : Bounded (vec_items c.channel.bands)
  pub wire : Bounded (vec_items c.wire.bands)

-- the crossed layer's channels and wire, and the wire of all layers
pub record Crossed (k : Technology) (d : Drawing) (c : Crossing) : Type 0 where
  pub laid : Laid c
  pub layer : c.layer ≡ k.crossed
  pub channel : Shows (vec_items c.channel.bands) (gated k d)
  pub wire : Shows (vec_items c.wire.bands) (wire k d k.crossed)
  pub channels : Gated k d (vec_items c.channels.tiles) (vec_items c.channels.roots)
  pub wires : Wired k d (vec_items c.wires.tiles) (vec_items c.wires.roots)

abbrev pub Adding : Direction → Crossing → (ms : List Tile) (m : ℕ) (before after : List Border) → Type 0
Adding v c = Added v c.layer (vec_items c.channels.tiles) (vec_items c.channels.roots) (vec_items c.wires.tiles) (vec_items c.wires.roots)

abbrev pub Flanking : Direction → Crossing → (before after : List Border) → Type 0
Flanking v c =
    Flanked v c.layer (vec_items c.channel.bands) (vec_items c.wire.bands) (vec_items c.channels.tiles) (vec_items c.channels.roots) (vec_items c.wires.tiles) (vec_items c.wires.roots)

abbrev pub Fringing : Crossing → List Border → Type 0
Fringing c =
    Fringed c.layer (vec_items c.channel.bands) (vec_items c.wire.bands) (vec_items c.channels.tiles) (vec_items c.channels.roots) (vec_items c.wires.tiles) (vec_items c.wires.roots)

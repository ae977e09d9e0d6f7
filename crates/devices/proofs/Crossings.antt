-- A crossing laid from boxes, and what its borders tell.
use Rattle.std.proofs.Common.{◌≡◌, ◌^◌, ◌<◌, List, length, vec_items, subst}
use Rattle.std.specs.List.{AllByRecursion}
use Rattle.std.proofs.lemmas.Bool.{and_left}
use Rattle.layout.specs.Layout.{Drawing}
use Rattle.layout.specs.Rects.{Within, covered}
use Rattle.layout.specs.declared.rect.Rect.{Rect}
use Rattle.scanline.specs.declared.band.Band.{Band}
use Rattle.tiles.specs.Cuts.{Bounded}
use Rattle.nets.specs.Nets.{Technology, wire}
use Rattle.nets.specs.Wires.{Shows}
use Rattle.nets.proofs.Layers.{bounded_from, far-covered, far-wire}
use Rattle.devices.specs.declared.border.Border.{Border}
use Rattle.devices.specs.declared.crossing.Crossing.{Crossing}
use Rattle.devices.specs.declared.terminal.Terminals.{Terminals}
use Rattle.devices.specs.Pieces.{gated, Linked, Wired}
use Rattle.devices.specs.Borders.{Fringed}
use Rattle.devices.specs.Terminals.{Gathered}
use Rattle.devices.specs.Crossings.{Crossed, Fringing}
use Rattle.devices.specs.Readings.{Known}
use Rattle.devices.proofs.Channels.{gated-from}
use Rattle.devices.proofs.Borders.{known-judged, borders-within}

pub channel-bounded : (k : Technology) (qs : List Rect) (bs : List Band) → AllByRecursion (Within (2 ^ 40)) qs → Shows bs (gated k (covered qs)) → Bounded bs
channel-bounded k qs bs h shows = bounded_from bs (gated k (covered qs)) shows (λ x y o. and_left (covered qs k.crossed x y) _ (far-covered qs k.crossed h x y o))

pub crossed-from :
    (k : Technology) (qs : List Rect) (c : Crossing) → AllByRecursion (Within (2 ^ 40)) qs → c.layer ≡ k.crossed → Shows (vec_items c.channel.bands) (gated k (covered qs)) →
    Shows (vec_items c.wire.bands) (wire k (covered qs) k.crossed) → Linked c.layer (vec_items c.channel.bands) (vec_items c.channels.tiles) (vec_items c.channels.roots) →
    Wired k (covered qs) (vec_items c.wires.tiles) (vec_items c.wires.roots) → Crossed k (covered qs) c
crossed-from k qs c h e channel wires link wired = record {
  laid = record {
    channels = link.ordered;
    wires = wired.tiled.ordered;
    channel = channel-bounded k qs (vec_items c.channel.bands) h channel;
    wire = bounded_from (vec_items c.wire.bands) (wire k (covered qs) k.crossed) wires (far-wire k qs k.crossed h);
  };
  layer = e;
  channel = channel;
  wire = wires;
  channels = gated-from k (covered qs) (vec_items c.channels.tiles) (vec_items c.channel.bands) (vec_items c.channels.roots) c.layer e channel link;
  wires = wired;
}

module _ (k : Technology) (d : Drawing) (c : Crossing) (cr : Crossed k d c) (bs : List Border) (fr : Fringing c bs) where
  on-crossed : Fringed k.crossed (vec_items c.channel.bands) (vec_items c.wire.bands) (vec_items c.channels.tiles) (vec_items c.channels.roots) (vec_items c.wires.tiles) (vec_items c.wires.roots) bs
  on-crossed =
      subst (λ l. Fringed l (vec_items c.channel.bands) (vec_items c.wire.bands) (vec_items c.channels.tiles) (vec_items c.channels.roots) (vec_items c.wires.tiles) (vec_items c.wires.roots) bs)
      cr.layer fr

  pub few-channels : AllByRecursion (λ b. b.channel < length (vec_items c.channels.tiles)) bs
  few-channels =
      borders-within k d (vec_items c.channel.bands) (vec_items c.wire.bands) (vec_items c.channels.tiles) (vec_items c.channels.roots) (vec_items c.wires.tiles) (vec_items c.wires.roots)
      cr.channel cr.wire cr.channels cr.wires bs on-crossed

  pub known_from : (es : List Terminals) → Gathered bs (length (vec_items c.channels.tiles)) es → Known k d (vec_items c.channels.tiles) (vec_items c.channels.roots) es
  known_from es all = record {
    gated = cr.channels;
    judged = λ i h own.
        known-judged k d (vec_items c.channel.bands) (vec_items c.wire.bands) (vec_items c.channels.tiles) (vec_items c.channels.roots) (vec_items c.wires.tiles) (vec_items c.wires.roots)
        cr.channel cr.wire cr.channels cr.wires bs on-crossed i h own es all;
  }

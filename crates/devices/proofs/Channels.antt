-- Channels as wire of a technology of their own: what holds of ways holds under gates.
use Rattle.std.proofs.Common.{◌≡◌, ℕ, suc, Bool, true, false, not, ◌&&◌, eqb, List, [], sym, refl, ◌∙◌, inl, inr, arith}
use Rattle.std.proofs.lemmas.Bool.{ne_eqb, and_parts, eqb-true, false≢true}
use Rattle.layout.specs.Layout.{Drawing}
use Rattle.scanline.specs.declared.band.Band.{Band}
use Rattle.tiles.specs.declared.tile.Tile.{Tile}
use Rattle.tiles.specs.Tiles.{held}
use Rattle.nets.specs.Nets.{Technology, wire, Spot, on, Way, stays, along, through}
use Rattle.nets.specs.Wires.{Shows, Tiled}
use Rattle.nets.proofs.Ways.{ways_on, ways_back, way-starts, way-ends}
use Rattle.nets.proofs.Joins.{connecting_none, connected}
use Rattle.devices.specs.Channels.{channel, Under, stays as rests, along as goes}
use Rattle.devices.specs.Ends.{Side, Ends}
use Rattle.devices.specs.Pieces.{root_of, gated, Linked, Gated}

-- all layers carry, nothing joins, and no gate crosses
abbrev pub plain : Technology → Technology
plain k = record { carries = λ l. true; joins = λ j a b. false; gate = suc k.crossed; crossed = k.crossed }

keep : (a b : Bool) → ((a && b) && not (a && false)) ≡ (a && b)
keep true true = refl
keep true false = refl
keep false b = refl

module _ (k : Technology) (d : Drawing) where
  wire-channel : (l x y : ℕ) → wire (plain k) (channel k d) l x y ≡ channel k d l x y
  unfolding wire channel
  wire-channel l x y = rw (ne_eqb (suc k.crossed) k.crossed (λ e. omega arith)) (keep (eqb l k.crossed) (d k.crossed x y && d k.gate x y))

  pub on-plain : (s : Spot) → on (wire (plain k) (channel k d)) s ≡ on (channel k d) s
  unfolding on
  on-plain s = wire-channel s.layer s.x s.y

  pub under-way : (a b : Spot) → Under k d a b → Way (plain k) (channel k d) a b
  under-way a b (rests h) = stays (on-plain a ∙ h)
  under-way a b (goes c e u s h) = along c e (under-way a c u) s (on-plain e ∙ h)

  pub way-under : (a b : Spot) → Way (plain k) (channel k d) a b → Under k d a b
  way-under a b (stays h) = rests (sym (on-plain a) ∙ h)
  way-under a b (along c e w s h) = goes c e (way-under a c w) s (sym (on-plain e) ∙ h)
  way-under a b (through c e j w p q r s h) = elim r [ inl x ↦ absurd (false≢true x) | inr x ↦ absurd (false≢true x) ]

  pub unders-on : (a b c : Spot) → Under k d a b → Under k d b c → Under k d a c
  unders-on a b c u v = way-under a c (ways_on (plain k) (channel k d) a b c (under-way a b u) (under-way b c v))

  pub unders-back : (a b : Spot) → Under k d a b → Under k d b a
  unders-back a b u = way-under b a (ways_back (plain k) (channel k d) a b (under-way a b u))

  pub under-starts : (a b : Spot) → Under k d a b → on (channel k d) a ≡ true
  under-starts a b u = sym (on-plain a) ∙ way-starts (plain k) (channel k d) a b (under-way a b u)

  pub under-ends : (a b : Spot) → Under k d a b → on (channel k d) b ≡ true
  under-ends a b u = sym (on-plain b) ∙ way-ends (plain k) (channel k d) a b (under-way a b u)

  -- what is beside a channel is so wherever one stands in it
  pub side-move : (a b e : Spot) → Under k d a b → Side k d a e → Side k d b e
  side-move a b e u s = record { from = s.from; under = unders-on b a s.from (unders-back a b u) s.under; beside = s.beside; wired = s.wired }

  pub ends-move : (a b x y : Spot) → Under k d a b → Ends k d a x y → Ends k d b x y
  ends-move a b x y u h = record {
    one = side-move a b x u h.one;
    other = side-move a b y u h.other;
    only = λ e s. h.only e (side-move b a e (unders-back a b u) s);
  }

  pub crossed-layer : (s : Spot) → on (channel k d) s ≡ true → s.layer ≡ k.crossed
  unfolding on channel
  crossed-layer s h = eqb-true s.layer k.crossed (and_parts (eqb s.layer k.crossed) _ h).0

  module _ (ts : List Tile) where
    pub tiled-plain : Tiled (channel k d) ts → Tiled (wire (plain k) (channel k d)) ts
    tiled-plain t = record { ordered = t.ordered; holds = λ l x y. t.holds l x y ∙ sym (wire-channel l x y) }

    linked-holds : (bs : List Band) (rs : List ℕ) (layer : ℕ) → layer ≡ k.crossed → Shows bs (gated k d) → Linked layer bs ts rs → (l x y : ℕ) → held ts l x y ≡ channel k d l x y
    unfolding channel
    linked-holds bs rs layer e shows link l x y = link.holds l x y ∙ rw (e, shows.shows x y)

    pub gated-from : (bs : List Band) (rs : List ℕ) (layer : ℕ) → layer ≡ k.crossed → Shows bs (gated k d) → Linked layer bs ts rs → Gated k d ts rs
    gated-from bs rs layer e shows link =
        let tiled : Tiled (channel k d) ts = record { ordered = link.ordered; holds = linked-holds bs rs layer e shows link } in
        let named = connected (plain k) (channel k d) ts [] (tiled-plain tiled) (root_of rs) 0 (connecting_none (plain k) (channel k d) ts [] (tiled-plain tiled) (root_of rs) link.grouped) (λ j a b. refl) in
        record {
          tiled = tiled;
          long = link.long;
          low = link.low;
          top = link.top;
          same = λ i j s t p q u. named.same i j s t p q (under-way s t u);
          apart = λ i j s t p q h. way-under s t (named.apart i j s t p q h);
        }

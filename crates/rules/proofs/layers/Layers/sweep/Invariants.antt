-- What `sweep` keeps true as it goes round.
use Rattle.std.proofs.Common.{◌≡◌, ℕ, ◌<◌, true, false, get_or, vec_items, vec_len}
use Rattle.layout.specs.Rects.{covered}
use Rattle.scanline.specs.Bands.{covers}
use Rattle.region.specs.declared.regions.Region.{Region}
use Rattle.rules.proofs.layers.Layers.sweep.Given as goal

abbrev pub invariant-loop-layer : goal.invariant-loop-layer
invariant-loop-layer l =
    (vec_len l.regions ≡ l.layer)
    × ((k : ℕ) (d : Region) (x y : ℕ) → k < l.layer → get_or l.wanted k false ≡ true → covers (vec_items (get_or (vec_items l.regions) k d).bands) x y ≡ covered l.boxes.rects.now k x y)

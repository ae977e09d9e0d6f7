-- The regions of layers, swept once. Assumes nothing: these are definitions.
use Rattle.std.specs.Prelude.{◌≡◌, ℕ, Bool, true, false, List, get_or, vec_items, slice_index_or}
use Rattle.layout.specs.Layout.{Drawing}
use Rattle.scanline.specs.Bands.{covers}
use Rattle.rules.specs.declared.layers.Layers.{Layers}

-- the squares that are held of a layer; one past the end has none
abbrev pub shows : Layers → Drawing
shows s l = covers (vec_items (get_or (vec_items s.regions) l s.none).bands)

-- the wanted layers show what is drawn on them
abbrev pub Swept : Drawing → List Bool → Layers → Type 0
Swept d wanted s = (l x y : ℕ) → slice_index_or wanted l false ≡ true → shows s l x y ≡ d l x y

-- Which numbers a layout text means. Assumes nothing: these are definitions.
use Rattle.std.specs.Prelude.{◌≡◌, ℕ, cond, List, length, Some, None, Ok, Err, vec_items, Option, Result, nat_lt, slice_index_or}
use Rattle.layout.specs.Refusals.{place_of}
use Rattle.layout.specs.declared.refusal.Fault.{Fault}
use Rattle.layout.specs.declared.refusal.Fault.TheVariants.{Refused, Memory}
use Rattle.layout.specs.declared.refusal.Refusal.TheVariants.{Text}
use Rattle.words.specs.Places.{place_of as place-among}
use Rattle.words.specs.Steps.{by_some, and_then}
use Rattle.text.specs.Readings.{State, said_in}
use Rattle.text.specs.Plans.{blank, all_said, finished}
use Rattle.text.specs.declared.plan.Pin.{Pin}
use Rattle.text.specs.declared.layout_text.LayoutText.{LayoutText}

pub record Meaning : Type 0 where
  pub nodes : List ℕ
  pub lines : List (Option ℕ)
  pub pins : List Pin
  pub names : List (List ℕ)

-- the nodes and pins of what is said, with the pins' names
abbrev pub meant : State → Meaning
meant s =
    let d = finished (all_said blank s.said) in
    record { nodes = d.sheet.nodes; lines = d.sheet.lines; pins = d.pins; names = s.pins }

-- or the line of the first word that can't stand where it stands
abbrev pub layout_text : List ℕ → Result Meaning ℕ
layout_text text = and_then (said_in text) (λ s. Ok (meant s))

abbrev pub meaning_of : LayoutText → Meaning
meaning_of t = record { nodes = vec_items t.nodes; lines = vec_items t.lines; pins = vec_items t.pins; names = t.names }

abbrev pub pin_named : Meaning → List ℕ → Option Pin
pin_named m name = by_some (place-among m.names name) None (λ k. cond (nat_lt k (length m.pins)) (Some (slice_index_or m.pins k (record { layer = 0; x = 0; y = 0 }))) None)

-- a text is read exactly if it means something; nothing is said where memory ran out
abbrev pub LayoutRead : List ℕ → Result LayoutText Fault → Type 0
LayoutRead text (Ok t) = layout_text text ≡ Ok (meaning_of t)
LayoutRead text (Err (Refused e)) = (e ≡ Text (place_of e)) × (layout_text text ≡ Err (place_of e))
LayoutRead text (Err Memory) = Unit {0}

-- What each line of a circuit text says. Assumes nothing: these are definitions.
use Rattle.std.specs.Prelude.{ℕ, cond, List, [], ◌∷◌, ◌++◌, map, length, Some, Ok, Err, codes, Result}
use Rattle.std.specs.Str.{bytes_eq}
use Rattle.words.specs.Words.{words_of}
use Rattle.words.specs.Places.{place_of}
use Rattle.words.specs.Steps.{by_some, and_then}
use Rattle.words.specs.declared.word.Marks.TheVariants.{Plain}
use Rattle.circuit_text.specs.Circuits.{Circuit, net_of, with_net}

-- names that are all new, each once
unfoldable pub new_names : ℕ → List (List ℕ) → List (List ℕ) → Result (List (List ℕ)) ℕ
new_names n ns [] = Ok ns
new_names n ns (w ∷ ws) = by_some (place_of ns w) (new_names n (ns ++ w ∷ []) ws) (λ k. Err n)

-- pins NAME ..: once; its names are the first nets
abbrev pub pinned : ℕ → Circuit → List (List ℕ) → Result Circuit ℕ
pinned n c ws =
    by_some c.pins
    (and_then (new_names n c.names ws) (λ ns. Ok (record { names = ns; pins = Some (record { many = length ws; line = n }); devices = c.devices })))
    (λ p. Err n)

-- a device at three nets, each a new one where its name is new
abbrev pub device_at : Circuit → (gate one other : List ℕ) → Circuit
device_at c g a b =
    let ns = c.names in
    let ns₁ = with_net ns g in
    let ns₂ = with_net ns₁ a in
    record { names = with_net ns₂ b; pins = c.pins; devices = c.devices ++ net_of ns g ∷ net_of ns₁ a ∷ net_of ns₂ b ∷ [] }

-- device GATE END END, after the pins
abbrev pub joined : ℕ → Circuit → List (List ℕ) → Result Circuit ℕ
joined n c [] = Err n
joined n c (g ∷ []) = Err n
joined n c (g ∷ (a ∷ [])) = Err n
joined n c (g ∷ (a ∷ (b ∷ []))) = by_some c.pins (Err n) (λ p. Ok (device_at c g a b))
joined n c (g ∷ (a ∷ (b ∷ (d ∷ ws)))) = Err n

abbrev pub said_by : ℕ → Circuit → List (List ℕ) → Result Circuit ℕ
said_by n c [] = Ok c
said_by n c (w ∷ ws) = cond (bytes_eq w (codes "pins")) (pinned n c ws) (cond (bytes_eq w (codes "device")) (joined n c ws) (Err n))

-- the circuit after line n; a line without words says nothing
abbrev pub stated : ℕ → Circuit → List ℕ → Result Circuit ℕ
stated n c line = said_by n c (map (λ t. t.bytes) (words_of Plain line))

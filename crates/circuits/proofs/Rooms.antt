-- A room into which the devices of a circuit are read, one after the other. Assumes nothing.
use Rattle.std.proofs.Common.{◌≡◌, ℕ, ◌+◌, ◌/◌, ◌<◌, ◌≤◌, min, List, length, set, replicate, ◌∙◌, inl, inr, arith, length-set, get_or-set_other, get_or-set_same, below_more}
use Rattle.std.proofs.lemmas.Bool.{cases_lt}
use Rattle.std.proofs.lemmas.List.{get_or-replicate, length-replicate}
use Rattle.circuits.specs.declared.netlist.Device.{Device}
use Rattle.circuits.specs.Netlists.{none, device_at, devices_in}
use Rattle.circuits.proofs.Comparisons.{read-behind}

-- the first n are read, and none behind them
pub record Reading (xs : List ℕ) (room : List Device) (n : ℕ) : Type 0 where
  pub long : length room ≡ 256
  pub there : (k : ℕ) → k < n → device_at room k ≡ device_at (devices_in xs) k
  pub behind : (k : ℕ) → n ≤ k → k < 256 → device_at room k ≡ none

pub reading_none : (xs : List ℕ) → Reading xs (replicate 256 none) 0
reading_none xs = record {
  long = length-replicate {A = Device} 256 none;
  there = λ k l. absurd (omega arith);
  behind = λ k _ l. get_or-replicate {A = Device} 256 k none none l;
}

pub reading_more : (xs : List ℕ) (room : List Device) (n : ℕ) (t : Device) → n < 256 → Reading xs room n → t ≡ device_at (devices_in xs) n → Reading xs (set room n t) (n + 1)
reading_more xs room n t l g e = record {
  long = length-set room n t ∙ g.long;
  there = below_more (λ k. device_at (set room n t) k ≡ device_at (devices_in xs) k) n
      (λ k h. get_or-set_other room n k t none (omega arith) ∙ g.there k h)
      (get_or-set_same room n t none (omega (arith, g.long)) ∙ e);
  behind = λ k m h. get_or-set_other room n k t none (omega arith) ∙ g.behind k (omega arith) h;
}

pub reading_all : (xs : List ℕ) (room : List Device) (n : ℕ) → Reading xs room n → min 256 (length xs / 3) ≤ n → (k : ℕ) → k < 256 → device_at room k ≡ device_at (devices_in xs) k
reading_all xs room n g m k l = elim (cases_lt k n) [
  | inl h ↦ g.there k h
  | inr h ↦ g.behind k h l ∙ read-behind xs k (omega arith)
]

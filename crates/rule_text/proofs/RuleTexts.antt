-- Rules read line by line. Assumes nothing.
use Rattle.std.proofs.Common.{◌≡◌, ℕ, List, [], ◌∷◌, Err}
use Rattle.layout.specs.declared.refusal.Fault.{Fault}
use Rattle.layout.specs.declared.refusal.Fault.TheVariants.{Refused, Memory}
use Rattle.words.proofs.Listings.{Listing, list-stopped}
use Rattle.rule_text.specs.Rules.{Rule}
use Rattle.rule_text.specs.RuleTexts.{lined, RulesRead}
use Rattle.layout.specs.Refusals.{Follows}

-- a line that can't be read stops the text
pub stopped : (text : List ℕ) (left : List (List ℕ)) (n : ℕ) (rs : List Rule) → Listing lined [] text left n rs → (line : List ℕ) (rest : List (List ℕ)) → left ≡ line ∷ rest → (k : ℕ) → k ≡ n →
    (zs : List Rule) (f : Fault) → Follows {U = Unit {0}} (lined k rs line) zs (Err f) → RulesRead text (Err f)
stopped text left n rs h line rest e k a zs (Refused r) j = (j.0, list-stopped lined [] text left n rs h line rest e k a _ j.1)
stopped text left n rs h line rest e k a zs Memory j = tt

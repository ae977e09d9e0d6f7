-- Regions read word by word. Assumes nothing.
use Rattle.std.proofs.Common.{◌≡◌, ℕ, ◌+◌, ◌<◌, ◌≤◌, Bool, true, false, cond, List, map, length, get_or, drop, Some, None, Err, Option, sym, ap, ◌∙◌}
use Rattle.std.proofs.lemmas.List.{drop_more, drop_all}
use Rattle.words.specs.Words.{Token, token_of}
use Rattle.words.specs.declared.word.Word.{Word}
use Rattle.words.specs.Steps.{by_some}
use Rattle.rule_text.specs.declared.stop.Stop.{Stop}
use Rattle.rule_text.specs.declared.stop.Stop.TheVariants.{Unreadable, Memory}
use Rattle.rule_text.specs.Expressions.{Reading, Found, accept, is_done, region_from, Takes, RegionRead}

abbrev after : Option Reading → List Token → Option Found
after o ts = by_some o None (λ z. cond (is_done z) (Some (record { nodes = z.nodes; rest = ts })) (region_from z ts))

module _ (ws : List Word) (G : Option Found) (e : Reading) (i : ℕ) (so_far : region_from e (map token_of (drop i ws)) ≡ G) where
  module _ (d : Word) (here : i < length ws) where
    step : after (accept e (get_or ws i d).bytes.now) (map token_of (drop (i + 1) ws)) ≡ G
    unfolding region_from
    step = ap (λ us. region_from e (map token_of us)) (sym (drop_more ws i d here)) ∙ so_far

    pub stopped : (z : Reading) (s : Stop) → Takes (accept e (get_or ws i d).bytes.now) z (Err s) → RegionRead G (Err s)
    stopped z Unreadable t = sym step ∙ ap (λ o. after o (map token_of (drop (i + 1) ws))) t
    stopped z Memory t = tt

    module _ (z : Reading) (taken : accept e (get_or ws i d).bytes.now ≡ Some z) where
      pick : Bool → Option Found
      pick u = cond u (Some (record { nodes = z.nodes; rest = map token_of (drop (i + 1) ws) })) (region_from z (map token_of (drop (i + 1) ws)))

      pub done : true ≡ is_done z → G ≡ Some (record { nodes = z.nodes; rest = map token_of (drop (i + 1) ws) })
      unfolding pick
      done t = sym step ∙ ap (λ o. after o (map token_of (drop (i + 1) ws))) taken ∙ ap pick (sym t)

      pub more : false ≡ is_done z → region_from z (map token_of (drop (i + 1) ws)) ≡ G
      unfolding pick
      more t = ap pick t ∙ ap (λ o. after o (map token_of (drop (i + 1) ws))) (sym taken) ∙ step

  pub none_left : length ws ≤ i → G ≡ None
  unfolding region_from
  none_left h = sym so_far ∙ ap (λ us. region_from e (map token_of us)) (drop_all i ws h)

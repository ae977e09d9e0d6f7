-- What `covers` needs beyond what the search finds.
use Rattle.std.proofs.Common.{rules, ◌∙◌, sym}
use Rattle.std.proofs.lemmas.Iterator.{YieldsList-from_slice}
use Rattle.std.proofs.lemmas.Iterator.Search.{any_from_yields_List}
use borrow.Author.Tests.{tests}
use Rattle.layout.specs.Rects.{in_rect}
use Rattle.layout.proofs.Rects.{covered-any}
use Rattle.layout.proofs.rect.covers.Goals as goal

pub returns : goal.returns
returns c =
    any_from_yields_List (λ q. in_rect q c.args.layer c.args.x c.args.y) _ _ _ c.any.ensures.ran (YieldsList-from_slice c.args.rects.now cc) (λ x b q k. search (rules, tests))
    ∙ sym (covered-any c.args.layer c.args.x c.args.y c.args.rects.now)

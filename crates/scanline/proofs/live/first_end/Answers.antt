-- What `first_end` needs beyond what the search finds.
use Rattle.std.proofs.Common.{min, rules}
use Rattle.std.proofs.lemmas.Iterator.{YieldsList-from_slice}
use Rattle.std.proofs.lemmas.Iterator.Consumers.{fold_from_yields_List}
use borrow.Author.Tests.{tests}
use Rattle.scanline.proofs.live.first_end.Goals as goal

pub returns : goal.returns
returns c = fold_from_yields_List _ (λ m s. min m s.bottom) c.args.row c.fold.result c.fold.ensures.ran (YieldsList-from_slice c.args.spans.now cc) (λ a x b q k. search (rules, tests))

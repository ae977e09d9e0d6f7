-- What `keyword_of` needs beyond what the search finds.
use Rattle.std.proofs.Common.{codes, sym, ap, rules}
use Rattle.std.proofs.lemmas.Slice.Eq.{text_from_reads}
use Rattle.text.specs.Keywords.{keyword_of}
use Rattle.text.proofs.keyword.keyword_of.Goals as goal

pub returns-in-turned : goal.returns-in-turned
returns-in-turned c = sym (ap keyword_of (text_from_reads c.args.word.now (codes "turned") (search rules) (search rules)))

pub returns-in-column : goal.returns-in-column
returns-in-column c = sym (ap keyword_of (text_from_reads c.args.word.now (codes "column") (search rules) (search rules)))

pub returns-in-mirrored : goal.returns-in-mirrored
returns-in-mirrored c = sym (ap keyword_of (text_from_reads c.args.word.now (codes "mirrored") (search rules) (search rules)))

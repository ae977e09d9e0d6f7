-- What `count_of` needs beyond what the search finds.
use Rattle.std.proofs.Common.{refl}
use Rattle.layout.proofs.Counts.{tally}
use Rattle.layout.proofs.count.count_of.Goals as goal

pub returns-in-Nothing : goal.returns-in-Nothing
returns-in-Nothing c = tally _ c.args.nodes.now.sound c.args.counts.now c.args.n c.requires.within c.requires.counted _ c.in-Nothing.ensures _ (refl)

pub returns-in-One : goal.returns-in-One
returns-in-One c = tally _ c.args.nodes.now.sound c.args.counts.now c.args.n c.requires.within c.requires.counted _ c.in-One.ensures _ (refl)

pub returns-in-Both : goal.returns-in-Both
returns-in-Both c = tally _ c.args.nodes.now.sound c.args.counts.now c.args.n c.requires.within c.requires.counted _ c.in-Both.ensures _ c.min.ensures

pub returns-in-Changed : goal.returns-in-Changed
returns-in-Changed c = tally _ c.args.nodes.now.sound c.args.counts.now c.args.n c.requires.within c.requires.counted _ c.in-Changed.ensures _ (refl)

pub returns-in-Row : goal.returns-in-Row
returns-in-Row c = tally _ c.args.nodes.now.sound c.args.counts.now c.args.n c.requires.within c.requires.counted _ c.in-Row.ensures _ c.min-in-Row.ensures

pub returns-in-Column : goal.returns-in-Column
returns-in-Column c = tally _ c.args.nodes.now.sound c.args.counts.now c.args.n c.requires.within c.requires.counted _ c.in-Column.ensures _ c.min-in-Column.ensures

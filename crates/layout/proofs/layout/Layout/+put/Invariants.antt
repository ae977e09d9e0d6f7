-- Why `put` ends: a node names earlier ones.
use Rattle.layout.proofs.layout.Layout.+put.Given as goal

abbrev pub decreases-put : goal.decreases-put
decreases-put l = l.n

-- A part is an earlier node.
use Rattle.layout_writer.proofs.write.+add_node.Given as goal

abbrev pub decreases-add_node : goal.decreases-add_node
decreases-add_node l = l.n

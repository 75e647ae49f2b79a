use Rattle.std.proofs.Common.{refl}
use Rattle.node.specs.Nodes.{node_words}
use Rattle.node.proofs.memory.Node.new.Goals as goal

pub returns : goal.returns
unfolding node_words
returns g c = refl

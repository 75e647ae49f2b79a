use Rattle.node.proofs.Edits.{pushed_if}
use Rattle.node.proofs.memory.Node.push.Goals as goal

pub returns : goal.returns
returns g c = λ level es is.
    pushed_if g.met.K.Key.coded level es c.args.self.now.words is c.args.entry.now c.squeezed.result c.squeezed.ensures
    c.push_row.new.self.words c.push_row.result c.push_row.ensures.full c.push_row.ensures.words

use Rattle.std.proofs.Common.{sym, ap, ◌∙◌, arith}
use Rattle.std.proofs.lemmas.Bool.{lt-ltb, le-ltb}
use Rattle.node.specs.Nodes.{node_words}
use Rattle.node.proofs.Places.{count_is}
use Rattle.node.proofs.Edits.{removed, without_past}
use Rattle.node.proofs.memory.Node.remove.Goals as goal

pub returns-then-i-count : goal.returns-then-i-count
returns-then-i-count g c = λ level es is.
    let n = count_is g.K.Key.growing level es c.args.self.now.words is in
    (sym (le-ltb _ _ (omega arith)), is ∙ ap (node_words g.K.Key.growing level) (sym (without_past es c.args.i (omega arith))))

pub returns : goal.returns
returns g c = λ level es is.
    let n = count_is g.K.Key.growing level es c.args.self.now.words is in (
      sym (lt-ltb _ _ (omega arith)),
      removed g.met.K.Key.coded level es c.args.self.now.words is c.args.self.now.long c.args.i (omega arith) (omega (arith, c.args.self.now.few))
          c.copy_within.new.self c.start.result c.start-2.result c.start.ensures c.start-2.ensures c.copy_within.ensures.after c.put.new.self.words c.put.ensures,
    )

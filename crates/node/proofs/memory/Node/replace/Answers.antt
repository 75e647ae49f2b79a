use Rattle.std.proofs.Common.{sym, ap, ◌∙◌, arith}
use Rattle.std.proofs.lemmas.List.{set_past}
use Rattle.std.proofs.lemmas.Bool.{lt-ltb, le-ltb}
use Rattle.node.specs.Nodes.{node_words}
use Rattle.node.proofs.Places.{count_is}
use Rattle.node.proofs.Edits.{replaced}
use Rattle.node.proofs.memory.Node.replace.Goals as goal

pub returns-then-i-count : goal.returns-then-i-count
returns-then-i-count g c = λ level es is.
    let n = count_is g.K.Key.growing level es c.args.self.now.words is in
    (sym (le-ltb _ _ (omega arith)), is ∙ ap (node_words g.K.Key.growing level) (sym (set_past es c.args.i _ (omega arith))))

pub returns : goal.returns
returns g c = λ level es is.
    let n = count_is g.K.Key.growing level es c.args.self.now.words is in (
      sym (lt-ltb _ _ (omega arith)),
      replaced g.met.K.Key.coded level es c.args.self.now.words is c.args.i (omega arith) c.args.entry.now
          c.squeezed.result c.squeezed.ensures c.put.new.self.words c.put.ensures,
    )

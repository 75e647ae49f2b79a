use Rattle.std.proofs.Common.{ℕ, set, append-nil, arith, length-set}
use Rattle.node.specs.Nodes.{Entry}
use Rattle.node.proofs.Places.{count_is}
use Rattle.insertion.proofs.Filling.{saved}
use Rattle.insertion.proofs.fill.regrow.Goals as goal

pub returns-in_ok-key-in-None : goal.returns-in_ok-key-in-None
returns-in_ok-key-in-None g c = record {
  says = λ level es st within room.
      let e : Entry g.row.K.Denot ℕ = record { key = c.args.change.key; link = c.args.child } in
      let l = length-set es c.args.i e in
      let n = count_is g.K.Key.growing level es c.args.node.words st in
      rw (c.unsplit.ensures, c.in-None.is, append-nil)
      (saved level (set es c.args.i e) (c.replace.ensures level es st).1 (omega (arith, c.args.node.few)) room.held c.in_ok-key-in-None.ensures);
}

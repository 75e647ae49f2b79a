use Rattle.key_class.proofs.Turns.{Marked}
use Rattle.key_class.proofs.keys.Keys.marks.Given as goal

abbrev pub invariant-loop-p : goal.invariant-loop-p
invariant-loop-p g l = Marked g.K.Key.growing l.seeds l.self l.p l.groups l.mark-items

use Rattle.removal.proofs.Stepping.{Looking}
use Rattle.removal.proofs.under.+remove_under.Given as goal

abbrev pub decreases-remove_under : goal.decreases-remove_under
decreases-remove_under g l = l.level

-- Nothing is found so far.
abbrev pub invariant-loop-i : goal.invariant-loop-i
invariant-loop-i g l =
    Looking g.K.KeyClass.class (g.S.PageStore.meaning l.fn.store) (g.S.PageStore.meaning l.store) l.node l.level l.entry.key l.entry.link l.i

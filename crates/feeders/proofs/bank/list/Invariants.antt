use Rattle.cursor.specs.Awaits.{left_to_do}
use Rattle.index.specs.Searching.{cursor_in}
use Rattle.feeders.proofs.Working.{Worked}
use Rattle.feeders.proofs.bank.list.Given as goal

abbrev pub invariant-loop-found : goal.invariant-loop-found
invariant-loop-found g l =
    let S = g.S.PageStore in
    Worked (S.meaning l.initial.search.index.store) (S.meaning l.search.index.store) l.initial.search l.search l.initial.log l.log

abbrev pub decreases-loop-found : goal.decreases-loop-found
decreases-loop-found g l = left_to_do (cursor_in l.search)

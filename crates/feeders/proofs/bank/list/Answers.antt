use Rattle.feeders.proofs.Working.{none_yet, one_more, no_more}
use Rattle.feeders.proofs.bank.list.Goals as goal

pub loop-found-init : goal.loop-found-init
loop-found-init g c = none_yet _ _ _

pub loop-found-preserved : goal.loop-found-preserved
loop-found-preserved g c =
    let e = c.in-Some.ensures in
    one_more _ _ _ _ _ _ _ _ _ c.in-Some.found c.loop-found.invariant e.kept e.nexts c.note.ensures.was c.note.ensures.noted

pub returns : goal.returns
returns g c = no_more _ _ _ _ _ _ _ c.loop-found.invariant c.in_default.ensures.nexts

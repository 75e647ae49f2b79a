use Rattle.std.proofs.Common.{◌≡◌}
use Rattle.host.proofs.bank.list.Given as goal

abbrev pub invariant-loop-page : goal.invariant-loop-page
invariant-loop-page g l = g.S.PageStore.meaning l.store ≡ g.S.PageStore.meaning l.initial.store

use Rattle.array_store.proofs.Kept.{allowed_within, allowed_held, keeps_written}
use Rattle.array_store.proofs.Answered.{past_kept}
use Rattle.array_store.proofs.calls.ArrayStorePageStore.write.Goals as goal

pub invariant_of-self : goal.invariant_of-self
invariant_of-self c =
    keeps_written c.args.self.now c.in_ok-check.ensures (c.fill.ensures (allowed_held c.args.self.now c.args.page c.in_ok-check.ensures))

pub returns-clause-past : goal.returns-clause-past
returns-clause-past c =
    past_kept c.args.self.now (c.fill.ensures (allowed_held c.args.self.now c.args.page c.in_ok-check.ensures))
    (allowed_within c.args.self.now c.args.page c.in_ok-check.ensures)

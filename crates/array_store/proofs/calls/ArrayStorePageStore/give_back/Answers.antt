use Rattle.array_store.proofs.Kept.{allowed_within, keeps_given}
use Rattle.array_store.proofs.Answered.{past_kept}
use Rattle.array_store.proofs.calls.ArrayStorePageStore.give_back.Goals as goal

pub invariant_of-self : goal.invariant_of-self
invariant_of-self c = keeps_given c.args.self.now c.in_ok-check.ensures c.release.ensures.edits c.release.ensures.link

pub returns-clause-past : goal.returns-clause-past
returns-clause-past c = past_kept c.args.self.now c.release.ensures.edits (allowed_within c.args.self.now c.args.page c.in_ok-check.ensures)

use Rattle.std.proofs.Common.{arith}
use Rattle.page_cache.proofs.Slots.{apart_set, whole_set}
use Rattle.page_cache.proofs.table.Table.mark_clean.Goals as goal

pub invariant_of-self-clause-apart : goal.invariant_of-self-clause-apart
invariant_of-self-clause-apart c = apart_set c.args.self.now.slots _ _ c.args.self.now.apart (λ p h. grind arith)

pub invariant_of-self-clause-whole : goal.invariant_of-self-clause-whole
invariant_of-self-clause-whole c = whole_set c.args.self.now.slots _ _ c.args.self.now.whole (λ k e. let w = c.args.self.now.whole _ _ c.in-Some.is in grind arith)

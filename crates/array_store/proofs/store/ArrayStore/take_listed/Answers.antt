use Rattle.std.proofs.Common.{arith}
use Rattle.array_store.proofs.Kept.{head_free, keeps_listed}
use Rattle.array_store.proofs.Answered.{calls, past_kept}
use Rattle.array_store.proofs.store.ArrayStore.take_listed.Goals as goal

pub next_listed-self-requires : goal.next_listed-self-requires
next_listed-self-requires c = (head_free c.args.self.now c.requires).0

pub hold-requires : goal.hold-requires
hold-requires c = (head_free c.args.self.now c.requires).0

pub invariant_of-self : goal.invariant_of-self
invariant_of-self c = keeps_listed c.args.self.now c.next_listed-self.result c.requires c.next_listed-self.ensures c.hold.ensures

pub returns-clause-took : goal.returns-clause-took
returns-clause-took c = let h = head_free c.args.self.now c.requires in grind (arith, calls)

pub returns-clause-past : goal.returns-clause-past
returns-clause-past c = past_kept c.args.self.now c.hold.ensures (head_free c.args.self.now c.requires).0

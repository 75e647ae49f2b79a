use Rattle.array_store.proofs.Kept.{keeps_fresh}
use Rattle.array_store.proofs.store.ArrayStore.take_fresh.Goals as goal

pub invariant_of-self : goal.invariant_of-self
invariant_of-self c = keeps_fresh c.args.self.now c.requires c.hold.ensures

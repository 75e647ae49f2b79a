use Rattle.std.proofs.Common.{arith}
use Rattle.array_store.proofs.Kept.{owed_made}
use Rattle.array_store.proofs.store.ArrayStore.new.Goals as goal

pub invariant_of-result : goal.invariant_of-result
invariant_of-result c = owed_made c.new.result c.args.words.items c.new.ensures.words (omega arith) (omega arith)

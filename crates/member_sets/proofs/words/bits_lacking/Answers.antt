use Rattle.std.proofs.Common.{arith}
use Rattle.member_sets.proofs.SingleBits.{lacking_is}
use Rattle.member_sets.proofs.words.bits_lacking.Goals as goal

pub returns : goal.returns
returns c = lacking_is c.args.a c.args.b (omega arith) (omega arith)

use Rattle.std.proofs.Common.{arith}
use Rattle.member_sets.proofs.SingleBits.{in_is}
use Rattle.member_sets.proofs.words.bits_in.Goals as goal

pub returns : goal.returns
returns c = in_is c.args.a c.args.b (omega arith)

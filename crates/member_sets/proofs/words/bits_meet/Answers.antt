use Rattle.std.proofs.Common.{arith}
use Rattle.member_sets.proofs.SingleBits.{meet_is}
use Rattle.member_sets.proofs.words.bits_meet.Goals as goal

pub returns : goal.returns
returns c = meet_is c.args.a c.args.b (omega arith)

use Rattle.std.proofs.Common.{arith, rules}
use Rattle.member_sets.proofs.SingleBits.{empty_is}
use Rattle.member_sets.proofs.members.Members.is_empty.Goals as goal

pub returns-then-w2-eq0 : goal.returns-then-w2-eq0
returns-then-w2-eq0 c = let e = empty_is c.args.self.now (omega arith) (omega arith) (omega arith) (omega arith) in search rules

pub returns-else-w2-eq0 : goal.returns-else-w2-eq0
returns-else-w2-eq0 c = let e = empty_is c.args.self.now (omega arith) (omega arith) (omega arith) (omega arith) in search rules

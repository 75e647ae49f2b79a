use Rattle.std.proofs.Common.{◌&&◌, rules}
use Rattle.member_sets.proofs.ByWords.{some_joins, by_words}
use Rattle.member_sets.proofs.members.Members.shares.Goals as goal

pub returns-then-bits_meet-3 : goal.returns-then-bits_meet-3
returns-then-bits_meet-3 c = let e = by_words some_joins (λ x y. x && y) c.args.self.now c.args.other.now in search rules

pub returns-else-bits_meet-3 : goal.returns-else-bits_meet-3
returns-else-bits_meet-3 c = let e = by_words some_joins (λ x y. x && y) c.args.self.now c.args.other.now in search rules

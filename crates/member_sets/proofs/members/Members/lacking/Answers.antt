use Rattle.std.proofs.Common.{not, ◌&&◌, arith}
use Rattle.member_sets.proofs.ByWords.{count_le, count_joins, by_words}
use Rattle.member_sets.proofs.members.Members.lacking.Goals as goal

pub overflow_add-result : goal.overflow_add-result
overflow_add-result c = omega (arith, count_le)

pub overflow_add-result-2 : goal.overflow_add-result-2
overflow_add-result-2 c = omega (arith, count_le)

pub overflow_add-result-3 : goal.overflow_add-result-3
overflow_add-result-3 c = omega (arith, count_le)

pub returns : goal.returns
returns c = let e = by_words count_joins (λ x y. y && not x) c.args.self.now c.args.other.now in omega arith

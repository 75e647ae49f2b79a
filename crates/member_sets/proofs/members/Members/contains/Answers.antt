use Rattle.std.proofs.Common.{not, ◌||◌, rules}
use Rattle.member_sets.proofs.ByWords.{all_joins, by_words}
use Rattle.member_sets.proofs.members.Members.contains.Goals as goal

pub returns-then-bits_in-3 : goal.returns-then-bits_in-3
returns-then-bits_in-3 c = let e = by_words all_joins (λ x y. not y || x) c.args.self.now c.args.other.now in search rules

pub returns-else-bits_in-3 : goal.returns-else-bits_in-3
returns-else-bits_in-3 c = let e = by_words all_joins (λ x y. not y || x) c.args.self.now c.args.other.now in search rules

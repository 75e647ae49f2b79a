use Rattle.std.proofs.Common.{ap, ◌∙◌}
use Rattle.member_sets.specs.Members.{member, has_member, contains}
use Rattle.member_sets.specs.Joining.{member_either, either_some}
use Rattle.member_sets.specs.Covering.{either_least}
use Rattle.member_sets.proofs.class.SetKeyKey.union.Goals as goal

pub invariant_of-result : goal.invariant_of-result
invariant_of-result c = record { some = ap has_member c.either.ensures ∙ either_some c.args.self.now.members c.args.other.now.members c.args.self.now.some }

pub returns-clause-members : goal.returns-clause-members
returns-clause-members c = λ k. ap (λ s. member s k) c.either.ensures ∙ member_either c.args.self.now.members c.args.other.now.members k

pub returns-clause-least : goal.returns-clause-least
returns-clause-least c = λ u h g. ap (contains u.members) c.either.ensures ∙ either_least u.members c.args.self.now.members c.args.other.now.members h g

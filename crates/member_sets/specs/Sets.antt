-- The class of sets: keys are sets with a member.
use Rattle.std.specs.Prelude.{◌≡◌, ℕ, Bool, true, false, List, Ok, Err, Option, Result, refl}
use Rattle.std.specs.Result.{result_ok}
use Rattle.key_class.specs.Class.{Growing, Class}
use Rattle.key_class.specs.Words.{four}
use Rattle.key_class.specs.Quadratic.{quadratic}
use Rattle.key_class.specs.declared.refusal.KeyRefusal.{KeyRefusal}
use Rattle.key_class.specs.declared.refusal.KeyRefusal.TheVariants.{NoMember}
use Rattle.member_sets.specs.declared.members.Members.{Members}
use Rattle.member_sets.specs.declared.key.SetKey.{SetKey}
use Rattle.member_sets.specs.declared.key.SetQuery.{SetQuery}
use Rattle.member_sets.specs.declared.key.SetQuery.TheVariants.{HasAll, SharesMember, LiesWithin}
use Rattle.member_sets.specs.Members.{has_member, contains, shares, lacking}
use Rattle.member_sets.specs.Joining.{members_of, words_of, either, either_some}

abbrev pub covers : SetKey → SetKey → Bool
covers a b = contains a.members b.members

abbrev pub union : SetKey → SetKey → SetKey
union a b = record { members = either a.members b.members; some = either_some a.members b.members a.some }

abbrev pub growth : SetKey → SetKey → ℕ
growth a b = lacking a.members b.members

abbrev pub squeeze : SetKey → List ℕ
squeeze a = words_of a.members

-- The key with the members s, or 23 where there are none.
abbrev pub key_if : (s : Members) (b : Bool) → has_member s ≡ b → Result SetKey KeyRefusal
key_if s true e = Ok (record { members = s; some = e })
key_if s false e = Err NoMember

abbrev pub read_key : ℕ → ℕ → ℕ → ℕ → Result SetKey KeyRefusal
read_key a b c d = key_if (members_of a b c d) (has_member (members_of a b c d)) refl

abbrev pub unsqueeze : List ℕ → Option SetKey
unsqueeze = four (λ a b c d. result_ok (read_key a b c d))

abbrev pub matches : SetKey → SetQuery → Bool
matches a (HasAll q) = contains a.members q
matches a (SharesMember q) = shares a.members q
matches a (LiesWithin q) = contains q a.members

-- A page with some member of the question may lead to a set that lies within it.
abbrev pub may_hold : SetKey → SetQuery → Bool
may_hold a (HasAll q) = contains a.members q
may_hold a (SharesMember q) = shares a.members q
may_hold a (LiesWithin q) = shares a.members q

abbrev pub set_growing : Growing SetKey
set_growing = record { union = union; growth = growth; squeeze = squeeze; unsqueeze = unsqueeze }

abbrev pub set_class : Class SetKey SetQuery
set_class = record { growing = set_growing; covers = covers; matches = matches; may_hold = may_hold; split = quadratic set_growing }

-- Keys and the four words that they are read from.
use Rattle.std.specs.Prelude.{◌≡◌, ℕ, Bool, true, false, [], ◌∷◌, Some, Ok, refl}
use Rattle.std.proofs.Common.{sym, ap, ◌∙◌}
use Rattle.std.proofs.Math.Bool.{So-prop}
use mathlib.Core.HLevel.{is_prop→PathP}
use Rattle.std.specs.Result.{result_ok}
use Rattle.std.proofs.lemmas.Bool.{both_ways}
use Rattle.key_class.specs.Class.{Coded}
use Rattle.key_class.proofs.Coding.{four_only}
use Rattle.member_sets.specs.declared.members.Members.{Members}
use Rattle.member_sets.specs.declared.key.SetKey.{SetKey}
use Rattle.member_sets.specs.Members.{has_member}
use Rattle.member_sets.specs.Joining.{members_of}
use Rattle.member_sets.specs.Sets.{squeeze, key_if, read_key, set_growing}

pub same_key : (a b : SetKey) → a.members ≡ b.members → a ≡ b
same_key a b e = λ i. record { members = e i; some = is_prop→PathP (λ j. has_member (e j) ≡ true) (λ j. So-prop (has_member (e j))) a.some b.some i }

pub read_made : (k : SetKey) (s : Members) → k.members ≡ s → key_if s (has_member s) refl ≡ Ok k
read_made k s e = go (has_member s) refl
  where
    go : (b : Bool) (t : has_member s ≡ b) → key_if s b t ≡ Ok k
    go true t = ap Ok (same_key (record { members = s; some = t }) k (sym e))
    go false t = absurd (both_ways (has_member s) t (ap has_member (sym e) ∙ k.some))

pub read_only : (a b c d : ℕ) (k : SetKey) → result_ok (read_key a b c d) ≡ Some k → squeeze k ≡ a ∷ b ∷ c ∷ d ∷ []
read_only a b c d k = go (has_member (members_of a b c d)) refl
  where
    go : (x : Bool) (t : has_member (members_of a b c d) ≡ x) → result_ok (key_if (members_of a b c d) x t) ≡ Some k → squeeze k ≡ a ∷ b ∷ c ∷ d ∷ []
    go true t e = cc
    go false t e = cc

pub set_coded : Coded set_growing
set_coded = record {
  four_words = λ k. refl;
  round_trip = λ k. ap result_ok (read_made k k.members refl);
  only_squeezed = four_only (λ a b c d. result_ok (read_key a b c d)) squeeze read_only;
}

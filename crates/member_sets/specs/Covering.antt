-- The laws of sets, by their members.
use Rattle.std.specs.Prelude.{◌≡◌, ℕ, ◌<◌, true, ◌&&◌, ◌↔◌, IsTrue}
use Rattle.std.proofs.Common.{sym, ◌∙◌, ⊎_elim}
use Rattle.std.proofs.lemmas.Bool.{and_parts, and_from, or_left, or_right, or_cases}
use Rattle.member_sets.specs.declared.members.Members.{Members}
use Rattle.member_sets.specs.declared.key.SetKey.{SetKey}
use Rattle.member_sets.specs.declared.key.SetQuery.{SetQuery}
use Rattle.member_sets.specs.declared.key.SetQuery.TheVariants.{HasAll, SharesMember, LiesWithin}
use Rattle.member_sets.specs.Members.{member, contains, shares}
use Rattle.member_sets.specs.Joining.{either, member_either}
use Rattle.member_sets.specs.Sets.{covers, matches, may_hold}
use Rattle.member_sets.specs.Below.{within_tells, some_tells}

pub contains_tells : (a b : Members) → IsTrue (contains a b) ↔ ((k : ℕ) → k < 128 → member b k ≡ true → member a k ≡ true)
contains_tells a b = within_tells 128 (member a) (member b)

pub contains_itself : (a : Members) → contains a a ≡ true
contains_itself a = (contains_tells a a).1 (λ k l e. e)

pub contains_through : (a b c : Members) → contains a b ≡ true → contains b c ≡ true → contains a c ≡ true
contains_through a b c h g = (contains_tells a c).1 (λ k l e. (contains_tells a b).0 h k l ((contains_tells b c).0 g k l e))

pub either_first : (a b : Members) → contains (either a b) a ≡ true
either_first a b = (contains_tells (either a b) a).1 (λ k l e. member_either a b k ∙ or_left (member a k) (member b k) e)

pub either_second : (a b : Members) → contains (either a b) b ≡ true
either_second a b = (contains_tells (either a b) b).1 (λ k l e. member_either a b k ∙ or_right (member a k) (member b k) e)

pub either_least : (u a b : Members) → contains u a ≡ true → contains u b ≡ true → contains u (either a b) ≡ true
either_least u a b h g = (contains_tells u (either a b)).1 (λ k l e.
    ⊎_elim ((contains_tells u a).0 h k l) ((contains_tells u b).0 g k l) (or_cases (member a k) (member b k) (sym (member_either a b k) ∙ e)))

shares_by : (a q : Members) (k : ℕ) → k < 128 → member a k ≡ true → member q k ≡ true → shares a q ≡ true
shares_by a q k l e f = (some_tells 128 (λ k. member a k && member q k)).1 (k, l, and_from (member a k) (member q k) e f)

shares_above : (a b q : Members) → contains a b ≡ true → shares b q ≡ true → shares a q ≡ true
shares_above a b q h t =
    let p = (some_tells 128 (λ k. member b k && member q k)).0 t in
    let m = and_parts (member b p.0) (member q p.0) p.2 in
    shares_by a q p.0 p.1 ((contains_tells a b).0 h p.0 p.1 m.0) m.1

shares_within : (b : SetKey) (q : Members) → contains q b.members ≡ true → shares b.members q ≡ true
shares_within b q h =
    let p = (some_tells 128 (member b.members)).0 b.some in
    shares_by b.members q p.0 p.1 p.2 ((contains_tells q b.members).0 h p.0 p.1 p.2)

pub held_above : (a b : SetKey) (q : SetQuery) → covers a b ≡ true → may_hold b q ≡ true → may_hold a q ≡ true
held_above a b (HasAll q) h t = contains_through a.members b.members q h t
held_above a b (SharesMember q) h t = shares_above a.members b.members q h t
held_above a b (LiesWithin q) h t = shares_above a.members b.members q h t

match_held : (b : SetKey) (q : SetQuery) → matches b q ≡ true → may_hold b q ≡ true
match_held b (HasAll q) t = t
match_held b (SharesMember q) t = t
match_held b (LiesWithin q) t = shares_within b q t

pub match_above : (a b : SetKey) (q : SetQuery) → covers a b ≡ true → matches b q ≡ true → may_hold a q ≡ true
match_above a b q h t = held_above a b q h (match_held b q t)

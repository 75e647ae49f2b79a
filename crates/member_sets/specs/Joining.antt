-- A union of sets has the members of both, so it has one where the first has: what it takes to state the union of keys.
use Rattle.std.specs.Prelude.{◌≡◌, ℕ, zero, suc, ◌/◌, ◌%◌, Bool, true, ◌||◌, List, [], ◌∷◌, refl}
use Rattle.std.proofs.Common.{ap, ◌∙◌, ⊎_elim}
use Rattle.std.specs.Int.Bits.{bit_or}
use Rattle.std.proofs.lemmas.Bool.{or_cases, or_left, or_right}
use Rattle.member_sets.specs.declared.members.Members.{Members}
use Rattle.member_sets.specs.Members.{bit, word, member, some_below, has_member}
use Rattle.member_sets.specs.Below.{some_tells}
use Rattle.member_sets.specs.BitLaws.{bit-bit_or}

abbrev pub members_of : ℕ → ℕ → ℕ → ℕ → Members
members_of a b c d = record { w0 = a; w1 = b; w2 = c; w3 = d }

abbrev pub words_of : Members → List ℕ
words_of s = s.w0 ∷ s.w1 ∷ s.w2 ∷ s.w3 ∷ []

abbrev pub either : Members → Members → Members
either a b = members_of (bit_or a.w0 b.w0) (bit_or a.w1 b.w1) (bit_or a.w2 b.w2) (bit_or a.w3 b.w3)

word_either : (a b : Members) (j : ℕ) → word (either a b) j ≡ bit_or (word a j) (word b j)
word_either a b zero = refl
word_either a b (suc zero) = refl
word_either a b (suc (suc zero)) = refl
word_either a b (suc (suc (suc zero))) = refl
word_either a b (suc (suc (suc (suc j)))) = refl

pub member_either : (a b : Members) (k : ℕ) → member (either a b) k ≡ (member a k || member b k)
unfolding member
member_either a b k = ap (λ n. bit n (k % 32)) (word_either a b (k / 32)) ∙ bit-bit_or (word a (k / 32)) (word b (k / 32)) (k % 32)

-- Where h passes what f or g does, it passes some number if f does.
some_or : (n : ℕ) (f g h : ℕ → Bool) → ((k : ℕ) → h k ≡ (f k || g k)) → some_below n f ≡ true → some_below n h ≡ true
unfolding some_below
some_or zero f g h each e = e
some_or (suc n) f g h each e = ⊎_elim (λ x. or_left (h n) (some_below n h) (each n ∙ or_left (f n) (g n) x)) (λ x. or_right (h n) (some_below n h) (some_or n f g h each x)) (or_cases (f n) (some_below n f) e)

pub either_some : (a b : Members) → has_member a ≡ true → has_member (either a b) ≡ true
either_some a b h =
    let m = (some_tells 128 (member a)).0 h in
    (some_tells 128 (member (either a b))).1 (m.0, m.1, member_either a b m.0 ∙ or_left (member a m.0) (member b m.0) m.2)

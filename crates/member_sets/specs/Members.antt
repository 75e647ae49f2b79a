-- What a set means: which of the numbers 0 to 127 are its members.
use Rattle.std.specs.Prelude.{ℕ, zero, suc, ◌+◌, ◌/◌, ◌%◌, Bool, true, false, if◌then◌else◌, not, ◌&&◌, ◌||◌, [], ◌∷◌, ◌==◌, slice_index}
use Rattle.std.specs.Int.{bit_at}
use Rattle.member_sets.specs.declared.members.Members.{Members}

-- Bit i of n; bit 0 is the lowest.
abbrev pub bit : ℕ → ℕ → Bool
bit n i = bit_at n i == 1

-- Word j of the four.
abbrev pub word : Members → ℕ → ℕ
word s j = slice_index (s.w0 ∷ s.w1 ∷ s.w2 ∷ s.w3 ∷ []) j

-- Member k is bit k mod 32 of word k / 32.
unfoldable pub member : Members → ℕ → Bool
member s k = bit (word s (k / 32)) (k % 32)

-- Whether all, or some, of the numbers below n pass a test, and how many do.
unfoldable pub all_below : ℕ → (ℕ → Bool) → Bool
all_below zero f = true
all_below (suc n) f = f n && all_below n f

unfoldable pub some_below : ℕ → (ℕ → Bool) → Bool
some_below zero f = false
some_below (suc n) f = f n || some_below n f

unfoldable pub count_below : ℕ → (ℕ → Bool) → ℕ
count_below zero f = 0
count_below (suc n) f = (if f n then 1 else 0) + count_below n f

abbrev pub has_member : Members → Bool
has_member a = some_below 128 (member a)

-- Every member of b is one of a.
abbrev pub contains : Members → Members → Bool
contains a b = all_below 128 (λ k. not (member b k) || member a k)

abbrev pub shares : Members → Members → Bool
shares a b = some_below 128 (λ k. member a k && member b k)

-- How many of b's members a lacks.
abbrev pub lacking : Members → Members → ℕ
lacking a b = count_below 128 (λ k. member b k && not (member a k))

-- Signed numbers of 32 bits, and what it takes to state rectangles of them.
use Rattle.std.specs.Prelude.{◌≡◌, ℕ, ◌%◌, ◌^◌, ◌<◌, Bool, true, false, cond, ℤ, ◌≤ℤ◌, int_le, int_lt}
use Rattle.std.proofs.Common.{mod-lt, arith, to_z, ap, ◌∙◌, mod-eq_of_lt, of_z}
use Rattle.std.specs.Int.Signed.{mag}
use Rattle.std.proofs.Math.Facts.{sfits_to_z}
use Rattle.std.specs.Int.{int_min, int_max, w32}
use Rattle.std.proofs.lemmas.Int.{ints, clamps, of_z-to_z}

-- The number that a word stands for in two's complement.
abbrev pub signed : ℕ → ℤ
signed n = to_z w32 (n % 2 ^ 32)

pub signed_fits : (n : ℕ) → mag (signed n) < 2 ^ 31
signed_fits n = (sfits_to_z {w = w32} {n = n % 2 ^ 32} (record { fits = mod-lt n (omega arith) })).sfits

pub le_from : {a b : ℤ} → int_le a b ≡ true → a ≤ℤ b
le_from e = grind (arith, ints)

pub min_max : (a b c d : ℤ) → a ≤ℤ b → c ≤ℤ d → int_min a c ≤ℤ int_max b d
min_max a b c d h k = omega (arith, ints, clamps)

fits_cond : (t : Bool) (a b : ℤ) → mag a < 2 ^ 31 → mag b < 2 ^ 31 → mag (cond t a b) < 2 ^ 31
fits_cond true a b h k = h
fits_cond false a b h k = k

pub fits_min : (a b : ℤ) → mag a < 2 ^ 31 → mag b < 2 ^ 31 → mag (int_min a b) < 2 ^ 31
fits_min a b h k = fits_cond (int_lt b a) b a k h

pub fits_max : (a b : ℤ) → mag a < 2 ^ 31 → mag b < 2 ^ 31 → mag (int_max a b) < 2 ^ 31
fits_max a b h k = fits_cond (int_lt b a) a b h k

-- Words and back.
pub back : (z : ℤ) → mag z < 2 ^ 31 → to_z w32 (of_z w32 z) ≡ z
back z h = omega (arith, ints)

pub word_fits : (z : ℤ) → mag z < 2 ^ 31 → of_z w32 z < 2 ^ 32
word_fits z h = omega (arith, ints)

-- A word of 32 bits needs no reduction.
pub signed_is : (n : ℕ) → n < 2 ^ 32 → signed n ≡ to_z w32 n
signed_is n h = ap (to_z w32) (mod-eq_of_lt h)

pub signed_back : (z : ℤ) → mag z < 2 ^ 31 → signed (of_z w32 z) ≡ z
signed_back z h = signed_is (of_z w32 z) (word_fits z h) ∙ back z h

pub word_back : (n : ℕ) → n < 2 ^ 32 → of_z w32 (signed n) ≡ n
word_back n h = ap (of_z w32) (signed_is n h) ∙ of_z-to_z w32 n h

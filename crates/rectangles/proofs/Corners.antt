-- Signed numbers as the code passes and compares them, and areas.
use Rattle.std.proofs.Common.{◌≡◌, ℕ, ◌^◌, ◌<◌, ◌≤◌, ℤ, ◌≤ℤ◌, sym, ap, ◌∙◌, arith, to_z, of_z, int_le, int_cmp, is_le}
use Rattle.std.specs.Int.{int_min, int_max, w32}
use Rattle.std.proofs.lemmas.Nat.{mul-le}
use Rattle.std.proofs.lemmas.Int.{ints, clamps}
use Rattle.rectangles.specs.declared.rectangle.Rectangle.{Rectangle}
use Rattle.rectangles.specs.Rectangles.{area, union, span}
use Rattle.rectangles.specs.Signed.{signed, signed_fits, signed_is, back}

-- A word that was cast, and the number passed.
pub cast_back : (n : ℕ) (z : ℤ) → n < 2 ^ 32 → z ≡ to_z w32 n → to_z w32 (of_z w32 z) ≡ signed n
cast_back n z h e = ap (λ x. to_z w32 (of_z w32 x)) (e ∙ sym (signed_is n h)) ∙ back (signed n) (signed_fits n)

-- The corners of a rectangle, passed.
pub record Passed (a : Rectangle) : Type 0 where
  pub left : to_z w32 (of_z w32 a.left) ≡ a.left
  pub bottom : to_z w32 (of_z w32 a.bottom) ≡ a.bottom
  pub right : to_z w32 (of_z w32 a.right) ≡ a.right
  pub top : to_z w32 (of_z w32 a.top) ≡ a.top

pub passed : (a : Rectangle) → Passed a
passed a = record { left = back a.left a.west; bottom = back a.bottom a.south; right = back a.right a.east; top = back a.top a.north }

pub le_is : (x y : ℤ) → is_le (int_cmp x y) ≡ int_le x y
le_is x y = grind (arith, ints)

span_le : (a b c d : ℤ) → a ≤ℤ b → span a b ≤ span (int_min a c) (int_max b d)
span_le a b c d h = omega (arith, ints, clamps)

pub area_le : (a b : Rectangle) → area a ≤ area (union a b)
area_le a b = mul-le _ _ _ _ (span_le a.left a.right b.left b.right a.across) (span_le a.bottom a.top b.bottom b.top a.upward)

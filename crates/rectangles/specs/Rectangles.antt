-- The class of rectangles.
use Rattle.std.specs.Prelude.{◌≡◌, ℕ, ◌-◌, ◌*◌, ◌^◌, Bool, true, false, if◌then◌else◌, ◌&&◌, List, [], ◌∷◌, ℤ, ◌-ℤ◌, None, Ok, Err, Option, Result, int_le, nat_lt, unsigned_abs, refl}
use Rattle.std.proofs.Common.{of_z}
use Rattle.std.specs.Int.{int_min, int_max, w32}
use Rattle.std.specs.Result.{result_ok}
use Rattle.key_class.specs.Class.{Growing, Class}
use Rattle.key_class.specs.Quadratic.{quadratic}
use Rattle.key_class.specs.Refusals.{if_unused}
use Rattle.key_class.specs.Words.{four}
use Rattle.key_class.specs.declared.refusal.KeyRefusal.{KeyRefusal}
use Rattle.key_class.specs.declared.refusal.KeyRefusal.TheVariants.{LowAboveHigh}
use Rattle.rectangles.specs.declared.rectangle.Rectangle.{Rectangle}
use Rattle.rectangles.specs.declared.rectangle.RectangleQuery.{RectangleQuery}
use Rattle.rectangles.specs.declared.rectangle.RectangleQuery.TheVariants.{Meets, Inside, HoldsPoint}
use Rattle.rectangles.specs.Signed.{signed, signed_fits, le_from, min_max, fits_min, fits_max}

-- Along one axis: whether the first stretch contains the second, and whether the two share a point.
abbrev pub contains : (low high low' high' : ℤ) → Bool
contains low high low' high' = int_le low low' && int_le high' high

abbrev pub overlaps : (low high low' high' : ℤ) → Bool
overlaps low high low' high' = int_le low high' && int_le low' high

abbrev pub covers : Rectangle → Rectangle → Bool
covers a b = contains a.left a.right b.left b.right && contains a.bottom a.top b.bottom b.top

abbrev pub meets : Rectangle → Rectangle → Bool
meets a b = overlaps a.left a.right b.left b.right && overlaps a.bottom a.top b.bottom b.top

abbrev pub holds_point : Rectangle → ℤ → ℤ → Bool
holds_point a x y = contains a.left a.right x x && contains a.bottom a.top y y

abbrev pub union : Rectangle → Rectangle → Rectangle
union a b = record {
  left = int_min a.left b.left;
  bottom = int_min a.bottom b.bottom;
  right = int_max a.right b.right;
  top = int_max a.top b.top;
  across = min_max a.left a.right b.left b.right a.across b.across;
  upward = min_max a.bottom a.top b.bottom b.top a.upward b.upward;
  west = fits_min a.left b.left a.west b.west;
  south = fits_min a.bottom b.bottom a.south b.south;
  east = fits_max a.right b.right a.east b.east;
  north = fits_max a.top b.top a.north b.north;
}

abbrev pub span : ℤ → ℤ → ℕ
span low high = unsigned_abs (high -ℤ low)

abbrev pub area : Rectangle → ℕ
area a = span a.left a.right * span a.bottom a.top

abbrev pub growth : Rectangle → Rectangle → ℕ
growth a b = area (union a b) - area a

abbrev pub squeeze : Rectangle → List ℕ
squeeze a = of_z w32 a.left ∷ of_z w32 a.bottom ∷ of_z w32 a.right ∷ of_z w32 a.top ∷ []

-- Words for left, bottom, right and top: 21 where left is above right (word 0), or else bottom above top (word 1).
abbrev pub rectangle_if : (l b r t : ℕ) (x y : Bool) → int_le (signed l) (signed r) ≡ x → int_le (signed b) (signed t) ≡ y → Result Rectangle KeyRefusal
rectangle_if l b r t true true e f = Ok (record {
  left = signed l;
  bottom = signed b;
  right = signed r;
  top = signed t;
  across = le_from e;
  upward = le_from f;
  west = signed_fits l;
  south = signed_fits b;
  east = signed_fits r;
  north = signed_fits t;
})
rectangle_if l b r t true false e f = Err (LowAboveHigh 1)
rectangle_if l b r t false y e f = Err (LowAboveHigh 0)

abbrev pub read_rectangle : ℕ → ℕ → ℕ → ℕ → Result Rectangle KeyRefusal
read_rectangle l b r t = rectangle_if l b r t (int_le (signed l) (signed r)) (int_le (signed b) (signed t)) refl refl

-- A point across and up, and two unused words.
abbrev pub read_point : ℕ → ℕ → ℕ → ℕ → Result RectangleQuery KeyRefusal
read_point x y c d = if_unused c d (Ok (HoldsPoint (signed x) (signed y)))

-- A key stands in words of 32 bits only.
abbrev pub words_fit : ℕ → ℕ → ℕ → ℕ → Bool
words_fit a b c d = (nat_lt a (2 ^ 32) && nat_lt b (2 ^ 32)) && (nat_lt c (2 ^ 32) && nat_lt d (2 ^ 32))

abbrev pub key_of : ℕ → ℕ → ℕ → ℕ → Option Rectangle
key_of a b c d = if words_fit a b c d then result_ok (read_rectangle a b c d) else None

abbrev pub unsqueeze : List ℕ → Option Rectangle
unsqueeze = four key_of

abbrev pub matches : Rectangle → RectangleQuery → Bool
matches a (Meets q) = meets a q
matches a (Inside q) = covers q a
matches a (HoldsPoint x y) = holds_point a x y

-- A page that meets the question may lead to a rectangle inside it.
abbrev pub may_hold : Rectangle → RectangleQuery → Bool
may_hold a (Meets q) = meets a q
may_hold a (Inside q) = meets a q
may_hold a (HoldsPoint x y) = holds_point a x y

abbrev pub rectangle_growing : Growing Rectangle
rectangle_growing = record { union = union; growth = growth; squeeze = squeeze; unsqueeze = unsqueeze }

abbrev pub rectangle_class : Class Rectangle RectangleQuery
rectangle_class = record { growing = rectangle_growing; covers = covers; matches = matches; may_hold = may_hold; split = quadratic rectangle_growing }

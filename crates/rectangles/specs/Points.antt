-- What rectangles mean: the points that they hold.
use Rattle.std.specs.Prelude.{ℤ, ◌≤ℤ◌}
use Rattle.rectangles.specs.declared.rectangle.Rectangle.{Rectangle}
use Rattle.rectangles.specs.declared.rectangle.RectangleQuery.{RectangleQuery}
use Rattle.rectangles.specs.declared.rectangle.RectangleQuery.TheVariants.{Meets, Inside, HoldsPoint}

-- The edges are in it.
abbrev pub Holds : Rectangle → ℤ → ℤ → Type 0
Holds a x y = (a.left ≤ℤ x) × (x ≤ℤ a.right) × (a.bottom ≤ℤ y) × (y ≤ℤ a.top)

abbrev pub Contains : Rectangle → Rectangle → Type 0
Contains a b = (x y : ℤ) → Holds b x y → Holds a x y

abbrev pub Touch : Rectangle → Rectangle → Type 0
Touch a b = (x : ℤ) × (y : ℤ) × Holds a x y × Holds b x y

abbrev pub Fulfils : Rectangle → RectangleQuery → Type 0
Fulfils a (Meets q) = Touch a q
Fulfils a (Inside q) = Contains q a
Fulfils a (HoldsPoint x y) = Holds a x y

-- The union is least, and what the tests of the class say of the points.
use Rattle.std.proofs.Common.{◌≡◌, ◌↔◌, Bool, true, IsTrue, ap, sym, subst, ◌∙◌, arith}
use Rattle.std.specs.Int.{int_max}
use Rattle.std.proofs.lemmas.Int.{ints, clamps}
use Rattle.rectangles.specs.declared.rectangle.Rectangle.{Rectangle}
use Rattle.rectangles.specs.declared.rectangle.RectangleQuery.{RectangleQuery}
use Rattle.rectangles.specs.declared.rectangle.RectangleQuery.TheVariants.{Meets, Inside, HoldsPoint}
use Rattle.rectangles.specs.Rectangles.{covers, meets, union, matches}
use Rattle.rectangles.specs.Points.{Contains, Touch, Fulfils}
use Rattle.rectangles.specs.Laws.{inner, covered, close, meeting, holding, held}

pub union_least : (a b u : Rectangle) → covers u a ≡ true → covers u b ≡ true → covers u (union a b) ≡ true
union_least a b u h k =
    let p = inner u a h in
    let q = inner u b k in
    covered u (union a b) (omega (arith, ints, clamps), omega (arith, ints, clamps), omega (arith, ints, clamps), omega (arith, ints, clamps))

-- The lower left and the upper right corner are points of a rectangle.
pub covers_points : (a b : Rectangle) → IsTrue (covers a b) ↔ Contains a b
covers_points a b = (
  (λ h x y k. let p = inner a b h in (omega (arith, ints), omega (arith, ints), omega (arith, ints), omega (arith, ints))),
  (λ f.
      let o = b.across in
      let u = b.upward in
      let p = f b.left b.bottom (omega (arith, ints), omega (arith, ints), omega (arith, ints), omega (arith, ints)) in
      let q = f b.right b.top (omega (arith, ints), omega (arith, ints), omega (arith, ints), omega (arith, ints)) in
      covered a b (p.0, q.1, p.2, q.3)),
)

-- The lower left corner of what is common to both is a point of both.
pub meets_points : (a b : Rectangle) → IsTrue (meets a b) ↔ Touch a b
meets_points a b = (
  (λ h.
      let p = close a b h in
      let o = a.across in
      let u = a.upward in
      let o' = b.across in
      let u' = b.upward in (
        int_max a.left b.left,
        int_max a.bottom b.bottom,
        (omega (arith, ints, clamps), omega (arith, ints, clamps), omega (arith, ints, clamps), omega (arith, ints, clamps)),
        (omega (arith, ints, clamps), omega (arith, ints, clamps), omega (arith, ints, clamps), omega (arith, ints, clamps)),
      )),
  (λ t. let p = t.2 in let q = t.3 in meeting a b (omega (arith, ints), omega (arith, ints), omega (arith, ints), omega (arith, ints))),
)

matches_points : (a : Rectangle) (q : RectangleQuery) → IsTrue (matches a q) ↔ Fulfils a q
matches_points a (Meets q) = meets_points a q
matches_points a (Inside q) = covers_points q a
matches_points a (HoldsPoint x y) = (holding a x y, held a x y)

pub matched : (a : Rectangle) (q p : RectangleQuery) (r : Bool) → q ≡ p → r ≡ matches a p → record { value : r ≡ matches a q; points : IsTrue r ↔ Fulfils a q }
matched a q p r e h =
    let v : r ≡ matches a q = h ∙ ap (matches a) (sym e) in
    record { value = v; points = subst (λ t. IsTrue t ↔ Fulfils a q) (sym v) (matches_points a q) }

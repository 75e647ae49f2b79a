use Rattle.std.proofs.Common.{◌≡◌, true, sym, subst, arith}
use Rattle.std.proofs.lemmas.Int.{ints, clamps}
use Rattle.rectangles.specs.Rectangles.{covers, union}
use Rattle.rectangles.specs.Laws.{same_rectangle}
use Rattle.rectangles.proofs.Points.{union_least}
use Rattle.rectangles.proofs.class.RectangleKey.union.Goals as goal

pub invariant_of-result : goal.invariant_of-result
invariant_of-result c = record {
  across = omega (arith, ints, clamps);
  upward = omega (arith, ints, clamps);
  west = omega (arith, ints, clamps);
  south = omega (arith, ints, clamps);
  east = omega (arith, ints, clamps);
  north = omega (arith, ints, clamps);
}

pub returns : goal.returns
returns c =
    let a = c.args.self.now in
    let b = c.args.other.now in
    let e = same_rectangle _ (union a b) (omega (arith, ints, clamps)) (omega (arith, ints, clamps)) (omega (arith, ints, clamps)) (omega (arith, ints, clamps)) in
    record { value = e; least = λ u h k. subst (λ r. covers u r ≡ true) (sym e) (union_least a b u h k) }

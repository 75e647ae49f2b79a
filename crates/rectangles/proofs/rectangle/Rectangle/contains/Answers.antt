use Rattle.std.proofs.Common.{arith}
use Rattle.rectangles.proofs.Corners.{le_is, passed}
use Rattle.rectangles.proofs.rectangle.Rectangle.contains.Goals as goal

pub returns-then-contains : goal.returns-then-contains
returns-then-contains c =
    let a = passed c.args.self.now in
    let b = passed c.args.other.now in
    simp (c.contains-then-contains.ensures, a.left, a.bottom, a.right, a.top, b.left, b.bottom, b.right, b.top) (grind (arith, le_is))

use Rattle.std.proofs.Common.{◌≡◌, ap, ◌∙◌, arith}
use Rattle.rectangles.specs.Rectangles.{area, union}
use Rattle.rectangles.proofs.Corners.{area_le}
use Rattle.rectangles.proofs.class.RectangleKey.growth.Goals as goal

grown : (c : goal.After-area-2) → c.area.result ≡ area (union c.args.self.now c.args.other.now)
grown c = c.area.ensures ∙ ap area c.union.ensures.value

pub overflow_sub-result : goal.overflow_sub-result
overflow_sub-result c = let g = grown c in let e = c.area-2.ensures in let h = area_le c.args.self.now c.args.other.now in omega arith

pub returns : goal.returns
returns c = let g = grown c in let e = c.area-2.ensures in omega arith

use Rattle.std.proofs.Common.{get_or, sym}
use Rattle.rectangles.proofs.Corners.{cast_back}
use Rattle.rectangles.specs.Laws.{read_corners}
use Rattle.rectangles.proofs.class.RectangleTryFromArrayU324.try_from.Goals as goal

pub returns : goal.returns
returns c =
    let w = c.args.words in
    sym (read_corners (get_or w 0 0) (get_or w 1 0) (get_or w 2 0) (get_or w 3 0) _
    (sym (cast_back (get_or w 0 0) c.cast_signed-left.result c.element_fits.fits c.cast_signed-left.ensures))
    (sym (cast_back (get_or w 1 0) c.cast_signed-bottom.result c.element_fits2.fits c.cast_signed-bottom.ensures))
    (sym (cast_back (get_or w 2 0) c.cast_signed-right.result c.element_fits3.fits c.cast_signed-right.ensures))
    (sym (cast_back (get_or w 3 0) c.cast_signed-top.result c.element_fits4.fits c.cast_signed-top.ensures)))

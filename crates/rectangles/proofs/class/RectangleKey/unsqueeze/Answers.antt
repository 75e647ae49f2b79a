use Rattle.std.proofs.Common.{get_or, sym, ap, ◌∙◌}
use Rattle.std.proofs.lemmas.Bool.{cond-true}
use Rattle.std.specs.Result.{result_ok}
use Rattle.key_class.proofs.Coding.{four_is}
use Rattle.rectangles.specs.Rectangles.{key_of}
use Rattle.rectangles.specs.Laws.{all_fit}
use Rattle.rectangles.proofs.class.RectangleKey.unsqueeze.Goals as goal

pub returns : goal.returns
returns c =
    let w = c.args.words.now in
    c.ok.ensures.value ∙ ap result_ok c.try_from.ensures
    ∙ sym (four_is key_of w c.told-words
    ∙ cond-true _ _ _ (all_fit (get_or w 0 0) (get_or w 1 0) (get_or w 2 0) (get_or w 3 0) (c.fits-words 0) (c.fits-words 1) (c.fits-words 2) (c.fits-words 3)))

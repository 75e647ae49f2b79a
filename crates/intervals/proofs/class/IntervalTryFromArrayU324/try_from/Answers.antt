use Rattle.std.proofs.Common.{get_or, sym, ◌∙◌}
use native.Mathlib.Decide.{dec_le}
use Rattle.key_class.proofs.Coding.{unused_passed}
use Rattle.intervals.specs.Laws.{in_order}
use Rattle.intervals.proofs.class.IntervalTryFromArrayU324.try_from.Goals as goal

pub returns : goal.returns
returns c =
    let ws = c.args.words in
    unused_passed (get_or ws 2 0) (get_or ws 3 0) _ c.in_ok-check_unused.ensures
    ∙ sym (in_order _ (dec_le (get_or ws 0 0) (get_or ws 1 0)) (get_or ws 2 0) (get_or ws 3 0))

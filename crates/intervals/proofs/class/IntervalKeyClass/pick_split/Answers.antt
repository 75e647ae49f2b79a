use Rattle.std.proofs.Common.{ℕ, take, ap, ◌∙◌, arith}
use Rattle.key_class.proofs.Coding.{read}
use Rattle.intervals.specs.Ranks.{by_rank}
use Rattle.intervals.specs.Laws.{interval_coded}
use Rattle.intervals.proofs.Marking.{lows_squeezed}
use Rattle.intervals.proofs.class.IntervalKeyClass.pick_split.Goals as goal

pub returns-then-words-gt15 : goal.returns-then-words-gt15
returns-then-words-gt15 c = λ ks e lo hi. let n = (read interval_coded ks c.args.words.now e).many in absurd (omega arith)

pub returns : goal.returns
returns c = λ ks e lo hi.
    ap (λ (n : ℕ). take n c.split_by_rank.result) (read interval_coded ks c.args.words.now e).many
    ∙ c.split_by_rank.ensures ∙ ap by_rank (lows_squeezed ks c.args.words.now e)

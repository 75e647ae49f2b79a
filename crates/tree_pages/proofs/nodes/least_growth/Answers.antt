use Rattle.std.proofs.Common.{ℕ, ◌+◌, drop, ap, ◌∙◌, arith}
use Rattle.node.proofs.Places.{count_is}
use Rattle.gist.specs.Insert.{least_from}
use Rattle.tree_pages.proofs.Least.{growths, some_there, none_first, growth_first, less_here, no_less_here, least_all}
use Rattle.tree_pages.proofs.nodes.least_growth.Goals as goal
use Rattle.tree_pages.proofs.nodes.least_growth.Goals.{then-growth-least, else-growth-least}

pub returns-in_err-first : goal.returns-in_err-first
returns-in_err-first g c = λ level es is.
    c.from_residual.ensures ∙ none_first g.K.Key.growing c.args.key.now es (c.in_err-first.ensures level es is)

pub loop-i-init : goal.loop-i-init
loop-i-init g c = λ level es is.
    growth_first g.K.Key.growing c.args.key.now es c.in_ok-first.first c.growth-least.result (c.in_ok-first.ensures level es is) c.growth-least.ensures

pub returns-in_err-other : goal.returns-in_err-other
returns-in_err-other g c = λ level es is.
    let n = count_is g.K.Key.growing level es c.args.node.now.words is in
    absurd (some_there (λ e. e.key) es c.loop-i.i (omega (arith, c.count-i-end.ensures)) (c.in_err-other.ensures level es is))

pub loop-i-preserved : goal.loop-i-preserved
loop-i-preserved g c = λ level es is.
    let G = g.K.Key.growing in
    let k = c.args.key.now in
    let i = c.loop-i.i in
    let left = drop (i + 1) (growths G k es) in
    let s = c.in_ok-other.ensures level es is in
    let old = c.loop-i.invariant level es is in
    elim c.if-growth-least.branch [
      | then-growth-least w ↦
          ap (λ (b : ℕ). least_from b c.if-growth-least.least (i + 1) left) w.best-is ∙ ap (λ (n : ℕ). least_from i n (i + 1) left) w.least-is
          ∙ less_here G k es i c.loop-i.best c.loop-i.least c.in_ok-other.other _ s c.growth-growth.ensures w.if-growth-least.true ∙ old
      | else-growth-least w ↦
          ap (λ (b : ℕ). least_from b c.if-growth-least.least (i + 1) left) w.best-is ∙ ap (λ (n : ℕ). least_from c.loop-i.best n (i + 1) left) w.least-is
          ∙ no_less_here G k es i c.loop-i.best c.loop-i.least c.in_ok-other.other _ s c.growth-growth.ensures w.if-growth-least.false ∙ old
    ]

pub returns : goal.returns
returns g c = λ level es is.
    let n = count_is g.K.Key.growing level es c.args.node.now.words is in
    least_all g.K.Key.growing c.args.key.now es c.in_ok-first.first c.loop-i.i c.loop-i.best c.loop-i.least
    (c.in_ok-first.ensures level es is) (omega (arith, c.count-i-end.ensures)) (c.loop-i.invariant level es is)

use Rattle.std.proofs.Common.{sym, ◌∙◌, arith}
use Rattle.page_cache.proofs.Steps.{all_clean}
use Rattle.page_cache.proofs.cache.Cache.end.Goals as goal

pub returns : goal.returns
returns g c =
    sym (all_clean (g.S.PageStore.meaning c.loop-number.self.below) c.loop-number.self.table.slots c.loop-number.self.tied
    (λ i l. c.loop-number.invariant.written i (omega (arith, c.loop-number.self.table.four))))
    ∙ c.loop-number.invariant.same

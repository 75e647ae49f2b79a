use Rattle.std.proofs.Common.{refl, ap, ◌∙◌}
use Rattle.page_cache.proofs.Steps.{view}
use Rattle.page_cache.proofs.Laying.{lay_none, same_over}
use Rattle.page_cache.proofs.cache.Cache.new.Goals as goal

pub returns-clause-pages : goal.returns-clause-pages
returns-clause-pages g c = ap (λ t. view (g.S.PageStore.meaning c.args.below) t.slots) c.new.ensures ∙ same_over _ _ _ refl (λ q. lay_none _)

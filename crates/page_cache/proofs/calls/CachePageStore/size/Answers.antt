use Rattle.std.proofs.Common.{sym, ◌∙◌}
use Rattle.page_cache.specs.Laws.{length_over}
use Rattle.page_cache.proofs.calls.CachePageStore.size.Goals as goal

pub returns : goal.returns
returns g c = c.size.ensures ∙ sym (length_over _ _)

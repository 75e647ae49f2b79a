use Rattle.std.proofs.Common.{sym, ◌∙◌}
use Rattle.page_cache.proofs.Laying.{free_over}
use Rattle.page_cache.proofs.calls.CachePageStore.free_count.Goals as goal

pub returns : goal.returns
returns g c = c.free_count.ensures ∙ sym (free_over _ _)

use Rattle.page_cache.proofs.Answered.{takes_over}
use Rattle.page_cache.proofs.calls.CachePageStore.take.Goals as goal

pub invariant_of-self : goal.invariant_of-self
invariant_of-self g c = record { tied = (takes_over _ _ c.args.self.now.table.slots _ c.take.result c.args.self.now.tied c.take.ensures).0 }

pub returns-clause-takes : goal.returns-clause-takes
returns-clause-takes g c = (takes_over _ _ c.args.self.now.table.slots _ c.take.result c.args.self.now.tied c.take.ensures).1

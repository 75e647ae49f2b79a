use Rattle.std.proofs.Common.{set, None}
use Rattle.std.proofs.lemmas.Result.{err_from_is_err_and}
use Rattle.page_store.proofs.Calling.{give_ok, give_refused}
use Rattle.page_cache.specs.Cached.{cached, places}
use Rattle.page_cache.proofs.Ties.{tied_same}
use Rattle.page_cache.proofs.Steps.{Means, gave}
use Rattle.page_cache.proofs.Answered.{gives_over, gives_refused}
use Rattle.page_cache.proofs.calls.CachePageStore.give_back.Goals as goal
use Rattle.page_cache.proofs.calls.CachePageStore.give_back.Given.{Over}
use Rattle.page_cache.proofs.calls.CachePageStore.give_back.Goals.{After-forget}

given : (g : Over) (c : After-forget g) → Means (g.S.PageStore.meaning c.give_back.new.self) c.forget.new.self.slots (set (cached c.args.self.now) c.args.page None)
given g c = gave _ _ (places c.args.self.now.table) (places c.forget.new.self) _ c.args.self.now.table.apart c.args.self.now.tied (give_ok c.in_ok-give_back.ensures).pages c.forget.ensures

pub invariant_of-self : goal.invariant_of-self
invariant_of-self g c = record { tied = tied_same _ _ _ (give_refused c.in_err-give_back.ensures).pages c.args.self.now.tied }

pub returns-in_err-give_back-clause-gives : goal.returns-in_err-give_back-clause-gives
returns-in_err-give_back-clause-gives g c =
    let p = err_from_is_err_and c.from_residual.result c.from_residual.ensures.1 in
    rw (p.1, p.2) (gives_refused _ _ c.args.self.now.table.slots _ _ c.in_err-give_back.ensures)

pub invariant_of-self-2 : goal.invariant_of-self-2
invariant_of-self-2 g c = record { tied = (given g c).tied }

pub returns-clause-gives : goal.returns-clause-gives
returns-clause-gives g c =
    gives_over _ _ c.args.self.now.table.slots _ (give_ok c.in_ok-give_back.ensures).held (given g (goal.at.returns-clause-gives g c).After-forget).pages

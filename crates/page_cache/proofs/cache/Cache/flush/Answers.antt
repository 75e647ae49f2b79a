use Rattle.std.proofs.Common.{is_ok, Some, set, sym, ap, ◌∙◌, rules}
use Rattle.std.proofs.lemmas.Bool.{both_ways}
use Rattle.page_store.proofs.Calling.{Held, answer_held, changed_held}
use Rattle.page_cache.specs.Cached.{cached}
use Rattle.page_cache.proofs.Steps.{Means, flushed}
use Rattle.page_cache.proofs.cache.Cache.flush.Goals as goal
use Rattle.page_cache.proofs.cache.Cache.flush.Given.{Over}
use Rattle.page_cache.proofs.cache.Cache.flush.Goals.{In-Some, After-mark_clean, Else-is_ok}

held : (g : Over) (c : In-Some g) → Held (g.S.PageStore.meaning c.args.self.now.below) c.in-Some.slot.now.page
held g c = (c.args.self.now.tied _ _ c.in-Some.ensures.some.0).held

written : (g : Over) (c : After-mark_clean g) → Means (g.S.PageStore.meaning c.write.new.self) c.mark_clean.new.self.slots (cached c.args.self.now)
written g c =
    flushed _ _ _ _ c.args.number.index c.in-Some.slot.now c.args.self.now.table.apart c.args.self.now.tied c.in-Some.ensures.some.0
    (c.write.ensures.pages ∙ changed_held _ _ _ (held g (goal.at.invariant_of-self-then-is_ok g c).In-Some)
    ∙ ap (λ w. set (g.S.PageStore.meaning c.args.self.now.below) c.in-Some.slot.now.page (Some w)) (search rules))
    (ap (λ t. t.slots) c.mark_clean.ensures)

refused : (g : Over) (c : Else-is_ok g) → ⊥
refused g c =
    both_ways (is_ok c.write.result) (sym c.is_ok.ensures.value ∙ c.if-is_ok.false)
    (ap is_ok (c.write.ensures.answers ∙ answer_held _ _ (held g (goal.at.invariant_of-self-else-is_ok g c).In-Some)))

pub invariant_of-self-then-is_ok : goal.invariant_of-self-then-is_ok
invariant_of-self-then-is_ok g c = record { tied = (written g c).tied }

pub invariant_of-self-else-is_ok : goal.invariant_of-self-else-is_ok
invariant_of-self-else-is_ok g c = absurd (refused g c)

pub returns-then-is_ok-clause-pages : goal.returns-then-is_ok-clause-pages
returns-then-is_ok-clause-pages g c = (written g (goal.at.returns-then-is_ok-clause-pages g c).After-mark_clean).pages

pub returns-else-is_ok : goal.returns-else-is_ok
returns-else-is_ok g c = absurd (refused g (goal.at.returns-else-is_ok g c).Else-is_ok)

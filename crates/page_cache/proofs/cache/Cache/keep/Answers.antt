use Rattle.std.proofs.Common.{◌≡◌, ℕ, None, Some, Option, set, sym, subst, ap, ◌∙◌, arith}
use Rattle.std.proofs.lemmas.List.{set-set}
use Rattle.page_cache.specs.declared.slot.Slot.{Slot}
use Rattle.page_cache.specs.Slots.{kept_in}
use Rattle.page_cache.specs.Policy.{Places, replaced, turned, next_slot, filled}
use Rattle.page_cache.specs.Over.{Tied}
use Rattle.page_cache.specs.Cached.{cached}
use Rattle.page_cache.proofs.Slots.{unkept, kept_clean}
use Rattle.page_cache.proofs.Steps.{Means, view, placed}
use Rattle.page_cache.proofs.cache.Cache.keep.Goals as goal
use Rattle.page_cache.proofs.cache.Cache.keep.Given.{Over}
use Rattle.page_cache.proofs.cache.Cache.keep.Goals.{After-choose-chosen, After-put}

none : (g : Over) (c : After-choose-chosen g) → kept_in c.choose-chosen.new.self.slots c.args.slot.page ≡ None
none g c = ap (λ t. kept_in t.slots c.args.slot.page) c.choose-chosen.ensures.table ∙ c.requires.unkept

kept : (g : Over) (c : After-put g) → Means (g.S.PageStore.meaning c.flush.new.self.below) c.put.new.self.slots (set (cached c.args.self.now) c.args.slot.page (Some c.args.slot.words))
kept g c =
    placed _ _ c.choose-chosen.new.self.slots _ _ c.choose-chosen.result.index _ (omega (arith, c.choose-chosen.result.within, c.choose-chosen.new.self.four))
    (ap (λ t. t.slots) c.flush.ensures.table) c.flush.new.self.table.apart
    (record {
      tied = c.flush.new.self.tied;
      pages = c.flush.ensures.pages ∙ ap (λ t. view (g.S.PageStore.meaning c.args.self.now.below) t.slots) c.choose-chosen.ensures.table;
    })
    (none g (goal.at.invariant_of-self-2 g c).After-choose-chosen) c.requires.fair (ap (λ t. t.slots) c.put.ensures) c.put.new.self.apart

table : (t u v w : Places) (i : ℕ) (x : Option Slot) (k : Slot) → u ≡ turned t → i ≡ next_slot t → v ≡ replaced u i x → w ≡ replaced v i (Some k) → w ≡ filled t k
table t u v w i x k turn slot first second = let e = set-set t.slots i x (Some k) in cc

pub invariant_of-self : goal.invariant_of-self
invariant_of-self g c = record { tied = subst (λ t. Tied (g.S.PageStore.meaning c.args.self.now.below) t.slots) (sym c.choose-chosen.ensures.table) c.args.self.now.tied }

pub put-requires : goal.put-requires
put-requires g c = λ j _. unkept c.flush.new.self.table.slots c.args.slot.page
    (ap (λ t. kept_in t.slots c.args.slot.page) c.flush.ensures.table ∙ kept_clean c.choose-chosen.new.self.slots _ _ ∙ none g (goal.at.put-requires g c).After-choose-chosen) j

pub invariant_of-self-2 : goal.invariant_of-self-2
invariant_of-self-2 g c = record { tied = (kept g c).tied }

pub returns-clause-pages : goal.returns-clause-pages
returns-clause-pages g c = (kept g (goal.at.returns-clause-pages g c).After-put).pages

pub returns-clause-table : goal.returns-clause-table
returns-clause-table g c = table _ _ _ _ _ _ _ c.choose-chosen.ensures.table c.choose-chosen.ensures.slot c.flush.ensures.table c.put.ensures

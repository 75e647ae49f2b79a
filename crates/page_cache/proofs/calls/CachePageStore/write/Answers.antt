use Rattle.std.proofs.Common.{◌≡◌, true, set, is_some, Some, ◌∙◌, ap, sym, refl, arith}
use Rattle.std.proofs.lemmas.Bool.{true≢false}
use Rattle.std.proofs.lemmas.Result.{err_from_is_err_and}
use Rattle.page_store.specs.Pages.{Pages, at}
use Rattle.page_store.proofs.Calling.{Held, read_ok}
use Rattle.page_cache.specs.Slots.{keeps, slot_at, kept_in}
use Rattle.page_cache.specs.Policy.{slot}
use Rattle.page_cache.specs.Cached.{cached}
use Rattle.page_cache.proofs.Slots.{first_none, first_keeps, no_other_keeps}
use Rattle.page_cache.proofs.Laying.{held_over}
use Rattle.page_cache.proofs.Ties.{tied_same, slot_held}
use Rattle.page_cache.proofs.Steps.{Means, view, rewritten}
use Rattle.page_cache.proofs.Answered.{writes_over, writes_refused}
use Rattle.page_cache.proofs.calls.CachePageStore.write.Goals as goal
use Rattle.page_cache.proofs.calls.CachePageStore.write.Given.{Over}
use Rattle.page_cache.proofs.calls.CachePageStore.write.Goals.{In-Some, After-put, In_ok-read}

kept : (g : Over) (c : In-Some g) → keeps c.args.page (slot_at c.args.self.now.table.slots c.in-Some.number.index) ≡ true
kept g c = first_keeps c.args.self.now.table.slots c.args.page _ (sym c.in-Some.ensures)

written : (g : Over) (c : After-put g) → Means (g.S.PageStore.meaning c.args.self.now.below) c.put.new.self.slots (set (cached c.args.self.now) c.args.page (Some c.args.words.now))
written g c =
    rewritten _ _ _ _ (slot c.args.page true c.args.words.now) c.args.self.now.tied (omega (arith, c.in-Some.number.within, c.args.self.now.table.four))
    (kept g (goal.at.invariant_of-self g c).In-Some) refl (ap (λ t. t.slots) c.put.ensures) c.put.new.self.apart

held : (g : Over) (c : In_ok-read g) → Held (g.S.PageStore.meaning c.args.self.now.below) c.args.page
held g c = ap is_some (read_ok c.in_ok-read.ensures).words

pub put-requires : goal.put-requires
put-requires g c =
    no_other_keeps c.args.self.now.table.slots _ c.args.page c.args.self.now.table.apart (kept g (goal.at.put-requires g c).In-Some)

pub invariant_of-self : goal.invariant_of-self
invariant_of-self g c = record { tied = (written g c).tied }

pub returns-in-Some-clause-writes : goal.returns-in-Some-clause-writes
returns-in-Some-clause-writes g c =
    let here = goal.at.returns-in-Some-clause-writes g c in
    writes_over _ _ c.args.self.now.table.slots _ _ (slot_held _ c.args.self.now.table.slots _ _ c.args.self.now.tied (kept g here.In-Some)) (written g here.After-put).pages

pub invariant_of-self-2 : goal.invariant_of-self-2
invariant_of-self-2 g c = record { tied = tied_same _ _ _ c.read.ensures.pages c.args.self.now.tied }

pub returns-in_err-read-clause-writes : goal.returns-in_err-read-clause-writes
returns-in_err-read-clause-writes g c =
    let p = err_from_is_err_and c.from_residual.result c.from_residual.ensures.1 in
    rw (p.1, p.2) (writes_refused _ _ c.args.self.now.table.slots _ _ _ _ _ c.in_err-read.ensures)

pub keep-requires : goal.keep-requires
keep-requires g c = record {
  unkept = first_none c.args.self.now.table.slots c.args.page (sym c.in_default.ensures);
  fair = record {
    held = held_over _ (kept_in c.args.self.now.table.slots) _ ∙ ap (λ (s : Pages). is_some (at s c.args.page)) c.in_ok-read.ensures.pages ∙ held g (goal.at.keep-requires g c).In_ok-read;
    same = λ e. absurd (true≢false e);
  };
}

pub returns-clause-writes : goal.returns-clause-writes
returns-clause-writes g c =
    writes_over _ _ c.args.self.now.table.slots _ _ (held g (goal.at.returns-clause-writes g c).In_ok-read)
    (c.keep.ensures.pages ∙ ap (λ (s : Pages). set (view s c.args.self.now.table.slots) c.args.page (Some c.args.words.now)) c.in_ok-read.ensures.pages)

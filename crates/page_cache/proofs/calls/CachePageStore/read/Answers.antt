use Rattle.std.proofs.Common.{◌≡◌, set, is_some, None, Some, Ok, ◌∙◌, ap, sym}
use Rattle.std.proofs.lemmas.List.{set-get_or}
use Rattle.std.proofs.lemmas.Result.{err_from_is_err_and}
use Rattle.page_store.specs.Pages.{Pages, at}
use Rattle.page_store.specs.Calls.{Reads}
use Rattle.page_store.proofs.Calling.{read_ok}
use Rattle.page_cache.proofs.Ties.{tied_same}
use Rattle.page_cache.proofs.Steps.{view}
use Rattle.page_cache.proofs.Answered.{reads_over, reads_kept}
use Rattle.page_cache.proofs.calls.CachePageStore.read.Goals as goal
use Rattle.page_cache.proofs.calls.CachePageStore.read.Given.{Over}
use Rattle.page_cache.proofs.calls.CachePageStore.read.Goals.{In_ok-read}

below : (g : Over) (c : In_ok-read g) → Reads (view (g.S.PageStore.meaning c.args.self.now.below) c.args.self.now.table.slots)
    (view (g.S.PageStore.meaning c.read.new.self) c.args.self.now.table.slots) c.args.page c.args.words.now c.read.new.words (Ok tt)
below g c = reads_over _ _ c.args.self.now.table.slots _ _ _ _ (sym c.in_default.ensures) c.in_ok-read.ensures

here : (g : Over) (c : In_ok-read g) → at (view (g.S.PageStore.meaning c.read.new.self) c.args.self.now.table.slots) c.args.page ≡ Some c.read.new.words
here g c = ap (λ (u : Pages). at u c.args.page) (below g c).pages ∙ (read_ok (below g c)).words

pub returns-in-Some-clause-reads : goal.returns-in-Some-clause-reads
returns-in-Some-clause-reads g c = reads_kept _ _ _ _ _ c.args.self.now.tied c.in-Some.ensures

pub invariant_of-self : goal.invariant_of-self
invariant_of-self g c = record { tied = tied_same _ _ _ c.read.ensures.pages c.args.self.now.tied }

pub returns-in_err-read-clause-reads : goal.returns-in_err-read-clause-reads
returns-in_err-read-clause-reads g c =
    let p = err_from_is_err_and c.from_residual.result c.from_residual.ensures.1 in
    rw (p.1, p.2) (reads_over _ _ c.args.self.now.table.slots _ _ _ _ (sym c.in_default.ensures) c.in_err-read.ensures)

pub keep-requires-clause-fair : goal.keep-requires-clause-fair
keep-requires-clause-fair g c =
    let h = here g (goal.at.keep-requires-clause-fair g c).In_ok-read in
    record { held = ap is_some h; same = λ _. h }

pub returns-clause-reads : goal.returns-clause-reads
returns-clause-reads g c =
    let k = (goal.at.returns-clause-reads g c).In_ok-read in
    let o = below g k in
    let t : Pages = view (g.S.PageStore.meaning c.read.new.self) c.args.self.now.table.slots in
    record {
      answers = o.answers;
      pages = c.keep.ensures.pages ∙ ap (set t c.args.page) (sym (here g k)) ∙ set-get_or t c.args.page None ∙ o.pages;
      buffer = o.buffer;
    }

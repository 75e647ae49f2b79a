-- What each call answers, and what it leaves of the pages and of the words past them.
use Rattle.std.proofs.Common.{◌≡◌, ℕ, ◌*◌, ◌<◌, drop, Err, vec_items, Option, unwrap_or, sym, ap, ◌∙◌}
use Rattle.page_store.specs.Pages.{Pages, Words, at}
use Rattle.page_store.specs.Refusals.{answer}
use Rattle.page_store.specs.Calls.{changed}
use Rattle.page_store.specs.declared.refusal.StoreRefusal.{StoreRefusal}
use Rattle.page_store.proofs.Calling.{held_by_ok, free_by_err, changed_held, changed_free}
use Rattle.page_store.proofs.Counting.{none_from, free_most}
use Rattle.array_store.specs.Layout.{pages_of}
use Rattle.array_store.specs.Groups.{EditsPage}
use Rattle.array_store.specs.declared.groups.Groups.{Groups}
use Rattle.array_store.specs.Array.{pages_in, words_past}
use Rattle.array_store.specs.declared.store.ArrayStore.{ArrayStore}
use Rattle.array_store.specs.Laws.{length_pages, at_pages}
use Rattle.array_store.proofs.Laid.{cleared_pages}
use Rattle.array_store.proofs.Edited.{edited_pages, edited_past}
use Rattle.array_store.proofs.Kept.{Allows, allowed_within, allowed_held}

-- `check` answered an error: the page that the call names stays as it is.
pub unread : (s : Pages) (p : ℕ) (e : StoreRefusal) (w : Words) → Err e ≡ answer s p → w ≡ unwrap_or (at s p) w
unread s p e w a = sym (ap (λ (x : Option Words). unwrap_or x w) (none_from (at s p) (free_by_err s p e a)))

pub unchanged : (s : Pages) (p : ℕ) (e : StoreRefusal) (x : Option Words) → Err e ≡ answer s p → s ≡ changed s p x
unchanged s p e x a = sym (changed_free s p x (free_by_err s p e a))

-- `check` allowed the page.
pub pages_changed : (s : ArrayStore) {g : Groups} {p : ℕ} {x : Option Words} → Allows s p → EditsPage s.groups g p x
    → pages_of (vec_items g.words) g.size ≡ changed (pages_in s) p x
pages_changed s {g} {p} {x} a e =
    rw e.size (edited_pages e.words s.groups.size (allowed_within s p a) ∙ sym (changed_held (pages_in s) p x (held_by_ok (pages_in s) p a)))

pub past_kept : (s : ArrayStore) {g : Groups} {p : ℕ} {x : Option Words} → EditsPage s.groups g p x → p < s.groups.size
    → drop (65 * g.size) (vec_items g.words) ≡ words_past s
past_kept s e l = rw e.size (edited_past e.words s.groups.size l)

-- What the calls need of these lemmas and of others.
pub ruleset calls = (length_pages, at_pages, free_most, allowed_within, allowed_held, unread, unchanged, pages_changed, cleared_pages, edited_pages)

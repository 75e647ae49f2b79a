-- What holds of a call below, said of the pages that the cache means.
use Rattle.std.specs.Prelude.{◌≡◌, ℕ, ◌<◌, is_some, Some, None, Ok, Err, Option, Result, slice_set, refl}
use Rattle.std.proofs.Common.{sym, ap, subst, ◌∙◌}
use Rattle.std.specs.Option.{unwrap_or}
use Rattle.page_store.specs.Pages.{Pages, Words}
use Rattle.page_store.specs.Refusals.{answer}
use Rattle.page_store.specs.Calls.{changed, Takes, Reads, Writes, GivesBack}
use Rattle.page_store.specs.declared.refusal.StoreRefusal.{StoreRefusal}
use Rattle.page_store.proofs.Calling.{Held, Refused, answer_same, answer_held, changed_held, changed_free, read_refused, give_refused}
use Rattle.page_cache.specs.Slots.{Slots, kept_in}
use Rattle.page_cache.specs.Over.{Tied}
use Rattle.page_cache.specs.Laws.{length_over}
use Rattle.page_cache.proofs.Laying.{free_over, held_over, over_none, over_kept, over_unkept}
use Rattle.page_cache.proofs.Ties.{tied_same, tied_unkept, unheld, kept_held}
use Rattle.page_cache.proofs.Steps.{view}

answer_over : (s : Pages) (ks : Slots) (p : ℕ) → answer (view s ks) p ≡ answer s p
answer_over s ks p = answer_same s (view s ks) p (length_over s (kept_in ks)) (held_over s (kept_in ks) p)

pub ok_over : (s : Pages) (ks : Slots) (p : ℕ) → Held s p → Ok tt ≡ answer (view s ks) p
ok_over s ks p h = sym (answer_over s ks p ∙ answer_held s p h)

pub changed_over : (s u : Pages) (ks : Slots) (p : ℕ) (x : Option Words) → Held s p → u ≡ slice_set (view s ks) p x → u ≡ changed (view s ks) p x
changed_over s u ks p x h e = e ∙ sym (changed_held (view s ks) p x (held_over s (kept_in ks) p ∙ h))

unchanged_over : (s t : Pages) (ks : Slots) (p : ℕ) (x : Option Words) → Refused s t p → view t ks ≡ changed (view s ks) p x
unchanged_over s t ks p x h =
    ap (λ (u : Pages). view u ks) h.pages ∙ sym (changed_free (view s ks) p x (held_over s (kept_in ks) p ∙ h.free))

pub takes_over : (s t : Pages) (ks : Slots) (w : Words) (r : Result ℕ StoreRefusal) → Tied s ks → Takes s t w r → Tied t ks × Takes (view s ks) (view t ks) w r
takes_over s t ks w (Ok p) tied h =
    let none = unheld s ks p tied (ap is_some h.was_free) in (
      tied_same _ t ks h.pages (tied_unkept s ks p (Some w) tied none),
      record {
        within = subst (λ (n : ℕ). p < n) (sym (length_over s (kept_in ks))) h.within;
        was_free = over_none s (kept_in ks) p none ∙ h.was_free;
        pages = ap (λ (u : Pages). view u ks) h.pages ∙ over_unkept s (kept_in ks) p (Some w) none;
      },
    )
takes_over s t ks w (Err e) tied h = (tied_same s t ks h.2 tied, (h.0, free_over s (kept_in ks) ∙ h.1, ap (λ (u : Pages). view u ks) h.2))

-- A page that is not kept, and one that is.
pub reads_over : (s t : Pages) (ks : Slots) (p : ℕ) (w v : Words) (r : Result Unit StoreRefusal) → kept_in ks p ≡ None
    → Reads s t p w v r → Reads (view s ks) (view t ks) p w v r
reads_over s t ks p w v r none h = record {
  answers = h.answers ∙ sym (answer_over s ks p);
  pages = ap (λ (u : Pages). view u ks) h.pages;
  buffer = h.buffer ∙ ap (λ (x : Option Words). unwrap_or x w) (sym (over_none s (kept_in ks) p none));
}

pub reads_kept : (s : Pages) (ks : Slots) (p : ℕ) (w v : Words) → Tied s ks → Some v ≡ kept_in ks p → Reads (view s ks) (view s ks) p w v (Ok tt)
reads_kept s ks p w v tied e =
    let held = kept_held s ks p v tied e in
    record {
      answers = ok_over s ks p held;
      pages = refl;
      buffer = ap (λ (x : Option Words). unwrap_or x w) (sym (over_kept s (kept_in ks) p v held (sym e)));
    }

-- A page that is held, and the refusal of one that is not.
pub writes_over : (s u : Pages) (ks : Slots) (p : ℕ) (w : Words) → Held s p → u ≡ slice_set (view s ks) p (Some w) → Writes (view s ks) u p w (Ok tt)
writes_over s u ks p w held e = record { answers = ok_over s ks p held; pages = changed_over s u ks p (Some w) held e }

pub writes_refused : (s t : Pages) (ks : Slots) (p : ℕ) (v w x : Words) (e : StoreRefusal) → Reads s t p v x (Err e) → Writes (view s ks) (view t ks) p w (Err e)
writes_refused s t ks p v w x e h = record { answers = h.answers ∙ sym (answer_over s ks p); pages = unchanged_over s t ks p (Some w) (read_refused h).0 }

pub gives_over : (s u : Pages) (ks : Slots) (p : ℕ) → Held s p → u ≡ slice_set (view s ks) p None → GivesBack (view s ks) u p (Ok tt)
gives_over s u ks p held e = record { answers = ok_over s ks p held; pages = changed_over s u ks p None held e }

pub gives_refused : (s t : Pages) (ks : Slots) (p : ℕ) (e : StoreRefusal) → GivesBack s t p (Err e) → GivesBack (view s ks) (view t ks) p (Err e)
gives_refused s t ks p e h = record { answers = h.answers ∙ sym (answer_over s ks p); pages = unchanged_over s t ks p None (give_refused h) }

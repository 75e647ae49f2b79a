-- How the kept pages go with those below: s are the pages below, ks the slots.
use Rattle.std.specs.Prelude.{◌≡◌, ℕ, ◌<◌, true, false, ◌⊎◌, length, is_some, Some, None, Option, ◌≢◌, slice_set, refl}
use Rattle.std.proofs.Common.{sym, subst, ⊎_elim, arith}
use Rattle.std.proofs.lemmas.Grind.{common_steps}
use Rattle.std.proofs.lemmas.Bool.{both_ways}
use Rattle.std.proofs.lemmas.Option.{none-some}
use Rattle.page_store.specs.Pages.{Pages, Words, at}
use Rattle.page_store.proofs.Calling.{Held}
use Rattle.page_cache.specs.declared.slot.Slot.{Slot}
use Rattle.page_cache.specs.Slots.{Slots, is_changed, keeps, words_in, slot_at, kept_in}
use Rattle.page_cache.specs.Over.{lay, Fair, Tied}
use Rattle.page_cache.specs.Laws.{kept_cases}
use Rattle.page_cache.proofs.Slots.{unkept}
use Rattle.page_cache.proofs.Laying.{lay_none}

pub tied_same : (s t : Pages) (ks : Slots) → t ≡ s → Tied s ks → Tied t ks
tied_same s t ks e tied = subst (λ (u : Pages). Tied u ks) (sym e) tied

-- Slot i becomes x.
set_slot : (ks : Slots) (i : ℕ) (x : Option Slot) (j : ℕ) (l : Slot) → slot_at (slice_set ks i x) j ≡ Some l → (x ≡ Some l) ⊎ (slot_at ks j ≡ Some l)
set_slot ks i x j l e = grind (arith, common_steps)

pub tied_set : (s : Pages) (ks : Slots) (i : ℕ) (x : Option Slot) → Tied s ks → ((k : Slot) → x ≡ Some k → Fair s k) → Tied s (slice_set ks i x)
tied_set s ks i x tied fair = λ j l e. ⊎_elim (fair l) (tied j l) (set_slot ks i x j l e)

-- A page that is not kept becomes x below.
fair_set : (s : Pages) (p : ℕ) (x : Option Words) (k : Slot) → Fair s k → (k.page ≢ p) → Fair (slice_set s p x) k
fair_set s p x k h ne = grind (arith, common_steps)

pub tied_unkept : (s : Pages) (ks : Slots) (p : ℕ) (x : Option Words) → Tied s ks → kept_in ks p ≡ None → Tied (slice_set s p x) ks
tied_unkept s ks p x tied none = λ i k e. fair_set s p x k (tied i k e) (let f = unkept ks p none i in grind arith)

-- A kept page is held below.
pub slot_held : (s : Pages) (ks : Slots) (i p : ℕ) → Tied s ks → keeps p (slot_at ks i) ≡ true → Held s p
slot_held s ks i p tied h = let f = tied i in grind arith

pub kept_held : (s : Pages) (ks : Slots) (p : ℕ) (w : Words) → Tied s ks → Some w ≡ kept_in ks p → Held s p
kept_held s ks p w tied = kept_cases (λ o. Some w ≡ o → Held s p) ks p (λ _ n. absurd (none-some w (sym n))) (λ i k e h _. subst (Held s) h (tied i k e).held)

pub unheld : (s : Pages) (ks : Slots) (p : ℕ) → Tied s ks → is_some (at s p) ≡ false → kept_in ks p ≡ None
unheld s ks p tied free = kept_cases (λ o. o ≡ None) ks p (λ _. refl) (λ i k e h. absurd (both_ways _ free (subst (Held s) h (tied i k e).held)))

-- An unchanged one has the same words there.
lay_fair : (s : Pages) (k : Slot) (p : ℕ) → Fair s k → k.changed ≡ false → k.page ≡ p → lay (at s p) (Some k.words) ≡ at s p
lay_fair s k p fair clean h = let e = fair.same clean in grind arith

pub lay_slot : (s : Pages) (ks : Slots) (i p : ℕ) → Tied s ks → is_changed (slot_at ks i) ≡ false → keeps p (slot_at ks i) ≡ true → lay (at s p) (words_in (slot_at ks i)) ≡ at s p
lay_slot s ks i p tied clean h = let f = tied i in grind (arith, lay_fair)

pub lay_clean : (s : Pages) (ks : Slots) (p : ℕ) → Tied s ks → ((i : ℕ) → i < length ks → is_changed (slot_at ks i) ≡ false) → lay (at s p) (kept_in ks p) ≡ at s p
lay_clean s ks p tied clean = kept_cases (λ o. lay (at s p) o ≡ at s p) ks p (λ _. lay_none (at s p))
    (λ i k e h. lay_fair s k p (tied i k e) (let c = clean i in grind (arith, common_steps)) h)

-- What each step of a cache does to the pages that it means: s are the pages below, ks the slots.
use Rattle.std.specs.Prelude.{◌≡◌, ℕ, ◌<◌, true, false, length, Some, None, Option, ◌≢◌, slice_set, refl}
use Rattle.std.proofs.Common.{sym, ap, subst, ◌∙◌, ⊎_elim, arith}
use Rattle.std.proofs.lemmas.Grind.{common_steps}
use Rattle.std.proofs.lemmas.List.{get_or-set_same, length-set, set-set}
use Rattle.std.proofs.lemmas.Bool.{both_ways, cases_Bool, cases_eq}
use Rattle.std.proofs.lemmas.Option.{none-some, same_Some}
use Rattle.page_store.specs.Pages.{Pages, Words, at}
use Rattle.page_cache.specs.declared.slot.Slot.{Slot}
use Rattle.page_cache.specs.Slots.{Slots, is_changed, keeps, words_in, slot_at, kept_in, Apart, Whole}
use Rattle.page_cache.specs.Policy.{Places, slot_of, by_slot, replaced, after_give_back, clean, slot}
use Rattle.page_cache.specs.Over.{over, lay, Fair, Tied}
use Rattle.page_cache.specs.Laws.{length_over, at_over, whole_over}
use Rattle.page_cache.proofs.Laying.{lay_none, same_over, over_none, over_kept, over_same, over_but, over_unkept, over_written}
use Rattle.page_cache.proofs.Slots.{slot_keeps, keeps_only, apart_put, kept_hit, first_none, first_keeps, kept_but, kept_other, kept_emptied, kept_clean, cleaned}
use Rattle.page_cache.proofs.Ties.{tied_same, tied_set, tied_unkept, slot_held, lay_slot, lay_clean}

abbrev pub view : Pages → Slots → Pages
view s ks = over s (kept_in ks)

-- The slots are tied to the pages below, and mean the pages v with them.
pub record Means (s : Pages) (ks : Slots) (v : Pages) : Type 0 where
  pub tied : Tied s ks
  pub pages : view s ks ≡ v

-- No slot is changed.
pub all_clean : (s : Pages) (ks : Slots) → Tied s ks → ((i : ℕ) → i < length ks → is_changed (slot_at ks i) ≡ false) → view s ks ≡ s
all_clean s ks tied clean = same_over s s (kept_in ks) refl (λ q. lay_clean s ks q tied clean)

tied_emptied : (s : Pages) (ks : Slots) (i : ℕ) → Tied s ks → Tied s (slice_set ks i None)
tied_emptied s ks i tied = tied_set s ks i None tied (λ k n. absurd (none-some k n))

-- Slot i, which is not changed, is emptied.
dropped : (s : Pages) (ks : Slots) (i : ℕ) → Apart ks → Tied s ks → is_changed (slot_at ks i) ≡ false → view s (slice_set ks i None) ≡ view s ks
dropped s ks i apart tied clean = same_over s (view s ks) (kept_in (slice_set ks i None)) (length_over s (kept_in ks)) (λ q. ⊎_elim
    (λ (h : keeps q (slot_at ks i) ≡ true). ap (lay (at s q)) (kept_emptied ks i q apart h) ∙ lay_none (at s q)
    ∙ sym (at_over s (kept_in ks) q ∙ ap (lay (at s q)) (kept_hit ks i q apart h) ∙ lay_slot s ks i q tied clean h))
    (λ (h : keeps q (slot_at ks i) ≡ false). ap (lay (at s q)) (kept_other ks i q None refl h) ∙ sym (at_over s (kept_in ks) q))
    (cases_Bool (keeps q (slot_at ks i))))

-- Slot i, which keeps page p, is emptied.
emptied : (s : Pages) (ks : Slots) (i p : ℕ) (x : Option Words) → keeps p (slot_at ks i) ≡ true → slice_set (view s (slice_set ks i None)) p x ≡ slice_set (view s ks) p x
emptied s ks i p x h =
    ap (λ (t : Pages). slice_set t p x) (over_but s (kept_in ks) (kept_in (slice_set ks i None)) p (λ q ne. kept_other ks i q None refl (keeps_only (slot_at ks i) p q h ne)))
    ∙ set-set (view s ks) p _ x

-- Slot i is filled.
filled_means : (s : Pages) (ks ls : Slots) (i : ℕ) (k : Slot) → Tied s ks → i < length ks → Fair s k → ls ≡ slice_set ks i (Some k) → Apart ls
    → Means s ls (slice_set (view s (slice_set ks i None)) k.page (Some k.words))
filled_means s ks ls i k tied l fair filled apart =
    let here : slot_at ls i ≡ Some k = ap (λ (x : Slots). slot_at x i) filled ∙ get_or-set_same ks i (Some k) None l in
    let kept : kept_in ls k.page ≡ Some k.words = kept_hit ls i k.page apart (slot_keeps (slot_at ls i) k here) ∙ ap words_in here in
    record {
      tied = subst (Tied s) (sym filled) (tied_set s ks i (Some k) tied (λ x e. subst (Fair s) (same_Some k x e) fair));
      pages = over_but s (kept_in (slice_set ks i None)) (kept_in ls) k.page
          (λ q ne. ap (λ (x : Slots). kept_in x q) filled ∙ kept_but ks i q (Some k) None (keeps_only (Some k) k.page q (slot_keeps (Some k) k refl) ne) refl)
          ∙ ap (slice_set (view s (slice_set ks i None)) k.page) (over_kept s (kept_in ls) k.page k.words fair.held kept);
    }

-- The page in slot i is written below.
flushed_tied : (s : Pages) (ks : Slots) (i : ℕ) (k : Slot) → Apart ks → Tied s ks → slot_at ks i ≡ Some k
    → Tied (slice_set s k.page (Some k.words)) (slice_set ks i (clean (slot_at ks i)))
flushed_tied s ks i k apart tied e =
    let t : Pages = slice_set s k.page (Some k.words) in
    let others : Tied t (slice_set ks i None) =
    tied_unkept s (slice_set ks i None) k.page (Some k.words) (tied_emptied s ks i tied) (kept_emptied ks i k.page apart (slot_keeps (slot_at ks i) k e)) in
    subst (Tied t) (set-set ks i None (clean (slot_at ks i)))
    (tied_set t (slice_set ks i None) i (clean (slot_at ks i)) others
    (λ l n. let held = (tied i k e).held in let same : slot k.page false k.words ≡ l = grind arith in subst (Fair t) same (grind (arith, common_steps))))

pub flushed : (s t : Pages) (ks ls : Slots) (i : ℕ) (k : Slot) → Apart ks → Tied s ks → slot_at ks i ≡ Some k
    → t ≡ slice_set s k.page (Some k.words) → ls ≡ slice_set ks i (clean (slot_at ks i)) → Means t ls (view s ks)
flushed s t ks ls i k apart tied e below marked = record {
  tied = tied_same _ t ls below (subst (Tied (slice_set s k.page (Some k.words))) (sym marked) (flushed_tied s ks i k apart tied e));
  pages = over_same t (kept_in ks) (kept_in ls) (λ q. ap (λ (l : Slots). kept_in l q) marked ∙ kept_clean ks i q)
      ∙ ap (λ (u : Pages). view u ks) below
      ∙ over_written s (kept_in ks) k.page k.words (tied i k e).held (kept_hit ks i k.page apart (slot_keeps (slot_at ks i) k e) ∙ ap words_in e);
}

-- A page that is not kept comes into slot i, once what that kept is written below.
pub placed : (s v : Pages) (ks ms ls : Slots) (i : ℕ) (k : Slot) → i < length ks → ms ≡ slice_set ks i (clean (slot_at ks i)) → Apart ms → Means s ms v
    → kept_in ks k.page ≡ None → Fair v k → ls ≡ slice_set ms i (Some k) → Apart ls → Means s ls (slice_set v k.page (Some k.words))
placed s v ks ms ls i k l marked apart means none fair filled distinct =
    let gone : kept_in ms k.page ≡ None = ap (λ (x : Slots). kept_in x k.page) marked ∙ kept_clean ks i k.page ∙ none in
    let same : at s k.page ≡ at v k.page = sym (over_none s (kept_in ms) k.page gone) ∙ ap (λ (u : Pages). at u k.page) means.pages in
    let unchanged = ap (λ (x : Slots). is_changed (slot_at x i)) marked ∙ cleaned ks i l in
    let within : i < length ms = omega (arith, ap length marked, length-set ks i (clean (slot_at ks i))) in
    let here = filled_means s ms ls i k means.tied within (grind arith) filled distinct in
    record { tied = here.tied; pages = here.pages ∙ ap (λ (u : Pages). slice_set u k.page (Some k.words)) (dropped s ms i apart means.tied unchanged ∙ means.pages) }

-- The page in slot i is written there.
pub rewritten : (s : Pages) (ks ls : Slots) (i : ℕ) (k : Slot) → Tied s ks → i < length ks → keeps k.page (slot_at ks i) ≡ true
    → k.changed ≡ true → ls ≡ slice_set ks i (Some k) → Apart ls → Means s ls (slice_set (view s ks) k.page (Some k.words))
rewritten s ks ls i k tied l own changed filled distinct =
    let here = filled_means s ks ls i k tied l (record { held = slot_held s ks i k.page tied own; same = λ c. absurd (both_ways _ c changed) }) filled distinct in
    record { tied = here.tied; pages = here.pages ∙ emptied s ks i k.page (Some k.words) own }

-- Slot i is filled with a page that no other slot keeps; what it kept before was that page, or is below too.
pub put_in : (s : Pages) (ks : Slots) (i : ℕ) (k : Slot) → Apart ks → i < length ks → Tied s ks → ((j : ℕ) → (j ≢ i) → keeps k.page (slot_at ks j) ≡ false)
    → ((q : ℕ) → (q ≢ k.page) → keeps q (slot_at ks i) ≡ true → is_changed (slot_at ks i) ≡ false) → Fair s k
    → Means s (slice_set ks i (Some k)) (slice_set (view s ks) k.page (Some k.words))
put_in s ks i k apart l tied alone old fair =
    let ls : Slots = slice_set ks i (Some k) in
    let here = filled_means s ks ls i k tied l fair refl (apart_put ks i k apart alone) in
    record { tied = here.tied; pages = here.pages ∙ before (slot_at ks i) refl }
  where
    before : (x : Option Slot) → slot_at ks i ≡ x → slice_set (view s (slice_set ks i None)) k.page (Some k.words) ≡ slice_set (view s ks) k.page (Some k.words)
    before None e = ap (λ (u : Pages). slice_set u k.page (Some k.words)) (dropped s ks i apart tied (ap is_changed e))
    before (Some m) e = ⊎_elim
        (λ (same : m.page ≡ k.page). emptied s ks i k.page (Some k.words) (subst (λ (q : ℕ). keeps q (slot_at ks i) ≡ true) same (slot_keeps (slot_at ks i) m e)))
        (λ (ne : m.page ≢ k.page). ap (λ (u : Pages). slice_set u k.page (Some k.words)) (dropped s ks i apart tied (old m.page ne (slot_keeps (slot_at ks i) m e))))
        (cases_eq m.page k.page)

-- A page that no slot keeps is given back below, and one that slot i keeps.
pub gave_unkept : (s : Pages) (ks : Slots) (p : ℕ) → Tied s ks → kept_in ks p ≡ None → Means (slice_set s p None) ks (slice_set (view s ks) p None)
gave_unkept s ks p tied none = record { tied = tied_unkept s ks p None tied none; pages = over_unkept s (kept_in ks) p None none }

pub gave_kept : (s : Pages) (ks : Slots) (p i : ℕ) → Apart ks → Tied s ks → keeps p (slot_at ks i) ≡ true → Means (slice_set s p None) (slice_set ks i None) (slice_set (view s ks) p None)
gave_kept s ks p i apart tied own =
    let here = gave_unkept s (slice_set ks i None) p (tied_emptied s ks i tied) (kept_emptied ks i p apart own) in
    record { tied = here.tied; pages = here.pages ∙ emptied s ks i p None own }

gave_by : (s : Pages) (b : Places) (p : ℕ) (o : Option ℕ) → slot_of b p ≡ o → Apart b.slots → Tied s b.slots
    → Means (slice_set s p None) (by_slot o (λ i. replaced b i None) b).slots (slice_set (view s b.slots) p None)
gave_by s b p None e apart tied = gave_unkept s b.slots p tied (first_none b.slots p e)
gave_by s b p (Some i) e apart tied = gave_kept s b.slots p i apart tied (first_keeps b.slots p i e)

-- A page is given back below, and the slot that keeps it, if one does, is emptied.
pub gave : (s t : Pages) (b a : Places) (p : ℕ) → Apart b.slots → Tied s b.slots → t ≡ slice_set s p None → a ≡ after_give_back b p
    → Means t a.slots (slice_set (view s b.slots) p None)
gave s t b a p apart tied below after =
    subst (λ u. Means u a.slots (slice_set (view s b.slots) p None)) (sym below)
    (subst (λ x. Means (slice_set s p None) x.slots (slice_set (view s b.slots) p None)) (sym after) (gave_by s b p (slot_of b p) refl apart tied))

-- A page that the cache means has 64 words.
pub view_whole : (s : Pages) (ks : Slots) (p : ℕ) (w : Words) → Whole ks → ((v : Words) → at s p ≡ Some v → length v ≡ 64)
    → at (view s ks) p ≡ Some w → length w ≡ 64
view_whole s ks p w whole below e = whole_over s ks p w whole below e

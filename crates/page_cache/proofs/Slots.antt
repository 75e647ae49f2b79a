-- What a list of slots keeps, and how that goes with a change of one slot.
use Rattle.std.specs.Prelude.{◌≡◌, ℕ, zero, suc, ◌<◌, ◌≤◌, Bool, true, false, List, [], ◌∷◌, length, Some, None, Option, ◌≢◌, slice_set, refl, position}
use Rattle.std.proofs.Common.{sym, ap, subst, ◌∙◌, ⊎_elim, arith, get_or}
use Rattle.std.specs.List.{position_or_len}
use Rattle.std.proofs.lemmas.Grind.{common_steps}
use Rattle.std.proofs.lemmas.List.{get_or_past, get_or-set_same, set-get_or}
use Rattle.std.proofs.lemmas.List.Sums.{fails_before_first}
use Rattle.std.proofs.lemmas.List.Quantifiers.{position-Some}
use Rattle.std.proofs.lemmas.Bool.{both_ways, cases_eq, cases_lt, cond-true, cond-false, false_from_ne_true, false≢true}
use Rattle.std.proofs.lemmas.Option.{none-some}
use Rattle.page_cache.specs.declared.slot.Slot.{Slot}
use Rattle.page_cache.specs.Slots.{Slots, is_changed, keeps, slot_at, words_in, kept_in, Apart, Whole}
use Rattle.page_cache.specs.Policy.{clean}
use Rattle.page_cache.specs.Laws.{kept_cases}

pub slot_keeps : (x : Option Slot) (k : Slot) → x ≡ Some k → keeps k.page x ≡ true
slot_keeps x k e = grind arith

-- A slot that keeps p keeps no other page, and no other slot keeps p.
pub keeps_only : (x : Option Slot) (p q : ℕ) → keeps p x ≡ true → (q ≢ p) → keeps q x ≡ false
keeps_only None p q h ne = refl
keeps_only (Some k) p q h ne = grind arith

pub no_other_keeps : (ks : Slots) (i p : ℕ) → Apart ks → keeps p (slot_at ks i) ≡ true → (j : ℕ) → (j ≢ i) → keeps p (slot_at ks j) ≡ false
no_other_keeps ks i p apart h j ne = false_from_ne_true _ (λ g. ne (apart j i p g h))

-- Nothing is kept of p exactly where no slot keeps it.
pub kept_miss : (ks : Slots) (p : ℕ) → ((i : ℕ) → keeps p (slot_at ks i) ≡ false) → kept_in ks p ≡ None
kept_miss ks p none = kept_cases (λ o. o ≡ None) ks p (λ _. refl) (λ i k e h. let n = none i in grind arith)

pub unkept : (ks : Slots) (p : ℕ) → kept_in ks p ≡ None → (i : ℕ) → keeps p (slot_at ks i) ≡ false
unkept ks p = kept_cases (λ o. o ≡ None → (i : ℕ) → keeps p (slot_at ks i) ≡ false) ks p (λ none _. none) (λ _ k _ _ n. absurd (none-some k.words (sym n)))

-- Of the slot that alone keeps p, the words are kept.
pub kept_alone : (ks : Slots) (i p : ℕ) → keeps p (slot_at ks i) ≡ true → ((j : ℕ) → (j ≢ i) → keeps p (slot_at ks j) ≡ false) → kept_in ks p ≡ words_in (slot_at ks i)
kept_alone [] i p own others = absurd (false≢true own)
kept_alone (x ∷ ks) zero p own others = cond-true (keeps p x) _ _ own
kept_alone (x ∷ ks) (suc i) p own others =
    cond-false (keeps p x) _ _ (others 0 (λ e. omega arith)) ∙ kept_alone ks i p own (λ j ne. others (suc j) (λ e. ne (omega arith)))

pub kept_hit : (ks : Slots) (i p : ℕ) → Apart ks → keeps p (slot_at ks i) ≡ true → kept_in ks p ≡ words_in (slot_at ks i)
kept_hit ks i p apart own = kept_alone ks i p own (no_other_keeps ks i p apart own)

-- What a search for the slot that keeps p tells.
pub none_passes : {X : Type 0} (f : X → Bool) (xs : List X) (d : X) → f d ≡ false → position f xs ≡ None → (i : ℕ) → f (get_or xs i d) ≡ false
none_passes f xs d b e i = ⊎_elim
    (λ (l : i < length xs). fails_before_first f xs i d (let m : length xs ≤ position_or_len f xs = grind arith in omega arith))
    (λ (g : length xs ≤ i). ap f (get_or_past xs i d g) ∙ b)
    (cases_lt i (length xs))

pub first_none : (ks : Slots) (p : ℕ) → position (keeps p) ks ≡ None → kept_in ks p ≡ None
first_none ks p e = kept_miss ks p (none_passes (keeps p) ks None refl e)

pub first_keeps : (ks : Slots) (p i : ℕ) → position (keeps p) ks ≡ Some i → keeps p (slot_at ks i) ≡ true
first_keeps ks p i e = (position-Some (keeps p) ks i None e).1

-- Slot i is replaced, where neither slot keeps q.
pub kept_but : (ks : Slots) (i q : ℕ) (x y : Option Slot) → keeps q x ≡ false → keeps q y ≡ false → kept_in (slice_set ks i x) q ≡ kept_in (slice_set ks i y) q
kept_but [] i q x y h g = refl
kept_but (z ∷ ks) zero q x y h g = cond-false (keeps q x) _ _ h ∙ sym (cond-false (keeps q y) _ _ g)
kept_but (z ∷ ks) (suc i) q x y h g = let e = kept_but ks i q x y h g in cc

pub kept_other : (ks : Slots) (i q : ℕ) (x : Option Slot) → keeps q x ≡ false → keeps q (slot_at ks i) ≡ false → kept_in (slice_set ks i x) q ≡ kept_in ks q
kept_other ks i q x h g = kept_but ks i q x (slot_at ks i) h g ∙ ap (λ (l : Slots). kept_in l q) (set-get_or ks i None)

-- Slot i, which keeps p, is emptied.
pub kept_emptied : (ks : Slots) (i p : ℕ) → Apart ks → keeps p (slot_at ks i) ≡ true → kept_in (slice_set ks i None) p ≡ None
kept_emptied ks i p apart h = kept_miss (slice_set ks i None) p (λ j. grind (arith, common_steps))

-- Slot i becomes x, which keeps no page that it did not keep.
keeps_set : (ks : Slots) (i j p : ℕ) (x : Option Slot) → (keeps p x ≡ true → keeps p (slot_at ks i) ≡ true) → keeps p (slot_at (slice_set ks i x) j) ≡ true → keeps p (slot_at ks j) ≡ true
keeps_set ks i j p x own h = grind (arith, common_steps)

pub apart_set : (ks : Slots) (i : ℕ) (x : Option Slot) → Apart ks → ((p : ℕ) → keeps p x ≡ true → keeps p (slot_at ks i) ≡ true) → Apart (slice_set ks i x)
apart_set ks i x apart own = λ a b p m n. apart a b p (keeps_set ks i a p x (own p) m) (keeps_set ks i b p x (own p) n)

-- Slot i is filled with a page that no other slot keeps.
pub apart_put : (ks : Slots) (i : ℕ) (k : Slot) → Apart ks → ((j : ℕ) → (j ≢ i) → keeps k.page (slot_at ks j) ≡ false) → Apart (slice_set ks i (Some k))
apart_put ks i k apart alone a b p m n = ⊎_elim
    (λ (e : a ≡ i). ⊎_elim (λ (f : b ≡ i). e ∙ sym f) (λ (f : b ≢ i). absurd (only b a p f e n m)) (cases_eq b i))
    (λ (e : a ≢ i). ⊎_elim (λ (f : b ≡ i). absurd (only a b p e f m n)) (λ (f : b ≢ i). apart a b p (other a p e m) (other b p f n)) (cases_eq b i))
    (cases_eq a i)
  where
    other : (j p : ℕ) → j ≢ i → keeps p (slot_at (slice_set ks i (Some k)) j) ≡ true → keeps p (slot_at ks j) ≡ true
    other j p ne h = grind (arith, common_steps)

    here : (j p : ℕ) → j ≡ i → keeps p (slot_at (slice_set ks i (Some k)) j) ≡ true → k.page ≡ p
    here j p e h = grind (arith, common_steps)

    only : (j l p : ℕ) → j ≢ i → l ≡ i → keeps p (slot_at (slice_set ks i (Some k)) j) ≡ true → keeps p (slot_at (slice_set ks i (Some k)) l) ≡ true → ⊥
    only j l p ne e m n = both_ways _ (alone j ne) (subst (λ (q : ℕ). keeps q (slot_at ks j) ≡ true) (sym (here l p e n)) (other j p ne m))

pub whole_set : (ks : Slots) (i : ℕ) (x : Option Slot) → Whole ks → ((k : Slot) → x ≡ Some k → length k.words ≡ 64) → Whole (slice_set ks i x)
whole_set ks i x whole own = λ j k n. let other = whole j k in let here = own k in grind (arith, common_steps)

-- What slot i keeps is marked as written: it keeps the same, and is not changed.
pub kept_clean : (ks : Slots) (i q : ℕ) → kept_in (slice_set ks i (clean (slot_at ks i))) q ≡ kept_in ks q
kept_clean [] i q = refl
kept_clean (None ∷ ks) zero q = refl
kept_clean (Some k ∷ ks) zero q = refl
kept_clean (x ∷ ks) (suc i) q = let e = kept_clean ks i q in cc

pub clean_keeps : (ks : Slots) (i j p : ℕ) → keeps p (slot_at (slice_set ks i (clean (slot_at ks i))) j) ≡ keeps p (slot_at ks j)
clean_keeps [] i j p = refl
clean_keeps (None ∷ ks) zero zero p = refl
clean_keeps (Some k ∷ ks) zero zero p = refl
clean_keeps (x ∷ ks) zero (suc j) p = refl
clean_keeps (x ∷ ks) (suc i) zero p = refl
clean_keeps (x ∷ ks) (suc i) (suc j) p = clean_keeps ks i j p

clean_unchanged : (x : Option Slot) → is_changed (clean x) ≡ false
clean_unchanged None = refl
clean_unchanged (Some k) = refl

pub cleaned : (ks : Slots) (i : ℕ) → i < length ks → is_changed (slot_at (slice_set ks i (clean (slot_at ks i))) i) ≡ false
cleaned ks i l = ap is_changed (get_or-set_same ks i _ None l) ∙ clean_unchanged (slot_at ks i)

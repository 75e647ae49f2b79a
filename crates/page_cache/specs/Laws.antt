-- That pages laid over others are as many, and have 64 words each. The laws of the interface rest on it.
use Rattle.std.specs.Prelude.{◌≡◌, ℕ, zero, suc, ◌≤◌, false, [], ◌∷◌, length, Some, None, Option, ◌==◌, refl}
use Rattle.std.proofs.Common.{sym, ap, subst, ◌∙◌}
use Rattle.std.proofs.lemmas.Bool.{cond_both, eqb-true}
use Rattle.std.proofs.lemmas.Option.{none-some, same_Some}
use Rattle.page_store.specs.Pages.{Pages, Words, at}
use Rattle.page_cache.specs.declared.slot.Slot.{Slot}
use Rattle.page_cache.specs.Slots.{Slots, slot_at, keeps, kept_in, Whole}
use Rattle.page_cache.specs.Over.{lay, over}

pub length_over : (s : Pages) (f : ℕ → Option Words) → length (over s f) ≡ length s
unfolding over
length_over [] f = refl
length_over (x ∷ s) f = ap suc (length_over s (λ p. f (suc p)))

pub few_over : (s : Pages) (f : ℕ → Option Words) → length s ≤ 4096 → length (over s f) ≤ 4096
few_over s f few = subst (λ (n : ℕ). n ≤ 4096) (sym (length_over s f)) few

pub at_over : (s : Pages) (f : ℕ → Option Words) (p : ℕ) → at (over s f) p ≡ lay (at s p) (f p)
unfolding over
at_over [] f p = refl
at_over (x ∷ s) f zero = refl
at_over (x ∷ s) f (suc p) = at_over s (λ q. f (suc q)) p

lay_whole : (x y : Option Words) (w : Words) → (x ≡ Some w → length w ≡ 64) → (y ≡ Some w → length w ≡ 64) → lay x y ≡ Some w → length w ≡ 64
lay_whole None y w below kept e = below e
lay_whole (Some v) None w below kept e = below e
lay_whole (Some v) (Some u) w below kept e = kept e

keeps_none : (x : Option Slot) (ks : Slots) (p : ℕ) → keeps p x ≡ false → ((i : ℕ) → keeps p (slot_at ks i) ≡ false) → (i : ℕ) → keeps p (slot_at (x ∷ ks) i) ≡ false
keeps_none x ks p h others zero = h
keeps_none x ks p h others (suc i) = others i

-- What is kept of page p: nothing, where no slot keeps it, and else the words of one that does.
pub kept_cases : (P : Option Words → Type 0) (ks : Slots) (p : ℕ) → (((i : ℕ) → keeps p (slot_at ks i) ≡ false) → P None)
    → ((i : ℕ) (k : Slot) → slot_at ks i ≡ Some k → k.page ≡ p → P (Some k.words)) → P (kept_in ks p)
kept_cases P [] p none some = none (λ i. refl)
kept_cases P (None ∷ ks) p none some = kept_cases P ks p (λ h. none (keeps_none None ks p refl h)) (λ i. some (suc i))
kept_cases P (Some k ∷ ks) p none some =
    cond_both (k.page == p) (Some k.words) (kept_in ks p) P
    (λ h. some 0 k refl (eqb-true k.page p h))
    (λ h. kept_cases P ks p (λ others. none (keeps_none (Some k) ks p h others)) (λ i. some (suc i)))

kept_whole : (ks : Slots) (p : ℕ) (w : Words) → Whole ks → kept_in ks p ≡ Some w → length w ≡ 64
kept_whole ks p w whole =
    kept_cases (λ o. o ≡ Some w → length w ≡ 64) ks p (λ _ n. absurd (none-some w n)) (λ i k h _ n. subst (λ (v : Words). length v ≡ 64) (same_Some k.words w n) (whole i k h))

-- A page that a cache means has 64 words, where each below has.
pub whole_over : (s : Pages) (ks : Slots) (p : ℕ) (w : Words) → Whole ks
    → ((v : Words) → at s p ≡ Some v → length v ≡ 64) → at (over s (kept_in ks)) p ≡ Some w → length w ≡ 64
whole_over s ks p w whole below e =
    lay_whole (at s p) (kept_in ks p) w (below w)
    (kept_whole ks p w whole)
    (sym (at_over s (kept_in ks) p) ∙ e)

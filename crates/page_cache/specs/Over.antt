-- Pages with others laid over them.
use Rattle.std.specs.Prelude.{◌≡◌, ℕ, suc, true, false, [], ◌∷◌, is_some, Some, None, Option}
use Rattle.page_store.specs.Pages.{Pages, Words, at}
use Rattle.page_cache.specs.declared.slot.Slot.{Slot}
use Rattle.page_cache.specs.Slots.{Slots, slot_at}

-- Kept words hide those of a held page.
abbrev pub lay : Option Words → Option Words → Option Words
lay None k = None
lay (Some w) None = Some w
lay (Some w) (Some v) = Some v

unfoldable pub over : Pages → (ℕ → Option Words) → Pages
over [] f = []
over (x ∷ s) f = lay x (f 0) ∷ over s (λ p. f (suc p))

-- A kept page is held below, where it has the same words unless it is changed.
pub record Fair (s : Pages) (k : Slot) : Type 0 where
  pub held : is_some (at s k.page) ≡ true
  pub same : k.changed ≡ false → at s k.page ≡ Some k.words

abbrev pub Tied : Pages → Slots → Type 0
Tied s ks = (i : ℕ) (k : Slot) → slot_at ks i ≡ Some k → Fair s k

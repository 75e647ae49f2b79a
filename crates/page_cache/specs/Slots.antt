-- What the slots of a cache's table keep; None is an empty slot.
use Rattle.std.specs.Prelude.{◌≡◌, ℕ, Bool, true, false, cond, List, [], ◌∷◌, length, Some, None, Option, ◌==◌, slice_index_or}
use Rattle.std.specs.Option.{option_map}
use Rattle.page_store.specs.Pages.{Words}
use Rattle.page_cache.specs.declared.slot.Slot.{Slot}

abbrev pub Slots : Type 0
Slots = List (Option Slot)

abbrev pub slot_at : Slots → ℕ → Option Slot
slot_at ks i = slice_index_or ks i None

-- Whether a slot keeps page p.
abbrev pub keeps : ℕ → Option Slot → Bool
keeps p None = false
keeps p (Some k) = k.page == p

abbrev pub is_changed : Option Slot → Bool
is_changed None = false
is_changed (Some k) = k.changed

abbrev pub words_in : Option Slot → Option Words
words_in x = option_map (λ k. k.words) x

-- The words kept of page p, if any are.
abbrev pub kept_in : Slots → ℕ → Option Words
kept_in [] p = None
kept_in (x ∷ ks) p = cond (keeps p x) (words_in x) (kept_in ks p)

-- No two slots keep one page.
abbrev pub Apart : Slots → Type 0
Apart ks = (i j p : ℕ) → keeps p (slot_at ks i) ≡ true → keeps p (slot_at ks j) ≡ true → i ≡ j

abbrev pub Whole : Slots → Type 0
Whole ks = (i : ℕ) (k : Slot) → slot_at ks i ≡ Some k → length k.words ≡ 64

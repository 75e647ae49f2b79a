-- Which slot a call fills, reuses or empties: the table after each call, by the table before it.
use Rattle.std.specs.Prelude.{ℕ, ◌+◌, ◌%◌, Bool, true, false, cond, replicate, is_some, is_none, Some, None, Option, slice_set, position}
use Rattle.std.specs.Option.{unwrap_or}
use Rattle.page_store.specs.Pages.{Words}
use Rattle.page_cache.specs.declared.slot.Slot.{Slot}
use Rattle.page_cache.specs.Slots.{Slots, keeps, kept_in}

-- The slots, and the one whose turn it is to be reused.
pub record Places : Type 0 where
  pub slots : Slots
  pub turn : ℕ

abbrev pub slot_of : Places → ℕ → Option ℕ
slot_of t p = position (keeps p) t.slots

-- The lowest empty slot.
abbrev pub empty_slot : Places → Option ℕ
empty_slot t = position is_none t.slots

abbrev pub replaced : Places → ℕ → Option Slot → Places
replaced t i x = record { slots = slice_set t.slots i x; turn = t.turn }

-- A page that comes in goes to the lowest empty slot; where none is empty, they are reused in turn.
abbrev pub next_slot : Places → ℕ
next_slot t = unwrap_or (empty_slot t) t.turn

-- The turn moves on only when a slot in use is reused.
abbrev pub turned : Places → Places
turned t = record { slots = t.slots; turn = cond (is_some (empty_slot t)) t.turn ((t.turn + 1) % 4) }

abbrev pub filled : Places → Slot → Places
filled t k = replaced (turned t) (next_slot t) (Some k)

abbrev pub slot : ℕ → Bool → Words → Slot
slot p c w = record { page = p; changed = c; words = w }

-- A slot once its page is written below.
abbrev pub clean : Option Slot → Option Slot
clean None = None
clean (Some k) = Some (slot k.page false k.words)

-- By the slot that keeps the page, or none.
abbrev pub by_slot : Option ℕ → (ℕ → Places) → Places → Places
by_slot (Some i) hit miss = hit i
by_slot None hit miss = miss

abbrev pub after_read : Places → ℕ → Words → Places
after_read t p w = cond (is_some (kept_in t.slots p)) t (filled t (slot p false w))

abbrev pub after_write : Places → ℕ → Words → Places
after_write t p w = by_slot (slot_of t p) (λ i. replaced t i (Some (slot p true w))) (filled t (slot p true w))

abbrev pub after_give_back : Places → ℕ → Places
after_give_back t p = by_slot (slot_of t p) (λ i. replaced t i None) t

-- The table of a cache just made.
abbrev pub new_table : Places
new_table = record { slots = replicate 4 None; turn = 0 }

-- What each call of a page store answers, and what it leaves: s are the pages before the call, t those after it.
use Rattle.std.specs.Prelude.{◌≡◌, ℕ, ◌<◌, cond, length, is_some, Some, None, Ok, Err, Option, Result, slice_set}
use Rattle.std.specs.Option.{unwrap_or}
use Rattle.page_store.specs.Pages.{Pages, Words, at, free_pages}
use Rattle.page_store.specs.Refusals.{answer}
use Rattle.page_store.specs.declared.refusal.StoreRefusal.{StoreRefusal}
use Rattle.page_store.specs.declared.refusal.StoreRefusal.TheVariants.{NoFreePage}

-- Page p becomes x where it is held; a free page, and one past the size, stays as it is.
unfoldable pub changed : Pages → ℕ → Option Words → Pages
changed s p x = cond (is_some (at s p)) (slice_set s p x) s

-- Page p was free, and is held with the words w. Which free page that is, the store chooses.
pub record Took (s t : Pages) (w : Words) (p : ℕ) : Type 0 where
  pub within : p < length s
  pub was_free : at s p ≡ None
  pub pages : t ≡ slice_set s p (Some w)

-- A take is refused only where no page is free, and then changes nothing.
abbrev pub Takes : Pages → Pages → Words → Result ℕ StoreRefusal → Type 0
Takes s t w (Ok p) = Took s t w p
Takes s t w (Err e) = (e ≡ NoFreePage) × (free_pages s ≡ 0) × (t ≡ s)

-- w is the caller's buffer before the call, v after it: the page's words, or as it was.
pub record Reads (s t : Pages) (p : ℕ) (w v : Words) (r : Result Unit StoreRefusal) : Type 0 where
  pub answers : r ≡ answer s p
  pub pages : t ≡ s
  pub buffer : v ≡ unwrap_or (at s p) w

pub record Writes (s t : Pages) (p : ℕ) (w : Words) (r : Result Unit StoreRefusal) : Type 0 where
  pub answers : r ≡ answer s p
  pub pages : t ≡ changed s p (Some w)

pub record GivesBack (s t : Pages) (p : ℕ) (r : Result Unit StoreRefusal) : Type 0 where
  pub answers : r ≡ answer s p
  pub pages : t ≡ changed s p None

-- A page that can be taken, or the refusal where none is free.
abbrev pub Takeable : Pages → Result ℕ StoreRefusal → Type 0
Takeable s (Ok p) = (p < length s) × (at s p ≡ None)
Takeable s (Err e) = (e ≡ NoFreePage) × (free_pages s ≡ 0)

-- How pages lie in a list of words: 65 words a page, a mark and then its 64 words.
use Rattle.std.specs.Prelude.{◌≡◌, ℕ, zero, suc, ◌+◌, ◌*◌, ◌<◌, ◌≤◌, false, cond, List, map, length, take, drop, is_some, Some, None, Option, ◌==◌, slice_index, slice_index_or, slice_set}
use Rattle.std.specs.List.{range_with_len}
use Rattle.page_store.specs.Pages.{Pages, Words}

-- The page p: free where its mark is 0, held at any other mark.
abbrev pub page_at : List ℕ → ℕ → Option Words
page_at ws p = cond (slice_index ws (65 * p) == 0) None (Some (take 64 (drop (65 * p + 1) ws)))

-- The first n pages.
unfoldable pub pages_of : List ℕ → ℕ → Pages
pages_of ws n = map (page_at ws) (range_with_len 0 n)

-- The marks of the first n pages set to 0, and no other word changed.
unfoldable pub cleared : List ℕ → ℕ → List ℕ
cleared ws zero = ws
cleared ws (suc n) = slice_set (cleared ws n) (65 * n) 0

-- The first word of a free page that is listed names the next listed one: the page i links after p.
unfoldable pub listed_page : List ℕ → ℕ → ℕ → ℕ
listed_page ws p zero = p
listed_page ws p (suc i) = listed_page ws (slice_index ws (65 * p + 1)) i

-- A page that may be listed.
abbrev pub Spare : List ℕ → ℕ → ℕ → Type 0
Spare ws fresh p = (p < fresh) × (is_some (page_at ws p) ≡ false)

-- Only the group of page p differs between us and vs, and it is the page x in vs.
pub record Edits (us vs : List ℕ) (p : ℕ) (x : Option Words) : Type 0 where
  pub long : length vs ≡ length us
  pub before : (i : ℕ) → i < 65 * p → slice_index vs i ≡ slice_index us i
  pub after : (i : ℕ) → 65 * p + 65 ≤ i → slice_index vs i ≡ slice_index us i
  pub here : page_at vs p ≡ x
  pub mark : slice_index_or us (65 * p) 0 ≤ 1 → slice_index vs (65 * p) ≤ 1

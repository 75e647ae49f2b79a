-- How many pages there are, and each of them: a held page has 64 words. The laws of the interface rest on it.
use Rattle.std.specs.Prelude.{◌≡◌, ℕ, ◌+◌, ◌*◌, ◌<◌, ◌≤◌, true, List, length, take, drop, is_some, Some, None, vec_items, vec_len, Vec, ◌≢◌, slice_index}
use Rattle.std.proofs.Common.{sym, ap, ◌∙◌, subst}
use Rattle.std.proofs.Math.Nat.{le_trans, zero-add, add_assoc, mul-add, mul-le-mul_left}
use Rattle.std.proofs.Math.Numerals.{add-one-le}
use Rattle.std.proofs.lemmas.List.FromFn.{length-map-range_with_len, get_or-map-range_with_len}
use Rattle.std.proofs.lemmas.Bool.{both_ways, cond-true, cond-false, eq-eqb, ne_eqb}
use Rattle.std.proofs.lemmas.Option.{same_Some}
use Rattle.std.proofs.lemmas.Simd.{length-chunk}
use Rattle.page_store.specs.Pages.{Words, at}
use Rattle.page_store.proofs.Counting.{held_below}
use Rattle.array_store.specs.Layout.{page_at, pages_of}

pub length_pages : (ws : List ℕ) (n : ℕ) → length (pages_of ws n) ≡ n
unfolding pages_of
length_pages ws n = length-map-range_with_len (page_at ws) 0 n

pub few_pages : (ws : List ℕ) (n : ℕ) → n ≤ 4096 → length (pages_of ws n) ≤ 4096
few_pages ws n few = subst (λ (m : ℕ). m ≤ 4096) (sym (length_pages ws n)) few

pub at_pages : (ws : List ℕ) (n p : ℕ) → p < n → at (pages_of ws n) p ≡ page_at ws p
unfolding pages_of
at_pages ws n p h = get_or-map-range_with_len (page_at ws) 0 n p p None h (zero-add p)

-- A page that is held lies below the number of pages.
pub held_within : (ws : List ℕ) (n p : ℕ) → is_some (at (pages_of ws n) p) ≡ true → p < n
held_within ws n p h = subst (λ (m : ℕ). p < m) (length_pages ws n) (held_below (pages_of ws n) p h)

pub page_free : (ws : List ℕ) (p : ℕ) → slice_index ws (65 * p) ≡ 0 → page_at ws p ≡ None
page_free ws p e = cond-true _ _ _ (eq-eqb _ _ e)

pub page_held : (ws : List ℕ) (p : ℕ) → (slice_index ws (65 * p) ≢ 0) → page_at ws p ≡ Some (take 64 (drop (65 * p + 1) ws))
page_held ws p e = cond-false _ _ _ (ne_eqb _ _ e)

pub held_mark : (ws : List ℕ) (p : ℕ) → is_some (page_at ws p) ≡ true → slice_index ws (65 * p) ≢ 0
held_mark ws p h z = both_ways (is_some (page_at ws p)) (ap is_some (page_free ws p z)) h

-- The places of page p, of n pages.
group_end : (n p : ℕ) → p < n → 65 * p + 1 + 64 ≤ 65 * n
group_end n p h = subst (λ (m : ℕ). m ≤ 65 * n) (mul-add 65 p 1 ∙ sym (add_assoc (65 * p) 1 64)) (mul-le-mul_left 65 (add-one-le h))

-- A held page has 64 words.
pub page_whole : (ws : List ℕ) (n p : ℕ) (w : Words) → 65 * n ≤ length ws → at (pages_of ws n) p ≡ Some w → length w ≡ 64
page_whole ws n p w room e =
    let l = held_within ws n p (ap is_some e) in
    let f = at_pages ws n p l in
    let h : is_some (page_at ws p) ≡ true = ap is_some (sym f ∙ e) in
    let same = same_Some _ _ (sym e ∙ f ∙ page_held ws p (held_mark ws p h)) in
    ap length same ∙ length-chunk (65 * p + 1) 64 ws (le_trans (group_end n p l) room)

pub whole_pages : {Z : Type 0} (v : Vec ℕ Z) (n p : ℕ) (w : Words) → 65 * n ≤ vec_len v → at (pages_of (vec_items v) n) p ≡ Some w → length w ≡ 64
whole_pages v n p w room = page_whole (vec_items v) n p w (subst (λ (m : ℕ). 65 * n ≤ m) v.ok.0 room)

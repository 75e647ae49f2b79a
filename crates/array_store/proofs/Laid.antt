-- How the pages lie in the words: each of them is its 65 places, and the words whose marks are cleared.
use Rattle.std.proofs.Common.{◌≡◌, ℕ, zero, suc, ◌+◌, ◌*◌, ◌<◌, ◌≤◌, List, length, get_or, take, drop, replicate, None, vec_items, vec_len, Vec, refl, ap, ◌∙◌, arith}
use Rattle.std.proofs.lemmas.List.{length-set, ext_get_or, with_items_is}
use Rattle.std.specs.Vec.{with_items}
use Rattle.std.proofs.lemmas.Grind.{common_steps, elements}
use Rattle.array_store.specs.Layout.{page_at, pages_of, cleared}
use Rattle.array_store.specs.Laws.{length_pages, at_pages, page_free}

part_same : (us vs : List ℕ) (a k : ℕ) → length vs ≡ length us → ((i : ℕ) → a ≤ i → i < a + k → get_or vs i 0 ≡ get_or us i 0)
    → take k (drop a vs) ≡ take k (drop a us)
part_same us vs a k e same = grind (arith, elements)

pub page_same : (us vs : List ℕ) (p : ℕ) → length vs ≡ length us → ((i : ℕ) → 65 * p ≤ i → i < 65 * p + 65 → get_or vs i 0 ≡ get_or us i 0)
    → page_at vs p ≡ page_at us p
page_same us vs p e same =
    let mark = same (65 * p) (omega arith) (omega arith) in
    rw (mark, part_same us vs (65 * p + 1) 64 e (λ i a b. same i (omega arith) (omega arith)))

-- The words whose marks are cleared.
length_cleared : (ws : List ℕ) (n : ℕ) → length (cleared ws n) ≡ length ws
unfolding cleared
length_cleared ws zero = refl
length_cleared ws (suc n) = simp (length-set, length_cleared ws n)

pub cleared_mark : (ws : List ℕ) (n p : ℕ) → 65 * n ≤ length ws → p < n → get_or (cleared ws n) (65 * p) 0 ≡ 0
unfolding cleared
cleared_mark ws zero p room h = absurd (omega arith)
cleared_mark ws (suc n) p room h = grind (arith, common_steps, length_cleared ws n, cleared_mark ws n p)

pub cleared_page : (ws : List ℕ) (n p : ℕ) → 65 * n ≤ length ws → p < n → page_at (cleared ws n) p ≡ None
cleared_page ws n p room h = page_free (cleared ws n) p (cleared_mark ws n p room h)

pub cleared_pages : (ws : List ℕ) (n : ℕ) → 65 * n ≤ length ws → pages_of (cleared ws n) n ≡ replicate n None
cleared_pages ws n room = ext_get_or None _ _ (grind (arith, common_steps, length_pages)) (λ p l. grind (arith, common_steps, length_pages, at_pages, cleared_page))

-- The marks cleared through the slice of a vector.
pub refilled_cleared : {Z : Type 0} (v : Vec ℕ Z) {us vs : List ℕ} (n : ℕ) → length us ≡ vec_len v → us ≡ vec_items v
    → vs ≡ cleared us n → vec_items (with_items v vs) ≡ cleared (vec_items v) n
refilled_cleared v {us} {vs} n l e h =
    with_items_is v vs (ap length h ∙ length_cleared us n ∙ l) ∙ h ∙ ap (λ (ws : List ℕ). cleared ws n) e

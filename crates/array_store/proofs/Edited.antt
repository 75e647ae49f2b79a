-- What an edit of one page changes, what it leaves, and how one is made.
use Rattle.std.proofs.Common.{◌≡◌, ℕ, zero, suc, ◌+◌, ◌-◌, ◌*◌, ◌<◌, ◌≤◌, List, length, get_or, take, drop, set, true, is_some, Some, None, vec_items, vec_len, Option, Vec, sym, refl, ap, ◌∙◌, ⊎_elim, arith, rules}
use borrow.Rule.Slice.PartMut.{put_mid}
use Rattle.std.proofs.lemmas.List.{ext_get_or, places, take_at, drop_at, length-set, get_or-set_same, get_or-set_other, with_items_is}
use Rattle.std.proofs.lemmas.Grind.{common_steps, elements}
use Rattle.std.proofs.lemmas.Bool.{cases_eq}
use Rattle.std.specs.Vec.{with_items}
use Rattle.page_store.specs.Pages.{Words}
use Rattle.array_store.specs.Layout.{page_at, pages_of, listed_page, Edits}
use Rattle.array_store.specs.Laws.{length_pages, at_pages, page_held, held_mark}
use Rattle.array_store.proofs.Laid.{page_same}

pub other_word : {us vs : List ℕ} {p : ℕ} {x : Option Words} → Edits us vs p x
    → (q i : ℕ) → (q ≡ p → ⊥) → 65 * q ≤ i → i < 65 * q + 65 → get_or vs i 0 ≡ get_or us i 0
other_word e q i ne lo hi = grind arith

pub other_page : {us vs : List ℕ} {p : ℕ} {x : Option Words} → Edits us vs p x → (q : ℕ) → (q ≡ p → ⊥) → page_at vs q ≡ page_at us q
other_page {us} {vs} e q ne = page_same us vs q e.long (λ i lo hi. other_word e q i ne lo hi)

-- The list, up to its page i, where none before that is the edited one.
pub same_listed : {us vs : List ℕ} {p : ℕ} {x : Option Words} → Edits us vs p x
    → (i h : ℕ) → ((j : ℕ) → j < i → listed_page us h j ≡ p → ⊥) → listed_page vs h i ≡ listed_page us h i
unfolding listed_page
same_listed e zero h ne = refl
same_listed {us} {vs} e (suc i) h ne =
    ap (λ (m : ℕ). listed_page vs m i) (other_word e h (65 * h + 1) (ne 0 (omega arith)) (omega arith) (omega arith))
    ∙ same_listed e i (get_or us (65 * h + 1) 0) (λ j l. ne (suc j) (omega arith))

pub edited_pages : {us vs : List ℕ} {p : ℕ} {x : Option Words} → Edits us vs p x
    → (n : ℕ) → p < n → pages_of vs n ≡ set (pages_of us n) p x
edited_pages {us} {vs} {p} {x} e n h = ext_get_or None _ _ (grind (arith, common_steps, length_pages)) (λ q l. ⊎_elim
    (λ (f : q ≡ p). grind (arith, common_steps, length_pages, at_pages, e.here))
    (λ (ne : q ≡ p → ⊥). grind (arith, common_steps, length_pages, at_pages, other_page e q))
    (cases_eq q p))

pub edited_past : {us vs : List ℕ} {p : ℕ} {x : Option Words} → Edits us vs p x → (n : ℕ) → p < n → drop (65 * n) vs ≡ drop (65 * n) us
edited_past e n h = grind (arith, elements, e.long, e.after)

-- An edit through the slice of a vector.
pub refilled_edits : {Z : Type 0} (v : Vec ℕ Z) {us vs : List ℕ} {p : ℕ} {x : Option Words} → length us ≡ vec_len v → us ≡ vec_items v
    → Edits us vs p x → Edits (vec_items v) (vec_items (with_items v vs)) p x
refilled_edits v {us} {vs} l e h = rw (with_items_is v vs (h.long ∙ l), ← e) h

-- A write of the words of a held page, to the k places from a on.
pub put_words : (us : List ℕ) (p a k : ℕ) (w : Words) → a ≡ 65 * p + 1 → k ≡ 64 → 65 * p + 65 ≤ length us → length w ≡ 64
    → is_some (page_at us p) ≡ true → Edits us (put_mid a k us w) p (Some w)
put_words us p a k w e f r l h =
    let same : get_or (put_mid a k us w) (65 * p) 0 ≡ get_or us (65 * p) 0 = search (rules, places) in
    record {
      long = search (rules, places);
      before = λ i b. search (rules, places);
      after = λ i b. search (rules, places);
      here =
          page_held _ p (λ z. held_mark us p h (sym same ∙ z))
          ∙ ap Some (rw (← e) (ap (take 64) (drop_at (take a us) _ a (search rules)) ∙ take_at w _ 64 l));
      mark = λ m. omega arith;
    }

-- And where the page is not held yet, once its mark is set.
pub hold_edits : (us : List ℕ) (p k : ℕ) (w : Words) → 65 * p + 65 ≤ length us → k ≡ 64 → length w ≡ 64
    → Edits us (put_mid (65 * p + 1) k (set us (65 * p) 1) w) p (Some w)
hold_edits us p k w room e long =
    let l = length-set us (65 * p) 1 in
    let mark : get_or (set us (65 * p) 1) (65 * p) 0 ≡ 1 = get_or-set_same us (65 * p) 1 0 (omega arith) in
    let f = put_words (set us (65 * p) 1) p (65 * p + 1) k w refl e (omega arith) long (ap is_some (page_held (set us (65 * p) 1) p (λ z. omega arith))) in
    record {
      long = f.long ∙ l;
      before = λ i b. f.before i b ∙ get_or-set_other us (65 * p) i 1 0 (λ z. omega arith);
      after = λ i b. f.after i b ∙ get_or-set_other us (65 * p) i 1 0 (λ z. omega arith);
      here = f.here;
      mark = λ m. f.mark (omega arith);
    }

-- The same through the slice us of a vector, to the places from a up to b.
pub fill_edits : {Z : Type 0} (v : Vec ℕ Z) {us w : List ℕ} {p a b : ℕ} → us ≡ vec_items v → a ≡ 65 * p + 1 → b ≡ 65 * p + 65 → length w ≡ 64
    → 65 * p + 65 ≤ vec_len v → is_some (page_at (vec_items v) p) ≡ true → Edits (vec_items v) (vec_items (with_items v (put_mid a (b - a) us w))) p (Some w)
fill_edits v {us} {w} {p} {a} {b} e f g l r h =
    let long : length us ≡ vec_len v = ap length e ∙ sym v.ok.0 in
    refilled_edits v long e (put_words us p a (b - a) w f (omega arith) (omega arith) l (rw e h))

-- How many pages are free, and how the count goes with each change of a page.
use Rattle.std.proofs.Common.{◌≡◌, ℕ, zero, suc, ◌+◌, ◌<◌, ◌≤◌, true, false, [], ◌∷◌, length, set, replicate, is_some, Some, None, Option, refl, ap, ◌∙◌, ⊎_elim, arith}
use Rattle.std.proofs.lemmas.List.{get_or_past}
use Rattle.std.proofs.lemmas.Bool.{both_ways, cases_lt, true≢false, false≢true}
use Rattle.page_store.specs.Pages.{Pages, Words, at, one_if_free, free_pages}

pub held_below : (s : Pages) (p : ℕ) → is_some (at s p) ≡ true → p < length s
held_below s p h = ⊎_elim
    (λ (l : p < length s). l)
    (λ (l : length s ≤ p). absurd (both_ways _ (ap is_some (get_or_past s p None l)) h))
    (cases_lt p (length s))

pub none_from : (x : Option Words) → is_some x ≡ false → x ≡ None
none_from None h = refl
none_from (Some w) h = absurd (true≢false h)

held_one : (x : Option Words) → is_some x ≡ true → one_if_free x ≡ 0
held_one None h = absurd (false≢true h)
held_one (Some w) h = refl

-- One page changed.
pub free_set : (s : Pages) (p : ℕ) (x : Option Words) → p < length s → free_pages (set s p x) + one_if_free (at s p) ≡ free_pages s + one_if_free x
free_set [] p x h = absurd (omega arith)
free_set (y ∷ s) zero x h = omega arith
free_set (y ∷ s) (suc p) x h = let e = free_set s p x (omega arith) in omega arith

pub all_free : (n : ℕ) → free_pages (replicate n None) ≡ n
all_free zero = refl
all_free (suc n) = let e = all_free n in omega arith

pub free_most : (s : Pages) → free_pages s ≤ length s
free_most [] = omega arith
free_most (None ∷ s) = let e = free_most s in omega arith
free_most (Some w ∷ s) = let e = free_most s in omega arith

pub some_free : (s : Pages) (p : ℕ) → p < length s → at s p ≡ None → 0 < free_pages s
some_free [] p h e = absurd (omega arith)
some_free (None ∷ s) zero h e = omega arith
some_free (Some w ∷ s) zero h e = let z : ◌≡◌ {A = ℕ} 0 1 = cc in absurd (omega arith)
some_free (x ∷ s) (suc p) h e = let f = some_free s p (omega arith) e in omega arith

-- A held page written, a free page taken, a held page given back.
pub written_free : (s t : Pages) (p : ℕ) (w : Words) → is_some (at s p) ≡ true → t ≡ set s p (Some w) → free_pages t ≡ free_pages s
written_free s t p w h e =
    let f = free_set s p (Some w) (held_below s p h) in
    let z = held_one (at s p) h in
    ap free_pages e ∙ omega arith

pub taken_free : (s t : Pages) (p : ℕ) (w : Words) → p < length s → at s p ≡ None → t ≡ set s p (Some w) → free_pages t + 1 ≡ free_pages s
taken_free s t p w l z e =
    let f = free_set s p (Some w) l in
    let o : one_if_free (at s p) ≡ 1 = ap one_if_free z in
    let g : free_pages t ≡ free_pages (set s p (Some w)) = ap free_pages e in
    omega arith

pub given_free : (s t : Pages) (p : ℕ) → is_some (at s p) ≡ true → t ≡ set s p None → free_pages t ≡ free_pages s + 1
given_free s t p h e =
    let f = free_set s p None (held_below s p h) in
    let z = held_one (at s p) h in
    let g : free_pages t ≡ free_pages (set s p None) = ap free_pages e in
    omega arith

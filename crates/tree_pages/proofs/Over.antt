-- Pages written over others.
use Rattle.std.proofs.Common.{◌≡◌, ℕ, ◌<◌, ◌≤◌, true, false, ◌≢◌, [], ◌∷◌, ◌++◌, length, set, is_some, Some, None, Option, refl, ap, ◌∙◌, ⊎_elim, length-set}
use Rattle.std.specs.List.{AllByRecursion}
use Rattle.std.proofs.lemmas.List.{get_or-set_same, get_or-set_other, set_past}
use Rattle.std.proofs.lemmas.Bool.{cases_eq, cases_lt}
use Rattle.page_store.specs.Pages.{Pages, Words, at}
use Rattle.page_store.proofs.Calling.{Held}
use Rattle.gist.specs.Tree.{Written}
use Rattle.gist.specs.Theorems.{numbers}
use Rattle.tree_pages.specs.Laid.{over}

pub length_over : (s : Pages) (ws : Written) → length (over s ws) ≡ length s
length_over s [] = refl
length_over s (w ∷ ws) = length-set (over s ws) w.0 (Some w.1) ∙ length_over s ws

pub over-++ : (s : Pages) (xs ys : Written) → over s (xs ++ ys) ≡ over (over s ys) xs
over-++ s [] ys = refl
over-++ s (x ∷ xs) ys = ap (λ (t : Pages). set t x.0 (Some x.1)) (over-++ s xs ys)

-- A page that is not written.
pub over_other : (s : Pages) (ws : Written) (p : ℕ) → AllByRecursion (λ q. p ≢ q) (numbers ws) → at (over s ws) p ≡ at s p
over_other s [] p a = refl
over_other s (w ∷ ws) p a = get_or-set_other (over s ws) w.0 p (Some w.1) None a.0 ∙ over_other s ws p a.1

-- What is held stays held.
pub set_held : (s : Pages) (q : ℕ) (w : Words) (p : ℕ) → Held s p → Held (set s q (Some w)) p
set_held s q w p h = ⊎_elim
    (λ (e : p ≡ q). ⊎_elim
    (λ (l : q < length s). ap is_some (ap (at (set s q (Some w))) e ∙ get_or-set_same s q (Some w) None l))
    (λ (l : length s ≤ q). ap (λ (t : Pages). is_some (at t p)) (set_past s q (Some w) l) ∙ h)
    (cases_lt q (length s)))
    (λ (ne : p ≢ q). ap is_some (get_or-set_other s q p (Some w) None ne) ∙ h)
    (cases_eq p q)

pub over_held : (s : Pages) (ws : Written) (p : ℕ) → Held s p → Held (over s ws) p
over_held s [] p h = h
over_held s (w ∷ ws) p h = set_held (over s ws) w.0 w.1 p (over_held s ws p h)

-- What is free was free.
pub over_none : (s : Pages) (ws : Written) (p : ℕ) → at (over s ws) p ≡ None → at s p ≡ None
over_none s ws p e = either (at s p) refl
  where
    either : (x : Option Words) → at s p ≡ x → x ≡ None
    either None f = refl
    either (Some w) f =
        let h : is_some (at (over s ws) p) ≡ true = over_held s ws p (ap is_some f) in
        let g : is_some (at (over s ws) p) ≡ false = ap is_some e in
        cc

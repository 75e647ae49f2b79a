-- A tree laid over pages, and another that differs from it laid over the same.
use Rattle.std.proofs.Common.{◌≡◌, ℕ, ◌+◌, ◌<◌, ◌≢◌, List, [], ◌∷◌, ◌++◌, length, set, Some, None, Option, sym, refl, ap, ◌∙◌, arith}
use mathlib.Core.List.Perm
use mathlib.Core.List.{map-append, Mem, Memᴰ, mem-cons_of_mem, mem-append_left, Nodup, Nodup-cons, Nodup-append, Perm}
use Rattle.std.specs.List.{AllByRecursion}
use Rattle.std.proofs.lemmas.List.{append-nil, get_or-set_same, get_or-set_other, set-get_or}
use Rattle.page_store.specs.Pages.{Pages, Words, at, free_pages}
use Rattle.page_store.proofs.Counting.{taken_free}
use Rattle.gist.specs.Tree.{Written}
use Rattle.gist.specs.Theorems.{numbers, Differ, StandsOn}
use Rattle.gist.specs.Writes.{Edits, holding, freed}
use Rattle.gist.proofs.Perms.{map_perm}
use Rattle.gist.proofs.Bags.{v, ◌⊕◌, bag}
use Rattle.gist.proofs.Differing.{numbers_parts}
use Rattle.tree_pages.specs.Laid.{over, Fresh}
use Rattle.tree_pages.proofs.Once.{first_apart}
use Rattle.tree_pages.proofs.Over.{length_over, over_other}
use Rattle.tree_pages.proofs.Sets.{sets, places, pages_set, sets-++, sets_perm, sets_absorb_all}

pub over_sets : (s : Pages) (ws : Written) → over s ws ≡ sets s (holding ws)
over_sets s [] = refl
over_sets s (w ∷ ws) = ap (λ (t : Pages). set t w.0 (Some w.1)) (over_sets s ws)

pub places_holding : (ws : Written) → places (holding ws) ≡ numbers ws
places_holding [] = refl
places_holding (w ∷ ws) = ap {B = List ℕ} (λ ps. w.0 ∷ ps) (places_holding ws)

pub all_from_mem : {A : Type 0} (P : A → Type 0) (xs : List A) → ((a : A) → Mem a xs → P a) → AllByRecursion P xs
all_from_mem P [] f = tt
all_from_mem P (x ∷ xs) f = (f x ∣ Memᴰ.head refl ∣₁, all_from_mem P xs (λ a m. f a (mem-cons_of_mem x m)))

places_edits : (ws : Written) (ps : List ℕ) → places (holding ws ++ freed ps) ≡ numbers ws ++ ps
places_edits [] [] = refl
places_edits [] (p ∷ ps) = ap {B = List ℕ} (λ r. p ∷ r) (places_edits [] ps)
places_edits (w ∷ ws) ps = ap {B = List ℕ} (λ r. w.0 ∷ r) (places_edits ws ps)

-- To give back what was free is no change.
freed_free : (s : Pages) (ps : List ℕ) → AllByRecursion (λ p. at s p ≡ None) ps → sets s (freed ps) ≡ s
freed_free s [] a = refl
freed_free s (p ∷ ps) a = ap (λ (t : Pages). set t p None) (freed_free s ps a.1) ∙ ap (set s p) (sym a.0) ∙ set-get_or s p None

module _ (s : Pages) (first second : Written) {old new : List ℕ} (d : Differ first second old new) where
  -- What was written again and given back, over what was there before, is the second laid down alone.
  laid_again : (back : List ℕ) → AllByRecursion (λ p. Mem p (numbers d.come ++ back)) (numbers d.gone) → AllByRecursion (λ p. at s p ≡ None) back
      → Nodup (numbers first) → Nodup (numbers second ++ back) → sets (over s first) (holding d.come ++ freed back) ≡ over s second
  laid_again back inside free n m =
      ap (λ (t : Pages). sets t edits) (over_sets s first ∙ sets_perm pages_set s (map_perm _ d.first_is) (rw places_holding n) ∙ ap (sets s) (map-append _ d.gone d.kept))
      ∙ sym (sets-++ s edits (holding d.gone ++ holding d.kept))
      ∙ sets_absorb_all s edits (holding d.gone) (holding d.kept) (rw (places_edits d.come back, places_holding d.gone) inside)
      ∙ sym (sets_perm pages_set s (bag (holding d.come ∷ holding d.kept ∷ freed back ∷ []) ((v 0 ⊕ v 1) ⊕ v 2) ((v 0 ⊕ v 2) ⊕ v 1) refl) once)
      ∙ sets-++ s (holding d.come ++ holding d.kept) (freed back)
      ∙ ap (λ (t : Pages). sets t (holding d.come ++ holding d.kept)) (freed_free s back free)
      ∙ ap (sets s) (sym (map-append _ d.come d.kept))
      ∙ sym (over_sets s second ∙ sets_perm pages_set s (map_perm _ d.second_is) (rw places_holding (Nodup-append.0 m).0))
    where
      edits : Edits
      edits = holding d.come ++ freed back

      once : Nodup (places ((holding d.come ++ holding d.kept) ++ freed back))
      once = rw (← map-append {B = ℕ × Option Words} (λ w. (w.0, Some w.1)) d.come d.kept, places_edits (d.come ++ d.kept) back)
          (Perm.nodup (Perm.append_right back (map_perm _ d.second_is)) m)

  -- The same by edits, in any order, that give back the rest of the old pages.
  pub relaid_by : (back : List ℕ) (edits : Edits) → Perm old (new ++ back) → Perm edits (holding d.come ++ freed back) → AllByRecursion (λ p. at s p ≡ None) back
      → Nodup (numbers first) → Nodup (numbers second ++ back) → sets (over s first) edits ≡ over s second
  relaid_by back edits split are free n m =
      sym (sets_perm pages_set (over s first) (Perm.symm are) (rw (places_edits d.come back) (Perm.nodup touched once_gone)))
      ∙ laid_again back (all_from_mem _ (numbers d.gone) (λ p x. (Perm.mem_iff touched).0 x)) free n m
    where
      touched : Perm (numbers d.gone) (numbers d.come ++ back)
      touched = Perm.trans d.gone_from (Perm.trans split (Perm.append_right back (Perm.symm d.come_to)))

      once_gone : Nodup (numbers d.gone)
      once_gone = (Nodup-append.0 (Perm.nodup (numbers_parts d.gone d.kept d.first_is) n)).0

-- The same where pages are only added.
pub relaid : (s : Pages) (first second : Written) (ps fs : List ℕ) (d : Differ first second ps (ps ++ fs)) → Nodup (numbers first) → Nodup (numbers second)
    → over (over s first) d.come ≡ over s second
relaid s first second ps fs d n m =
    over_sets (over s first) d.come ∙ ap (sets (over s first)) (sym (append-nil (holding d.come)))
    ∙ laid_again s first second d [] (rw append-nil inside) tt n (rw append-nil m)
  where
    inside : AllByRecursion (λ p. Mem p (numbers d.come)) (numbers d.gone)
    inside = all_from_mem _ (numbers d.gone) (λ p x. (Perm.mem_iff d.come_to).1 (mem-append_left fs ((Perm.mem_iff d.gone_from).0 x)))

-- The pages that were written have their words.
pub stands_over : (s : Pages) (ws : Written) → Nodup (numbers ws) → AllByRecursion (λ p. p < length s) (numbers ws) → StandsOn (over s ws) ws
stands_over s [] n l = tt
stands_over s (w ∷ ws) n l = (
  get_or-set_same (over s ws) w.0 (Some w.1) None (omega (arith, length_over s ws, l.0)),
  all_numbers ws (first_apart w.0 (numbers ws) n) (stands_over s ws (Nodup-cons.0 n).1 l.1),
)
  where
    all_numbers : (vs : Written) → AllByRecursion (λ q. w.0 ≢ q) (numbers vs) → StandsOn (over s ws) vs → StandsOn (set (over s ws) w.0 (Some w.1)) vs
    all_numbers [] a b = tt
    all_numbers (x ∷ vs) a b = (get_or-set_other (over s ws) w.0 x.0 (Some w.1) None (λ e. a.0 (sym e)) ∙ b.0, all_numbers vs a.1 b.1)

-- Each page laid down is one free page fewer.
pub free_over : (s : Pages) (ws : Written) → Fresh s (numbers ws) → free_pages (over s ws) + length ws ≡ free_pages s
free_over s [] f = omega arith
free_over s (w ∷ ws) f =
    let below = free_over s ws (record { free = f.free.1; once = (Nodup-cons.0 f.once).1 }) in
    let none = over_other s ws w.0 (first_apart w.0 (numbers ws) f.once) ∙ f.free.0.1 in
    omega (arith, below, taken_free (over s ws) (over s (w ∷ ws)) w.0 w.1 (omega (arith, length_over s ws, f.free.0.0)) none refl)

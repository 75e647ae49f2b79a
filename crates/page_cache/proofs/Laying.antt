-- Laws of pages laid over others.
use Rattle.std.specs.Prelude.{◌≡◌, ℕ, zero, suc, true, [], ◌∷◌, length, is_some, Some, None, Option, ◌≢◌, slice_set, refl}
use Rattle.std.proofs.Common.{sym, ap, ◌∙◌, arith}
use Rattle.std.proofs.lemmas.List.{ext_get_or}
use Rattle.page_store.specs.Pages.{Pages, Words, at, one_if_free, free_pages}
use Rattle.page_cache.specs.Over.{lay, over}
use Rattle.page_cache.specs.Laws.{length_over, at_over}

lay_one : (x y : Option Words) → one_if_free (lay x y) ≡ one_if_free x
lay_one None y = refl
lay_one (Some w) None = refl
lay_one (Some w) (Some v) = refl

pub free_over : (s : Pages) (f : ℕ → Option Words) → free_pages (over s f) ≡ free_pages s
unfolding over
free_over [] f = refl
free_over (x ∷ s) f = let e = lay_one x (f 0) in let g = free_over s (λ p. f (suc p)) in omega arith

lay_some : (x y : Option Words) → is_some (lay x y) ≡ is_some x
lay_some None y = refl
lay_some (Some w) None = refl
lay_some (Some w) (Some v) = refl

pub held_over : (s : Pages) (f : ℕ → Option Words) (p : ℕ) → is_some (at (over s f) p) ≡ is_some (at s p)
held_over s f p = ap is_some (at_over s f p) ∙ lay_some (at s p) (f p)

pub lay_none : (x : Option Words) → lay x None ≡ x
lay_none None = refl
lay_none (Some w) = refl

lay_kept : (x : Option Words) (w : Words) → is_some x ≡ true → lay x (Some w) ≡ Some w
lay_kept None w h = cc
lay_kept (Some v) w h = refl

pub over_none : (s : Pages) (f : ℕ → Option Words) (p : ℕ) → f p ≡ None → at (over s f) p ≡ at s p
over_none s f p e = at_over s f p ∙ ap (lay (at s p)) e ∙ lay_none (at s p)

pub over_kept : (s : Pages) (f : ℕ → Option Words) (p : ℕ) (w : Words) → is_some (at s p) ≡ true → f p ≡ Some w → at (over s f) p ≡ Some w
over_kept s f p w h e = at_over s f p ∙ ap (lay (at s p)) e ∙ lay_kept (at s p) w h

-- Pages that are the same at each number.
pub same_over : (s t : Pages) (f : ℕ → Option Words) → length t ≡ length s → ((q : ℕ) → lay (at s q) (f q) ≡ at t q) → over s f ≡ t
same_over s t f l e = ext_get_or None (over s f) t (length_over s f ∙ sym l) (λ q _. at_over s f q ∙ e q)

-- What is laid over is the same, and the same but at p.
pub over_same : (s : Pages) (f g : ℕ → Option Words) → ((q : ℕ) → g q ≡ f q) → over s g ≡ over s f
over_same s f g e = same_over s (over s f) g (length_over s f) (λ q. ap (lay (at s q)) (e q) ∙ sym (at_over s f q))

pub over_but : (s : Pages) (f g : ℕ → Option Words) (p : ℕ) → ((q : ℕ) → (q ≢ p) → g q ≡ f q) → over s g ≡ slice_set (over s f) p (at (over s g) p)
unfolding over
over_but [] f g p e = refl
over_but (x ∷ s) f g zero e = let t = over_same s (λ q. f (suc q)) (λ q. g (suc q)) (λ q. e (suc q) (λ h. omega arith)) in cc
over_but (x ∷ s) f g (suc p) e =
    let h = e 0 (λ z. omega arith) in
    let t = over_but s (λ q. f (suc q)) (λ q. g (suc q)) p (λ q ne. e (suc q) (λ z. ne (omega arith))) in
    cc

-- A page below becomes x, where nothing is laid over it, and becomes what is laid over it.
pub over_unkept : (s : Pages) (f : ℕ → Option Words) (p : ℕ) (x : Option Words) → f p ≡ None → over (slice_set s p x) f ≡ slice_set (over s f) p x
unfolding over
over_unkept [] f p x e = refl
over_unkept (y ∷ s) f zero x e = let h = lay_none x in cc
over_unkept (y ∷ s) f (suc p) x e = let t = over_unkept s (λ q. f (suc q)) p x e in cc

pub over_written : (s : Pages) (f : ℕ → Option Words) (p : ℕ) (w : Words) → is_some (at s p) ≡ true → f p ≡ Some w → over (slice_set s p (Some w)) f ≡ over s f
unfolding over
over_written [] f p w h e = refl
over_written (x ∷ s) f zero w h e = let k = lay_kept x w h in cc
over_written (x ∷ s) f (suc p) w h e = let t = over_written s (λ q. f (suc q)) p w h e in cc

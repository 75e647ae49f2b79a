-- Lists in which nothing stands twice.
use Rattle.std.proofs.Common.{◌≢◌, List, [], ◌∷◌, ◌++◌, sym, subst}
use mathlib.Core.Logic.{∥∥₁_elim}
use mathlib.Core.HLevel.{⊥_prop}
use mathlib.Core.List.{Mem, Memᴰ, Nodup, Nodup-cons, Nodup-append, mem-cons_of_mem}
use Rattle.std.specs.List.{AllByRecursion}

module _ {A : Type 0} where
  pub all_mem : (P : A → Type 0) (xs : List A) (a : A) → AllByRecursion P xs → Memᴰ a xs → P a
  all_mem P [] a h m = elim m [ ]
  all_mem P (x ∷ xs) a h (Memᴰ.head e) = subst P (sym e) h.0
  all_mem P (x ∷ xs) a h (Memᴰ.tail m) = all_mem P xs a h.1 m

  -- What is known of the one list and not of the other tells them apart.
  pub once_both : (P R : A → Type 0) → ((a : A) → P a → R a → ⊥) → (xs ys : List A) → AllByRecursion P xs → AllByRecursion R ys → Nodup xs → Nodup ys → Nodup (xs ++ ys)
  once_both P R not xs ys p r m n =
      Nodup-append.1 (m, n, λ a mx my. ∥∥₁_elim mx ⊥_prop (λ dx. ∥∥₁_elim my ⊥_prop (λ dy. not a (all_mem P xs a p dx) (all_mem R ys a r dy))))

  -- The first is none of the others.
  pub first_apart : (x : A) (xs : List A) → Nodup (x ∷ xs) → AllByRecursion (λ y. x ≢ y) xs
  first_apart x xs n = none xs (Nodup-cons.0 n).0
    where
      none : (ys : List A) → (Mem x ys → ⊥) → AllByRecursion (λ y. x ≢ y) ys
      none [] h = tt
      none (y ∷ ys) h = (λ e. h ∣ Memᴰ.head e ∣₁, none ys (λ m. h (mem-cons_of_mem y m)))

-- Permutations: what joined, and the places of a list, do with them.
use Rattle.std.proofs.Common.{◌≡◌, ℕ, zero, suc, Bool, true, false, List, [], ◌∷◌, ◌++◌, map, length, set, Some, refl, ap, ◌∙◌}
use Rattle.std.proofs.lemmas.Option.{none-some}
use mathlib.Core.Logic.{∥∥₁_elim}
use mathlib.Core.List.{Perm, Permᴰ}
use mathlib.Core.List.Perm
use mathlib.Core.List.{Perm-prop, perm_middle, perm_append_comm}
use native.Mathlib.Nat.{ℕ_set}
use Rattle.std.specs.List.{flat_map, remove as without, slice_get}
use Rattle.std.proofs.lemmas.List.{append_assoc, append-nil}
use Rattle.std.proofs.lemmas.Option.{same_Some}
use Rattle.std.proofs.lemmas.Grind.{flat_map-append}
use Rattle.std.proofs.lemmas.List.Concat.{flat_map_single}
use Rattle.node.specs.Nodes.{stay, go}

module _ {A : Type 0} where
  pub perm_eq : {xs ys : List A} → xs ≡ ys → Perm xs ys
  perm_eq {xs} {ys} e = rw e (Perm.refl ys)

  -- a ++ (b ++ c) and b ++ (a ++ c)
  pub perm_swap : (a b c : List A) → Perm (a ++ (b ++ c)) (b ++ (a ++ c))
  perm_swap a b c = rw (← append_assoc a b c, ← append_assoc b a c) (Perm.append_right c (perm_append_comm a b))

  pub stay_go : (bs : List Bool) (xs : List A) → Perm (stay bs xs ++ go bs xs) xs
  stay_go [] xs = rw append-nil (Perm.refl xs)
  stay_go (b ∷ bs) [] = Perm.refl []
  stay_go (true ∷ bs) (x ∷ xs) = Perm.trans (perm_middle (stay bs xs) (go bs xs)) (Perm.cons x (stay_go bs xs))
  stay_go (false ∷ bs) (x ∷ xs) = Perm.cons x (stay_go bs xs)

  -- the entry at a place, and the others
  pub nth_first : (xs : List A) (i : ℕ) (x : A) → slice_get xs i ≡ Some x → Perm xs (x ∷ without xs i)
  nth_first [] i x e = absurd (none-some _ e)
  nth_first (y ∷ xs) zero x e = rw (same_Some _ _ e) (Perm.refl (x ∷ xs))
  nth_first (y ∷ xs) (suc i) x e = Perm.trans (Perm.cons y (nth_first xs i x e)) (Perm.swap x y (without xs i))

  pub set_first : (xs : List A) (i : ℕ) (x y : A) → slice_get xs i ≡ Some x → Perm (set xs i y) (y ∷ without xs i)
  set_first [] i x y e = absurd (none-some _ e)
  set_first (z ∷ xs) zero x y e = Perm.refl (y ∷ xs)
  set_first (z ∷ xs) (suc i) x y e = Perm.trans (Perm.cons z (set_first xs i x y e)) (Perm.swap y z (without xs i))

module _ {A B : Type 0} (f : A → List B) where
  flatᴰ : {xs ys : List A} → Permᴰ xs ys → Perm (flat_map f xs) (flat_map f ys)
  flatᴰ Permᴰ.nil = Perm.refl []
  flatᴰ (Permᴰ.cons {a = a} {b = b} e d) = rw e (Perm.append_left (f b) (flatᴰ d))
  flatᴰ (Permᴰ.swap {a = a} {b = b} {l = l} e g) = rw (← e, ← g) (perm_swap (f a) (f b) (flat_map f l))
  flatᴰ (Permᴰ.trans d₁ d₂) = Perm.trans (flatᴰ d₁) (flatᴰ d₂)

  pub joined_perm : {xs ys : List A} → Perm xs ys → Perm (flat_map f xs) (flat_map f ys)
  joined_perm {xs} {ys} p = ∥∥₁_elim p Perm-prop flatᴰ

  pub joined_stay_go : (bs : List Bool) (xs : List A) → Perm (flat_map f (stay bs xs) ++ flat_map f (go bs xs)) (flat_map f xs)
  joined_stay_go bs xs = rw (← flat_map-append f (stay bs xs) (go bs xs)) (joined_perm (stay_go bs xs))

-- Mapping keeps a permutation.
pub map_perm : {A B : Type 0} (f : A → B) {xs ys : List A} → Perm xs ys → Perm (map f xs) (map f ys)
map_perm f {xs} {ys} p = rw (← flat_map_single f xs, ← flat_map_single f ys) (joined_perm (λ x. f x ∷ []) p)

-- There are as many.
module _ {A : Type 0} where
  length_permᴰ : {xs ys : List A} → Permᴰ xs ys → length xs ≡ length ys
  length_permᴰ Permᴰ.nil = refl
  length_permᴰ (Permᴰ.cons e d) = ap suc (length_permᴰ d)
  length_permᴰ (Permᴰ.swap e g) = refl
  length_permᴰ (Permᴰ.trans d₁ d₂) = length_permᴰ d₁ ∙ length_permᴰ d₂

  pub length_perm : {xs ys : List A} → Perm xs ys → length xs ≡ length ys
  length_perm {xs} {ys} p = ∥∥₁_elim p (ℕ_set (length xs) (length ys)) length_permᴰ

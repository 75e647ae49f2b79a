-- A solver for permutations of lists put together: both sides are written as expressions over the same lists.
use Rattle.std.proofs.Common.{◌≡◌, ℕ, zero, suc, Bool, true, false, cond, leb, List, [], ◌∷◌, ◌++◌, get_or, sym, ap}
use mathlib.Core.List.Perm
use mathlib.Core.List.{Perm}
use Rattle.std.specs.List.{flat_map}
use Rattle.std.proofs.lemmas.List.{append_assoc, append-nil}
use Rattle.gist.proofs.Perms.{perm_eq, perm_swap}

infixr 40 ◌⊕◌
pub data Bag : Type 0 where
  ∅ : Bag
  v : ℕ → Bag
  ◌⊕◌ : Bag → Bag → Bag

abbrev pub place : ℕ → List ℕ → List ℕ
place i [] = i ∷ []
place i (j ∷ js) = cond (leb i j) (i ∷ (j ∷ js)) (j ∷ place i js)

abbrev pub sorted : Bag → List ℕ → List ℕ
sorted ∅ acc = acc
sorted (v i) acc = place i acc
sorted (x ⊕ y) acc = sorted x (sorted y acc)

module _ {A : Type 0} where
  abbrev pub den : List (List A) → Bag → List A
  den env ∅ = []
  den env (v i) = get_or env i []
  den env (x ⊕ y) = den env x ++ den env y

  abbrev list_of : List (List A) → List ℕ → List A
  list_of env is = flat_map (λ i. get_or env i []) is

  place_perm : (env : List (List A)) (i : ℕ) (is : List ℕ) → Perm (list_of env (place i is)) (get_or env i [] ++ list_of env is)
  place_perm env i [] = Perm.refl _
  place_perm env i (j ∷ js) = step (leb i j) (place_perm env i js)
    where
      step : (b : Bool) → Perm (list_of env (place i js)) (get_or env i [] ++ list_of env js) →
          Perm (list_of env (cond b (i ∷ (j ∷ js)) (j ∷ place i js))) (get_or env i [] ++ list_of env (j ∷ js))
      step true h = Perm.refl _
      step false h = Perm.trans (Perm.append_left (get_or env j []) h) (perm_swap (get_or env j []) (get_or env i []) (list_of env js))

  sorted_perm : (env : List (List A)) (x : Bag) (acc : List ℕ) → Perm (list_of env (sorted x acc)) (den env x ++ list_of env acc)
  sorted_perm env ∅ acc = Perm.refl _
  sorted_perm env (v i) acc = place_perm env i acc
  sorted_perm env (x ⊕ y) acc = Perm.trans (sorted_perm env x (sorted y acc))
      (Perm.trans (Perm.append_left (den env x) (sorted_perm env y acc)) (perm_eq (sym (append_assoc (den env x) (den env y) (list_of env acc)))))

  -- the same lists on both sides, in another order
  pub bag : (env : List (List A)) (x y : Bag) → sorted x [] ≡ sorted y [] → Perm (den env x) (den env y)
  bag env x y e = Perm.trans (Perm.symm (from x)) (Perm.trans (perm_eq (ap (list_of env) e)) (from y))
    where
      from : (z : Bag) → Perm (list_of env (sorted z [])) (den env z)
      from z = Perm.trans (sorted_perm env z []) (perm_eq (append-nil (den env z)))

  swap_first : (env : List (List A)) {a b : List A} → Perm a b → (x : Bag) → Perm (den (a ∷ env) x) (den (b ∷ env) x)
  swap_first env h ∅ = Perm.refl _
  swap_first env h (v zero) = h
  swap_first env h (v (suc i)) = Perm.refl _
  swap_first env h (x ⊕ y) = Perm.append (swap_first env h x) (swap_first env h y)

  -- list 0 is a on the left and b on the right, which are permutations
  pub bag_by : (env : List (List A)) {a b : List A} → Perm a b → (x y : Bag) → sorted x [] ≡ sorted y [] → Perm (den (a ∷ env) x) (den (b ∷ env) y)
  bag_by env {a} {b} h x y e = Perm.trans (bag (a ∷ env) x y e) (swap_first env h y)

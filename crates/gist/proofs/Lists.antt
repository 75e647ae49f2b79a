-- Lists: All, joined, kept-by, stay and go.
use Rattle.std.proofs.Common.{◌≡◌, ℕ, zero, suc, ◌+◌, ◌<◌, ◌≤◌, Bool, true, false, cond, ltb, List, [], ◌∷◌, ◌++◌, map, length, set, Some, filter, refl, ap, ◌∙◌, arith}
use Rattle.std.specs.List.{flat_map, AllByRecursion, slice_get}
use Rattle.std.proofs.lemmas.List.Elements.{filter-append}
use Rattle.node.specs.Nodes.{stay, go}
use Rattle.gist.specs.Insert.{least, least_from}

module _ {A : Type 0} where
  pub all_map : {P Q : A → Type 0} → ((a : A) → P a → Q a) → (xs : List A) → AllByRecursion P xs → AllByRecursion Q xs
  all_map f [] h = tt
  all_map f (x ∷ xs) h = (f x h.0, all_map f xs h.1)

  pub all_map₂ : {P Q R : A → Type 0} → ((a : A) → P a → Q a → R a) → (xs : List A) → AllByRecursion P xs → AllByRecursion Q xs → AllByRecursion R xs
  all_map₂ f [] h k = tt
  all_map₂ f (x ∷ xs) h k = (f x h.0 k.0, all_map₂ f xs h.1 k.1)

  pub all-++ : (P : A → Type 0) (xs ys : List A) → AllByRecursion P xs → AllByRecursion P ys → AllByRecursion P (xs ++ ys)
  all-++ P [] ys h k = k
  all-++ P (x ∷ xs) ys h k = (h.0, all-++ P xs ys h.1 k)

  pub all_left : (P : A → Type 0) (xs ys : List A) → AllByRecursion P (xs ++ ys) → AllByRecursion P xs
  all_left P [] ys h = tt
  all_left P (x ∷ xs) ys h = (h.0, all_left P xs ys h.1)

  pub all_right : (P : A → Type 0) (xs ys : List A) → AllByRecursion P (xs ++ ys) → AllByRecursion P ys
  all_right P [] ys h = h
  all_right P (x ∷ xs) ys h = all_right P xs ys h.1

  pub kept_none : (p : A → Bool) (xs : List A) → AllByRecursion (λ x. p x ≡ false) xs → filter p xs ≡ []
  kept_none p [] h = refl
  kept_none p (x ∷ xs) h = rw h.0 (kept_none p xs h.1)

module _ {A B : Type 0} where
  pub all_joined : (P : B → Type 0) (f : A → List B) (xs : List A) → AllByRecursion (λ x. AllByRecursion P (f x)) xs → AllByRecursion P (flat_map f xs)
  all_joined P f [] h = tt
  all_joined P f (x ∷ xs) h = all-++ P (f x) (flat_map f xs) h.0 (all_joined P f xs h.1)

  pub joined_all : (P : B → Type 0) (f : A → List B) (xs : List A) → AllByRecursion P (flat_map f xs) → AllByRecursion (λ x. AllByRecursion P (f x)) xs
  joined_all P f [] h = tt
  joined_all P f (x ∷ xs) h = (all_left P (f x) (flat_map f xs) h, joined_all P f xs (all_right P (f x) (flat_map f xs) h))

  -- joined and kept-by change places
  pub kept_joined : (m : B → Bool) (f : A → List B) (xs : List A) → filter m (flat_map f xs) ≡ flat_map (λ x. filter m (f x)) xs
  kept_joined m f [] = refl
  kept_joined m f (x ∷ xs) = filter-append m (f x) (flat_map f xs) ∙ ap (λ (r : List B). filter m (f x) ++ r) (kept_joined m f xs)

  pub joined_same : (f g : A → List B) (xs : List A) → AllByRecursion (λ x. f x ≡ g x) xs → flat_map f xs ≡ flat_map g xs
  joined_same f g [] h = refl
  joined_same f g (x ∷ xs) h = rw (h.0, joined_same f g xs h.1)

module _ {A : Type 0} where
  pub all_stay : (P : A → Type 0) (bs : List Bool) (xs : List A) → AllByRecursion P xs → AllByRecursion P (stay bs xs)
  all_stay P [] xs h = h
  all_stay P (b ∷ bs) [] h = tt
  all_stay P (true ∷ bs) (x ∷ xs) h = all_stay P bs xs h.1
  all_stay P (false ∷ bs) (x ∷ xs) h = (h.0, all_stay P bs xs h.1)

  pub all_go : (P : A → Type 0) (bs : List Bool) (xs : List A) → AllByRecursion P xs → AllByRecursion P (go bs xs)
  all_go P [] xs h = tt
  all_go P (b ∷ bs) [] h = tt
  all_go P (true ∷ bs) (x ∷ xs) h = (h.0, all_go P bs xs h.1)
  all_go P (false ∷ bs) (x ∷ xs) h = all_go P bs xs h.1

  pub all_set : (P : A → Type 0) (xs : List A) (i : ℕ) (x : A) → AllByRecursion P xs → P x → AllByRecursion P (set xs i x)
  all_set P [] i x h p = tt
  all_set P (y ∷ xs) zero x h p = (p, h.1)
  all_set P (y ∷ xs) (suc i) x h p = (h.0, all_set P xs i x h.1 p)

  pub all_nth : (P : A → Type 0) (xs : List A) (i : ℕ) (x : A) → AllByRecursion P xs → slice_get xs i ≡ Some x → P x
  all_nth P [] i x h e = let z : ◌≡◌ {A = ℕ} 0 1 = cc in absurd (omega arith)
  all_nth P (y ∷ xs) zero x h e = let s : y ≡ x = cc in rw (← s) h.0
  all_nth P (y ∷ xs) (suc i) x h e = all_nth P xs i x h.1 e

  pub nth_there : (xs : List A) (i : ℕ) → i < length xs → (x : A) × (slice_get xs i ≡ Some x)
  nth_there [] i l = absurd (omega arith)
  nth_there (x ∷ xs) zero l = (x, refl)
  nth_there (x ∷ xs) (suc i) l = nth_there xs i (omega arith)

pub all_map_to : {A B : Type 0} (P : B → Type 0) (f : A → B) (xs : List A) → AllByRecursion (λ a. P (f a)) xs → AllByRecursion P (map f xs)
all_map_to P f [] h = tt
all_map_to P f (x ∷ xs) h = (h.0, all_map_to P f xs h.1)

-- the least of some numbers stands within
pub least_from_within : (at best here : ℕ) (ns : List ℕ) → at < here → least_from at best here ns < here + length ns
least_from_within at best here [] l = omega arith
least_from_within at best here (n ∷ ns) l = step (ltb n best) (least_from_within here n (here + 1) ns (omega arith)) (least_from_within at best (here + 1) ns (omega arith))
  where
    step : (b : Bool) → least_from here n (here + 1) ns < here + 1 + length ns → least_from at best (here + 1) ns < here + 1 + length ns →
        cond b (least_from here n (here + 1) ns) (least_from at best (here + 1) ns) < here + suc (length ns)
    step true h k = omega arith
    step false h k = omega arith

pub least_within : (ns : List ℕ) → 1 ≤ length ns → least ns < length ns
least_within [] l = omega arith
least_within (n ∷ ns) l = omega (arith, least_from_within 0 n 1 ns (omega arith))

pub joined_map : {A B D : Type 0} (f : B → List D) (g : A → B) (xs : List A) → flat_map f (map g xs) ≡ flat_map (λ x. f (g x)) xs
joined_map f g [] = refl
joined_map {D = D} f g (x ∷ xs) = ap (λ (r : List D). f (g x) ++ r) (joined_map f g xs)

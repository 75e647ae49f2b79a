-- A list with elements written over it, one after the other: the order of writes to different places does not matter, and
-- a write to a place that is written again later does not either.
use Rattle.std.proofs.Common.{◌≡◌, ℕ, ◌≢◌, ◌⊎◌, List, [], ◌∷◌, ◌++◌, map, length, set, Some, None, Option, sym, refl, ap, ◌∙◌, inl, inr, ⊎_elim, length-set}
use mathlib.Core.HLevel.{collapsible→set, ⊥_prop}
use mathlib.Core.Logic.{∥∥₁_elim}
use mathlib.Core.List.Perm
use mathlib.Core.List.{is_set, Mem, Memᴰ, Nodup, Nodup-cons, Perm, Permᴰ}
use native.Mathlib.Nat.{ℕ_set}
use Rattle.std.specs.List.{AllByRecursion}
use Rattle.std.proofs.lemmas.List.{set-set, set_comm}
use Rattle.std.proofs.lemmas.Bool.{cases_eq}
use Rattle.page_store.specs.Pages.{Pages}
use Rattle.std.proofs.lemmas.Option.{none-some}
use Rattle.std.proofs.lemmas.Option.{same_Some}
use Rattle.gist.proofs.Perms.{map_perm}
pub use Rattle.tree_pages.specs.Laid.{edited as sets}
use Rattle.tree_pages.proofs.Once.{first_apart}

option_set : {A : Type 0} → IsSet A → IsSet (Option A)
option_set {A} s = collapsible→set f c
  where
    f : (x y : Option A) → x ≡ y → x ≡ y
    f None None p = refl
    f None (Some b) p = p
    f (Some a) None p = p
    f (Some a) (Some b) p = ap Some (same_Some _ _ p)

    c : (x y : Option A) (p q : x ≡ y) → f x y p ≡ f x y q
    c None None p q = refl
    c None (Some b) p q = absurd (none-some _ p)
    c (Some a) None p q = absurd (none-some _ (sym p))
    c (Some a) (Some b) p q = ap (λ (e : a ≡ b). ap Some e) (s a b (same_Some _ _ p) (same_Some _ _ q))

pub pages_set : IsSet Pages
pages_set = is_set (option_set (is_set ℕ_set))

abbrev pub places : {A : Type 0} → List (ℕ × A) → List ℕ
places ws = map (λ w. w.0) ws

-- Whether a number stands in a list.
mem_or_not : (p : ℕ) (xs : List ℕ) → Memᴰ p xs ⊎ (Mem p xs → ⊥)
mem_or_not p [] = inr (λ m. ∥∥₁_elim m ⊥_prop (λ d. elim d [ ]))
mem_or_not p (x ∷ xs) = by (cases_eq p x) (mem_or_not p xs)
  where
    by : (p ≡ x) ⊎ (p ≢ x) → Memᴰ p xs ⊎ (Mem p xs → ⊥) → Memᴰ p (x ∷ xs) ⊎ (Mem p (x ∷ xs) → ⊥)
    by (inl e) r = inl (Memᴰ.head e)
    by (inr n) (inl m) = inl (Memᴰ.tail m)
    by (inr n) (inr m) = inr (λ k. ∥∥₁_elim k ⊥_prop (neither n m))
      where
        neither : p ≢ x → (Mem p xs → ⊥) → Memᴰ p (x ∷ xs) → ⊥
        neither n m (Memᴰ.head e) = n e
        neither n m (Memᴰ.tail d) = m ∣ d ∣₁

pub mem_found : (p : ℕ) (xs : List ℕ) → Mem p xs → Memᴰ p xs
mem_found p xs m = ⊎_elim (λ (d : Memᴰ p xs). d) (λ n. absurd (n m)) (mem_or_not p xs)

module _ {A : Type 0} where
  pub length_sets : (s : List A) (ws : List (ℕ × A)) → length (sets s ws) ≡ length s
  length_sets s [] = refl
  length_sets s (w ∷ ws) = length-set (sets s ws) w.0 w.1 ∙ length_sets s ws

  pub sets-++ : (s : List A) (xs ys : List (ℕ × A)) → sets s (xs ++ ys) ≡ sets (sets s ys) xs
  sets-++ s [] ys = refl
  sets-++ s (x ∷ xs) ys = ap (λ (t : List A). set t x.0 x.1) (sets-++ s xs ys)

  -- What was at a place that is written at the end does not matter.
  set_under : (s : List A) (p : ℕ) (x y : A) (ws : List (ℕ × A)) → set (sets (set s p x) ws) p y ≡ set (sets s ws) p y
  set_under s p x y [] = set-set s p x y
  set_under s p x y (w ∷ ws) = by (cases_eq w.0 p) (set_under s p x y ws)
    where
      by : (w.0 ≡ p) ⊎ (w.0 ≢ p) → set (sets (set s p x) ws) p y ≡ set (sets s ws) p y → set (set (sets (set s p x) ws) w.0 w.1) p y ≡ set (set (sets s ws) w.0 w.1) p y
      by (inl e) ih =
          ap (λ (q : ℕ). set (set (sets (set s p x) ws) q w.1) p y) e ∙ set-set (sets (set s p x) ws) p w.1 y ∙ ih
          ∙ sym (set-set (sets s ws) p w.1 y) ∙ ap (λ (q : ℕ). set (set (sets s ws) q w.1) p y) (sym e)
      by (inr n) ih =
          set_comm (sets (set s p x) ws) w.0 p w.1 y n ∙ ap (λ (t : List A). set t w.0 w.1) ih ∙ sym (set_comm (sets s ws) w.0 p w.1 y n)

  pub sets_absorb : (s : List A) (p : ℕ) (x : A) (ws : List (ℕ × A)) → Memᴰ p (places ws) → sets (set s p x) ws ≡ sets s ws
  sets_absorb s p x [] m = elim m [ ]
  sets_absorb s p x (w ∷ ws) (Memᴰ.head e) =
      ap (λ (q : ℕ). set (sets (set s p x) ws) q w.1) (sym e) ∙ set_under s p x w.1 ws ∙ ap (λ (q : ℕ). set (sets s ws) q w.1) e
  sets_absorb s p x (w ∷ ws) (Memᴰ.tail m) = ap (λ (t : List A). set t w.0 w.1) (sets_absorb s p x ws m)

  -- Writes below others to the same places.
  pub sets_absorb_all : (s : List A) (xs : List (ℕ × A)) (gone kept : List (ℕ × A)) → AllByRecursion (λ p. Mem p (places xs)) (places gone) → sets s (xs ++ (gone ++ kept)) ≡ sets s (xs ++ kept)
  sets_absorb_all s xs [] kept a = refl
  sets_absorb_all s xs (g ∷ gone) kept a =
      sets-++ s xs (g ∷ (gone ++ kept)) ∙ sets_absorb (sets s (gone ++ kept)) g.0 g.1 xs (mem_found g.0 (places xs) a.0)
      ∙ sym (sets-++ s xs (gone ++ kept)) ∙ sets_absorb_all s xs gone kept a.1

module _ {A : Type 0} (Aset : IsSet (List A)) where
  sets_permᴰ : (s : List A) {xs ys : List (ℕ × A)} → Permᴰ xs ys → Nodup (places xs) → sets s xs ≡ sets s ys
  sets_permᴰ s Permᴰ.nil n = refl
  sets_permᴰ s (Permᴰ.cons {a = a} {b = b} {l₁ = xs} {l₂ = ys} e d) n =
      ap (λ (t : List A). set t a.0 a.1) (sets_permᴰ s d (Nodup-cons.0 n).1) ∙ ap (λ (w : ℕ × A). set (sets s ys) w.0 w.1) e
  sets_permᴰ s (Permᴰ.swap {a = a} {b = b} {b' = d} {l = l} e g) n =
      set_comm (sets s l) b.0 a.0 b.1 a.1 (λ x. (first_apart a.0 (b.0 ∷ places l) n).0 (sym x))
      ∙ ap (λ (w : ℕ × A). set (set (sets s l) w.0 w.1) b.0 b.1) e ∙ ap (λ (w : ℕ × A). set (set (sets s l) d.0 d.1) w.0 w.1) g
  sets_permᴰ s (Permᴰ.trans d₁ d₂) n = sets_permᴰ s d₁ n ∙ sets_permᴰ s d₂ (Perm.nodup (map_perm (λ w. w.0) ∣ d₁ ∣₁) n)

  pub sets_perm : (s : List A) {xs ys : List (ℕ × A)} → Perm xs ys → Nodup (places xs) → sets s xs ≡ sets s ys
  sets_perm s {xs} {ys} p n = ∥∥₁_elim p (Aset (sets s xs) (sets s ys)) (λ d. sets_permᴰ s d n)

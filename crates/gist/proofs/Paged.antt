-- The pages of a tree, and of two trees that differ.
use Rattle.std.proofs.Common.{◌≡◌, ℕ, zero, suc, List, [], ◌∷◌, ◌++◌, refl, ap, ◌∙◌}
use mathlib.Core.List.Perm
use mathlib.Core.List.{Perm}
use Rattle.std.specs.List.{flat_map}
use Rattle.key_class.specs.Class.{Growing}
use Rattle.node.specs.Nodes.{Entry}
use Rattle.gist.specs.Tree.{Link, Gist, empty, root, Written, pages_at, pages, written_at, written}
use Rattle.gist.specs.Theorems.{numbers, Differ}
use Rattle.gist.proofs.Differing.{numbers-++, differ_numbers}

-- What both sides begin with may go.
pub perm_cancel : {A : Type 0} (cs : List A) {xs ys : List A} → Perm (cs ++ xs) (cs ++ ys) → Perm xs ys
perm_cancel [] p = p
perm_cancel (c ∷ cs) p = perm_cancel cs (Perm.cons_inv p)

numbers_joined : {A : Type 0} (f : A → Written) (g : A → List ℕ) → ((a : A) → numbers (f a) ≡ g a) → (xs : List A) → numbers (flat_map f xs) ≡ flat_map g xs
numbers_joined f g e [] = refl
numbers_joined f g e (x ∷ xs) =
    numbers-++ (f x) (flat_map f xs) ∙ ap (λ (r : List ℕ). r ++ numbers (flat_map f xs)) (e x) ∙ ap (λ (r : List ℕ). g x ++ r) (numbers_joined f g e xs)

module _ {K : Type 0} (G : Growing K) where
  pages_written_at : (h : ℕ) (e : Entry K (Link K h)) → numbers (written_at G h e) ≡ pages_at h e
  pages_written_at zero e = refl
  pages_written_at (suc h) e =
      ap {B = List ℕ} (λ r. e.link.page ∷ r) (numbers_joined (written_at G h) (pages_at h) (pages_written_at h) e.link.entries)

  pub pages_written : (w : Gist K) → numbers (written G w) ≡ pages w
  pages_written empty = refl
  pages_written (root h t) =
      ap {B = List ℕ} (λ r. t.page ∷ r) (numbers_joined (written_at G h) (pages_at h) (pages_written_at h) t.entries)

  pub pages_differ : (w z : Gist K) {old new : List ℕ} → Differ (written G w) (written G z) old new → Perm (pages z ++ old) (pages w ++ new)
  pages_differ w z d = rw (pages_written z, pages_written w) at (differ_numbers d)

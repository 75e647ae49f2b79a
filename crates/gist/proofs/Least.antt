-- A tree within the rules has at least so many pages.
use Rattle.std.proofs.Common.{ℕ, zero, suc, ◌*◌, ◌≤◌, List, [], ◌∷◌, length, mul-le-mul_right, arith, length-append}
use Rattle.std.specs.List.{flat_map, AllByRecursion}
use Rattle.key_class.specs.Class.{Growing}
use Rattle.node.specs.Nodes.{Entry}
use Rattle.gist.specs.Tree.{Link, empty, root, pages_at}
use Rattle.gist.specs.Rules.{Ruled, least_below}
use Rattle.gist.specs.Theorems.{LeastPages}
use Rattle.gist.proofs.Lists.{all_map}

long : {A B : Type 0} (f : A → List B) (least : ℕ) (xs : List A) → AllByRecursion (λ x. least ≤ length (f x)) xs → length xs * least ≤ length (flat_map f xs)
long f least [] h = omega arith
long f least (x ∷ xs) h = omega (arith, long f least xs h.1, length-append (f x) (flat_map f xs), h.0)

module _ {K : Type 0} (G : Growing K) where
  least_at : (h : ℕ) (e : Entry K (Link K h)) → Ruled G h e → least_below h ≤ length (pages_at h e)
  least_at zero e r = omega arith
  least_at (suc h) e r = omega (arith, long (pages_at h) (least_below h) e.link.entries (all_map (least_at h) e.link.entries r.2), mul-le-mul_right (least_below h) r.1.0)

  pub least_of : LeastPages G
  least_of empty r = omega arith
  least_of (root zero t) r = omega arith
  least_of (root (suc h) t) r = omega (arith, long (pages_at (suc h)) (least_below (suc h)) t.entries (all_map (least_at (suc h)) t.entries r.2), mul-le-mul_right (least_below (suc h)) r.1.0)

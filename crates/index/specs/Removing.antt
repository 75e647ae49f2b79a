-- What a removal answers, and what it leaves.
use Rattle.std.specs.Prelude.{◌≡◌, ℕ, Some, None, Ok, Err, Result}
use Rattle.page_store.specs.Pages.{Pages}
use Rattle.key_class.specs.Class.{Class}
use Rattle.gist.specs.Tree.{Gist}
use Rattle.gist.specs.Remove.{removed}
use Rattle.removal.specs.declared.refusal.RemoveRefusal.{RemoveRefusal}
use Rattle.removal.specs.declared.refusal.RemoveRefusal.TheVariants.{NoSuchRecord}
use Rattle.index.specs.Standing.{last_number, StandsFor}
use Rattle.index.specs.declared.shape.Shape.{Shape}

-- The tree is that which the definition gives, and the last number is the same.
pub record Removed {K Q : Type 0} (C : Class K Q) (before t : Pages) (w : Gist K) (f g : Shape) (k : K) (n : ℕ) : Type 0 where
  pub tree : Gist K
  pub is : removed C k n w ≡ Some tree
  pub last : last_number g ≡ last_number f
  pub stands : StandsFor C.growing before t g tree

-- Refused exactly where there is no such record, and then index and pages are as they were.
abbrev pub Answered : {K Q : Type 0} → Class K Q → Pages → Pages → Pages → Gist K → Shape → Shape → K → ℕ → Result Unit RemoveRefusal → Type 0
Answered C before s t w f g k n (Ok u) = Removed C before t w f g k n
Answered C before s t w f g k n (Err e) = (e ≡ NoSuchRecord) × (removed C k n w ≡ None) × (t ≡ s) × (g ≡ f)

-- For every tree that the index stands for.
pub record Removes {K Q : Type 0} (C : Class K Q) (s t : Pages) (f g : Shape) (k : K) (n : ℕ) (r : Result Unit RemoveRefusal) : Type 0 where
  pub says : (before : Pages) (w : Gist K) → StandsFor C.growing before s f w → Answered C before s t w f g k n r

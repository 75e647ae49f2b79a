-- What an insert answers, and what it leaves.
use Rattle.std.specs.Prelude.{◌≡◌, ℕ, ◌+◌, List, length, Some, None, Ok, Err, Result}
use Rattle.page_store.specs.Pages.{Pages, free_pages}
use Rattle.key_class.specs.Class.{Class}
use Rattle.gist.specs.Tree.{Gist}
use Rattle.gist.specs.Insert.{way, needed, inserted}
use Rattle.tree_pages.specs.Laid.{Fresh}
use Rattle.insertion.specs.Refusals.{insert_refusal}
use Rattle.insertion.specs.declared.refusal.InsertRefusal.{InsertRefusal}
use Rattle.index.specs.Standing.{last_number, StandsFor}
use Rattle.index.specs.declared.shape.Shape.{Shape}

-- The number is the next one, and the tree that which the definition gives on the pages taken. Which those are is open; they
-- were free, none twice, as many as are needed, and stand in the order of the takes.
pub record Inserted {K Q : Type 0} (C : Class K Q) (before s t : Pages) (w : Gist K) (f g : Shape) (k : K) (n : ℕ) : Type 0 where
  pub number : n ≡ last_number f + 1
  pub last : last_number g ≡ n
  pub taken : List ℕ
  pub many : length taken ≡ needed (way C.growing k w)
  pub fresh : Fresh s taken
  pub stands : StandsFor C.growing before t g (inserted C k n taken w)

-- Refused exactly as the questions say, and then index and pages are as they were.
abbrev pub Answered : {K Q : Type 0} → Class K Q → Pages → Pages → Pages → Gist K → Shape → Shape → K → Result ℕ InsertRefusal → Type 0
Answered C before s t w f g k (Ok n) = (insert_refusal (last_number f) (way C.growing k w) (free_pages s) ≡ None) × Inserted C before s t w f g k n
Answered C before s t w f g k (Err e) = (insert_refusal (last_number f) (way C.growing k w) (free_pages s) ≡ Some e) × (t ≡ s) × (g ≡ f)

-- For every tree that the index stands for.
pub record Inserts {K Q : Type 0} (C : Class K Q) (s t : Pages) (f g : Shape) (k : K) (r : Result ℕ InsertRefusal) : Type 0 where
  pub says : (before : Pages) (w : Gist K) → StandsFor C.growing before s f w → Answered C before s t w f g k r

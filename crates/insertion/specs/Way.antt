-- What is known of the way of a key above a node.
use Rattle.std.specs.Prelude.{◌≡◌, ℕ, ◌+◌, ◌≤◌, true, List, ◌∷◌, length, Result}
use Rattle.std.specs.Result.{result_err}
use Rattle.page_store.specs.Pages.{Pages, free_pages}
use Rattle.gist.specs.Insert.{Step, splits}
use Rattle.insertion.specs.Refusals.{asked}
use Rattle.insertion.specs.declared.above.Above.{Above}
use Rattle.insertion.specs.declared.refusal.InsertRefusal.{InsertRefusal}

-- steps is the way above a node of this level, in a tree of at most seven levels.
pub record Knows (a : Above) (level : ℕ) (steps : List Step) : Type 0 where
  pub run : a.run ≡ splits steps
  pub levels : a.levels ≡ level + length steps
  pub low : a.levels ≤ 7

-- The questions before a full leaf is split.
pub record FullLeaf (a : Above) (s : Pages) (r : Result Unit InsertRefusal) : Type 0 where
  pub says : (steps : List Step) (leaf : Step) → Knows a 1 steps → leaf.full ≡ true → result_err r ≡ asked (leaf ∷ steps) (free_pages s)

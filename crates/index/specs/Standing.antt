-- The tree that an index stands for.
use Rattle.std.specs.Prelude.{◌≡◌, ℕ, ◌≤◌, List, map, length}
use Rattle.std.specs.List.{AllByRecursion}
use Rattle.page_store.specs.Pages.{Pages, free_pages}
use Rattle.key_class.specs.Class.{Growing}
use Rattle.gist.specs.Tree.{Gist, records}
use Rattle.gist.specs.Rules.{Between}
use Rattle.tree_pages.specs.Laid.{start_of, OnPages}
use Rattle.index.specs.declared.shape.Shape.{Shape}

-- The last number that an insert answered; 0 before the first.
abbrev pub last_number : Shape → ℕ
last_number f = f.last

abbrev pub record_numbers : {K : Type 0} → Gist K → List ℕ
record_numbers w = map (λ r. r.link) (records w)

-- An index with this shape on the pages s stands for the tree w, over the pages held before: the tree lies on the pages,
-- the shape tells where it starts, and its record numbers are among those given.
pub record StandsFor {K : Type 0} (G : Growing K) (before s : Pages) (f : Shape) (w : Gist K) : Type 0 where
  pub on : OnPages G before s w
  pub starts : f.root ≡ start_of w
  pub numbered : AllByRecursion (Between 1 (last_number f)) (record_numbers w)
  pub counted : f.records ≡ length (records w)
  pub given : length (records w) ≤ last_number f
  pub spare : f.spare ≡ free_pages before

-- There is a tree that an index with this shape stands for.
abbrev pub HasTree : {K : Type 0} → Growing K → Pages → Shape → Type 0
HasTree {K} G s f = (before : Pages) × ((w : Gist K) × StandsFor G before s f w)

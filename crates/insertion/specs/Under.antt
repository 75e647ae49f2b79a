-- What an insert under a node does to the pages.
use Rattle.std.specs.Prelude.{◌≡◌, ℕ, suc, ◌+◌, true, List, ◌∷◌, ◌++◌, map, length, is_some, Some, None, Ok, Err, Result, option_to_list}
use Rattle.std.specs.List.{AllByRecursion}
use Rattle.page_store.specs.Pages.{Pages, at, free_pages}
use Rattle.key_class.specs.Class.{Class}
use Rattle.node.specs.Nodes.{Entry}
use Rattle.gist.specs.Tree.{Tree, entry_for}
use Rattle.gist.specs.Insert.{Step, way_under, insert_under}
use Rattle.gist.specs.Writes.{writes_under}
use Rattle.tree_pages.specs.Laid.{on_page, Lies, over, Fresh}
use Rattle.insertion.specs.Refusals.{asked}
use Rattle.insertion.specs.Way.{Knows}
use Rattle.insertion.specs.declared.above.Above.{Above}
use Rattle.insertion.specs.declared.change.Change.{Change}
use Rattle.insertion.specs.declared.refusal.InsertRefusal.{InsertRefusal}

-- The entries that a node on page p and the node split off from it have in their parent.
abbrev pub entries_told : {K : Type 0} → ℕ → Change K → List (Entry K ℕ)
entries_told p c = record { key = c.key; link = p } ∷ option_to_list c.split_off

-- The pages taken, in the order of the takes, and what came of the node: it is what the definition gives with these pages,
-- and any more would be left over. t has just the pages that the definition writes, over s.
pub record Inserted {K Q : Type 0} (C : Class K Q) (s t : Pages) (k : K) (n h : ℕ) (u : Tree K h) (c : Change K) : Type 0 where
  pub taken : List ℕ
  pub node : Tree K h
  pub split_off : List (Tree K h)
  pub is : (more : List ℕ) → insert_under C k n h (taken ++ more) u ≡ record { node = node; split_off = split_off; unused = more }
  pub pages : (more : List ℕ) → t ≡ over s (writes_under C k n h (taken ++ more) u)
  pub fresh : Fresh s taken
  pub held : AllByRecursion (λ p. is_some (at t p) ≡ true) taken
  pub left : free_pages t + length taken ≡ free_pages s
  pub told : entries_told u.page c ≡ on_page (suc h) (map (entry_for C.growing h k) (node ∷ split_off))

-- Refused exactly as the questions say, and then nothing is changed.
abbrev pub Outcome : {K Q : Type 0} → Class K Q → Pages → Pages → K → ℕ → (h : ℕ) → Tree K h → List Step → Result (Change K) InsertRefusal → Type 0
Outcome C s t k n h u steps (Ok c) = (asked steps (free_pages s) ≡ None) × Inserted C s t k n h u c
Outcome C s t k n h u steps (Err e) = (asked steps (free_pages s) ≡ Some e) × (t ≡ s)

-- For every tree that lies on the pages, and the way above it.
pub record InsertsUnder {K Q : Type 0} (C : Class K Q) (s t : Pages) (p level : ℕ) (a : Above) (k : K) (n : ℕ) (r : Result (Change K) InsertRefusal) : Type 0 where
  pub says : (h : ℕ) (u : Tree K h) (steps : List Step) → Lies C.growing s h u → u.page ≡ p → level ≡ suc h → Knows a level steps
      → Outcome C s t k n h u (way_under C.growing k h u ++ steps) r

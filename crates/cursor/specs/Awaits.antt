-- What a cursor has still to give.
use Rattle.std.specs.Prelude.{◌≡◌, ℕ, suc, ◌<◌, List, [], ◌∷◌, ◌++◌, drop, Some, None, Option}
use Rattle.std.specs.List.{flat_map}
use Rattle.page_store.specs.Pages.{Pages}
use Rattle.key_class.specs.Class.{Class}
use Rattle.node.specs.Nodes.{Entry}
use Rattle.node.specs.InMemory.{words_in}
use Rattle.node.specs.declared.memory.Node.{Node}
use Rattle.gist.specs.Tree.{Tree, Gist, written}
use Rattle.gist.specs.Search.{found_at, found}
use Rattle.gist.specs.Rules.{PageRules}
use Rattle.gist.specs.Theorems.{StandsOn}
use Rattle.tree_pages.specs.OneNode.{loaded}
use Rattle.tree_pages.specs.Laid.{start_of, Lies}
use Rattle.tree_pages.specs.declared.root.Root.{Root}
use Rattle.cursor.specs.Ways.{ahead, steps_ahead}
use Rattle.cursor.specs.declared.place.Place.{Place}
use Rattle.cursor.specs.declared.found.Found.{Found}
use Rattle.cursor.specs.declared.cursor.Cursor.{Cursor}

-- A node of height h lies on the page of place p, and a search finds l from that place of it on.
pub record Gives {K Q : Type 0} (C : Class K Q) (s : Pages) (q : Q) (h : ℕ) (p : Place) (l : List (Entry K ℕ)) : Type 0 where
  pub tree : Tree K h
  pub lies : Lies C.growing s h tree
  pub on : tree.page ≡ p.page
  pub gives : l ≡ flat_map (found_at C q h) (drop p.next tree.entries)

-- Places, the first on a page of height h and each of the next one higher, give todo.
abbrev pub Pending : {K Q : Type 0} → Class K Q → Pages → Q → ℕ → List Place → List (Entry K ℕ) → Type 0
Pending C s q h [] todo = todo ≡ []
Pending {K} C s q h (p ∷ ps) todo =
    (l : List (Entry K ℕ)) × (m : List (Entry K ℕ)) × Gives C s q h p l × Pending C s q (suc h) ps m × (todo ≡ l ++ m)

-- A node that is held is that of the page in hand.
abbrev pub Holds : Pages → List Place → Option Node → Type 0
Holds s ps None = Unit {0}
Holds s [] (Some n) = Unit {0}
Holds s (p ∷ ps) (Some n) = Some (words_in n) ≡ loaded s p.page

-- Over the pages s, and asked q, the cursor x has the records todo still to give.
pub record Awaits {K Q : Type 0} (C : Class K Q) (s : Pages) (q : Q) (x : Cursor) (todo : List (Entry K ℕ)) : Type 0 where
  pub pending : Pending C s q x.way.height (ahead x.way) todo
  pub holds : Holds s (ahead x.way) x.node

-- Over any tree that keeps the rules of pages and starts at r, x has all to give that a search finds.
pub record Starts {K Q : Type 0} (C : Class K Q) (r : Option Root) (x : Cursor) : Type 0 where
  pub says : (s : Pages) (q : Q) (w : Gist K) → PageRules C.growing w → StandsOn s (written C.growing w)
      → start_of w ≡ r → Awaits C s q x (found C q w)

abbrev pub entry : {K : Type 0} → Found K → Entry K ℕ
entry f = record { key = f.key; link = f.number }

-- The first of todo is given, and y has the rest still to give; or there was none.
abbrev pub Given : {K Q : Type 0} → Class K Q → Pages → Q → Cursor → List (Entry K ℕ) → Option (Found K) → Type 0
Given C s q y todo None = (todo ≡ []) × Awaits C s q y []
Given {K} C s q y todo (Some f) = (rest : List (Entry K ℕ)) × (todo ≡ entry f ∷ rest) × Awaits C s q y rest

-- Whatever x had still to give, it gave the first of it in r, and is now y.
pub record Nexts {K Q : Type 0} (C : Class K Q) (s : Pages) (q : Q) (x y : Cursor) (r : Option (Found K)) : Type 0 where
  pub says : (todo : List (Entry K ℕ)) → Awaits C s q x todo → Given C s q y todo r

-- The most steps that a cursor can still take, whatever is on the pages.
abbrev pub left_to_do : Cursor → ℕ
left_to_do x = steps_ahead x.way

-- With each record there is less to do, and after none nothing: so none comes for ever.
abbrev pub Falls : {K : Type 0} → Cursor → Cursor → Option (Found K) → Type 0
Falls x y None = left_to_do y ≡ 0
Falls x y (Some f) = left_to_do y < left_to_do x

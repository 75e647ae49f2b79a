-- What an insert into a tree does to the pages.
use Rattle.std.specs.Prelude.{◌≡◌, ℕ, List, [], ◌∷◌, length, Some, None, Ok, Err, Option, Result}
use Rattle.page_store.specs.Pages.{Pages, free_pages}
use Rattle.page_store.specs.Calls.{Took}
use Rattle.key_class.specs.Class.{Growing, Class}
use Rattle.node.specs.Nodes.{Entry, node_words}
use Rattle.gist.specs.Tree.{Gist}
use Rattle.gist.specs.Insert.{way, needed, inserted}
use Rattle.tree_pages.specs.Laid.{start_of, Fresh, OnPages}
use Rattle.insertion.specs.Refusals.{asked}
use Rattle.insertion.specs.declared.refusal.InsertRefusal.{InsertRefusal}
use Rattle.insertion.specs.declared.refusal.InsertRefusal.TheVariants.{TooFewPages}
use Rattle.tree_pages.specs.declared.root.Root.{Root}

-- A leaf with one record, or one page too few.
abbrev pub Plants : {K : Type 0} → Growing K → Pages → Pages → Entry K ℕ → Result Root InsertRefusal → Type 0
Plants G s t e (Ok r) = Took s t (node_words G 1 (e ∷ [])) r.page × (r.levels ≡ 1)
Plants G s t e (Err x) = (x ≡ TooFewPages 1 0) × (free_pages s ≡ 0) × (t ≡ s)

-- A node with two entries.
abbrev pub Raises : {K : Type 0} → Growing K → Pages → Pages → ℕ → Entry K ℕ → Entry K ℕ → Option Root → Type 0
Raises G s t levels d e (Some r) = Took s t (node_words G levels (d ∷ e ∷ [])) r.page × (r.levels ≡ levels)
Raises G s t levels d e None = free_pages s ≡ 0

-- z is the tree that the definition gives, on the pages taken: they were free, none twice, as many as are needed, and stand
-- in the order of the takes.
pub record Done {K Q : Type 0} (C : Class K Q) (before s t : Pages) (w : Gist K) (k : K) (n : ℕ) (r : Root) : Type 0 where
  pub taken : List ℕ
  pub many : length taken ≡ needed (way C.growing k w)
  pub fresh : Fresh s taken
  pub on : OnPages C.growing before t (inserted C k n taken w)
  pub starts : Some r ≡ start_of (inserted C k n taken w)

abbrev pub Into : {K Q : Type 0} → Class K Q → Pages → Pages → Pages → Gist K → K → ℕ → Result Root InsertRefusal → Type 0
Into C before s t w k n (Ok r) = (asked (way C.growing k w) (free_pages s) ≡ None) × Done C before s t w k n r
Into C before s t w k n (Err e) = (asked (way C.growing k w) (free_pages s) ≡ Some e) × (t ≡ s)

-- For every tree, over any pages that were held before.
pub record InsertsInto {K Q : Type 0} (C : Class K Q) (s t : Pages) (start : Option Root) (k : K) (n : ℕ) (r : Result Root InsertRefusal) : Type 0 where
  pub says : (before : Pages) (w : Gist K) → OnPages C.growing before s w → start ≡ start_of w → Into C before s t w k n r

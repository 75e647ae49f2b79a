-- What a removal from a tree does to the pages.
use Rattle.std.specs.Prelude.{◌≡◌, ℕ, suc, ◌+◌, ◌≤◌, true, length, is_some, Some, None, Ok, Err, Option, Result}
use mathlib.Core.List.{Nodup}
use Rattle.page_store.specs.Pages.{Pages, at}
use Rattle.key_class.specs.Class.{Growing, Class}
use Rattle.node.specs.InMemory.{Stands}
use Rattle.node.specs.declared.memory.Node.{Node}
use Rattle.gist.specs.Tree.{Tree, Gist, root, pages, written}
use Rattle.gist.specs.Remove.{lowered, removed}
use Rattle.gist.specs.Rules.{root_least, PageRules}
use Rattle.gist.specs.Theorems.{StandsOn}
use Rattle.gist.specs.Writes.{root_edits, remove_edits}
use Rattle.tree_pages.specs.Laid.{on_page, start_of, edited}
use Rattle.tree_pages.specs.declared.root.Root.{Root}
use Rattle.removal.specs.declared.refusal.RemoveRefusal.{RemoveRefusal}
use Rattle.removal.specs.declared.refusal.RemoveRefusal.TheVariants.{NoSuchRecord}

-- The root is written or given back, and the tree starts where the definition says.
abbrev pub Settled : {K : Type 0} → Growing K → Pages → Pages → (h : ℕ) → Tree K h → Result (Option Root) RemoveRefusal → Type 0
Settled G s t h u (Ok r) = (t ≡ edited s (root_edits G h u u.entries)) × (r ≡ start_of (lowered h u u.entries))
Settled G s t h u (Err e) = ⊥

-- For every root u that stands in n, and lacks at most one entry.
pub record Settles {K : Type 0} (G : Growing K) (s t : Pages) (start : Root) (n : Node) (r : Result (Option Root) RemoveRefusal) : Type 0 where
  pub says : (h : ℕ) (u : Tree K h) → Some start ≡ start_of (root h u) → Stands G n (suc h) (on_page h u.entries) → root_least h ≤ length u.entries + 1
      → is_some (at s start.page) ≡ true → Settled G s t h u r

-- z is the tree without the record, and the pages have just the edits that the definition has; or there is no such record,
-- and nothing is changed.
abbrev pub From : {K Q : Type 0} → Class K Q → Pages → Pages → Gist K → K → ℕ → Result (Option Root) RemoveRefusal → Type 0
From {K} C s t w k n (Ok r) = (z : Gist K) × (removed C k n w ≡ Some z) × (t ≡ edited s (remove_edits C k n w)) × (r ≡ start_of z)
From C s t w k n (Err e) = (e ≡ NoSuchRecord) × (removed C k n w ≡ None) × (t ≡ s)

-- For every tree on the pages, none of them twice.
pub record RemovesFrom {K Q : Type 0} (C : Class K Q) (s t : Pages) (start : Option Root) (k : K) (n : ℕ) (r : Result (Option Root) RemoveRefusal) : Type 0 where
  pub says : (w : Gist K) → PageRules C.growing w → StandsOn s (written C.growing w) → Nodup (pages w) → start ≡ start_of w → From C s t w k n r

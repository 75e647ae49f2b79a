-- What a removal under a node does to the pages below it.
use Rattle.std.specs.Prelude.{◌≡◌, ℕ, suc, ◌≤◌, length, Some, None, Ok, Err, Result}
use mathlib.Core.List.{Nodup}
use Rattle.page_store.specs.Pages.{Pages}
use Rattle.key_class.specs.Class.{Growing, Class}
use Rattle.node.specs.InMemory.{Stands}
use Rattle.node.specs.declared.memory.Node.{Node}
use Rattle.gist.specs.Tree.{Tree, pages_of}
use Rattle.gist.specs.Remove.{remove_under}
use Rattle.gist.specs.Writes.{edits_under}
use Rattle.gist.specs.Rules.{root_least}
use Rattle.tree_pages.specs.Laid.{on_page, Lies, edited}
use Rattle.removal.specs.declared.refusal.RemoveRefusal.{RemoveRefusal}
use Rattle.removal.specs.declared.refusal.RemoveRefusal.TheVariants.{NoSuchRecord}

-- A node on pages, none of them twice, with as many entries as a root has at least.
pub record Sound {K : Type 0} (G : Growing K) (s : Pages) (h : ℕ) (u : Tree K h) : Type 0 where
  pub lies : Lies G s h u
  pub least : root_least h ≤ length u.entries
  pub once : Nodup (pages_of h u)

-- x is what the definition makes of the node; its page is as it was, and those below have the edits.
pub record Removed {K Q : Type 0} (C : Class K Q) (s t : Pages) (k : K) (n h : ℕ) (u : Tree K h) (x : Node) : Type 0 where
  pub node : Tree K h
  pub is : remove_under C k n h u ≡ Some node
  pub stands : Stands C.growing x (suc h) (on_page h node.entries)
  pub pages : t ≡ edited s (edits_under C k n h u)

-- Refused just where there is no such record below, and then nothing is changed.
abbrev pub Outcome : {K Q : Type 0} → Class K Q → Pages → Pages → K → ℕ → (h : ℕ) → Tree K h → Result Node RemoveRefusal → Type 0
Outcome C s t k n h u (Ok x) = Removed C s t k n h u x
Outcome C s t k n h u (Err e) = (e ≡ NoSuchRecord) × (remove_under C k n h u ≡ None) × (t ≡ s)

pub record RemovesUnder {K Q : Type 0} (C : Class K Q) (s t : Pages) (p level : ℕ) (k : K) (n : ℕ) (r : Result Node RemoveRefusal) : Type 0 where
  pub says : (h : ℕ) (u : Tree K h) → Sound C.growing s h u → u.page ≡ p → level ≡ suc h → Outcome C s t k n h u r

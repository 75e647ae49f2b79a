-- A tree on the pages of a store.
use Rattle.std.specs.Prelude.{◌≡◌, ℕ, suc, ◌<◌, List, [], ◌∷◌, map, length, Some, None, Option, slice_set}
use mathlib.Core.List.{Nodup}
use Rattle.std.specs.List.{AllByRecursion}
use Rattle.page_store.specs.Pages.{Pages, at}
use Rattle.key_class.specs.Class.{Growing}
use Rattle.node.specs.Nodes.{Entry}
use Rattle.gist.specs.Tree.{Link, Tree, Gist, empty, root, Written, link_number, pages, written, written_of}
use Rattle.gist.specs.Rules.{Between, Ruled, PageRules}
use Rattle.gist.specs.Theorems.{StandsOn}
use Rattle.tree_pages.specs.declared.root.Root.{Root}

-- The entries of a node as they stand on its page.
abbrev pub on_page : {K : Type 0} → (h : ℕ) → List (Entry K (Link K h)) → List (Entry K ℕ)
on_page {K} h es = map (λ e. record { key = e.key; link = link_number K h e.link }) es

-- Where a tree starts: at its root's page, with so many levels; nowhere where it is empty.
abbrev pub start_of : {K : Type 0} → Gist K → Option Root
start_of empty = None
start_of (root h t) = Some (record { page = t.page; levels = suc h })

-- A node of 1 to 12 entries, ruled below, with all its pages on s.
pub record Lies {K : Type 0} (G : Growing K) (s : Pages) (h : ℕ) (t : Tree K h) : Type 0 where
  pub size : Between 1 12 (length t.entries)
  pub below : AllByRecursion (Ruled G h) t.entries
  pub words : StandsOn s (written_of G h t)

-- Pages with others written over them; the first of the list is written last.
abbrev pub over : Pages → Written → Pages
over s [] = s
over s (w ∷ ws) = slice_set (over s ws) w.0 (Some w.1)

-- The same for elements of any kind: an edit of a page has its new words, or none where it is given back.
abbrev pub edited : {A : Type 0} → List A → List (ℕ × A) → List A
edited s [] = s
edited s (w ∷ ws) = slice_set (edited s ws) w.0 w.1

abbrev pub Free : Pages → ℕ → Type 0
Free s p = (p < length s) × (at s p ≡ None)

-- Free pages, none twice.
pub record Fresh (s : Pages) (fs : List ℕ) : Type 0 where
  pub free : AllByRecursion (Free s) fs
  pub once : Nodup fs

-- The tree keeps the rules, and lies on pages that were free before, none twice; s has these pages, and all others are as
-- they were before.
pub record OnPages {K : Type 0} (G : Growing K) (before s : Pages) (w : Gist K) : Type 0 where
  pub rules : PageRules G w
  pub fresh : Fresh before (pages w)
  pub laid : s ≡ over before (written G w)

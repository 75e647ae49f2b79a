-- The rules of the pages.
use Rattle.std.specs.Prelude.{◌≡◌, ℕ, zero, suc, ◌+◌, ◌*◌, ◌≤◌, length, Some}
use Rattle.std.specs.List.{AllByRecursion}
use Rattle.key_class.specs.Class.{Growing}
use Rattle.key_class.specs.Joined.{joined}
use Rattle.node.specs.Nodes.{Entry, keys}
use Rattle.gist.specs.Tree.{Link, Gist, empty, root}

abbrev pub Between : ℕ → ℕ → ℕ → Type 0
Between low high n = (low ≤ n) × (n ≤ high)

-- Of an entry and all below it: its key is the union of its child's keys, joined from the first to the last, and its
-- child has 4 to 12 entries.
abbrev pub Ruled : {K : Type 0} → Growing K → (h : ℕ) → Entry K (Link K h) → Type 0
Ruled G zero e = Unit {0}
Ruled G (suc h) e = (joined G (keys e.link.entries) ≡ Some e.key) × Between 4 12 (length e.link.entries) × AllByRecursion (Ruled G h) e.link.entries

-- A root that is a leaf has 1 to 12 entries, a root above 2 to 12.
abbrev pub root_least : ℕ → ℕ
root_least zero = 1
root_least (suc h) = 2

-- At most seven levels.
abbrev pub PageRules : {K : Type 0} → Growing K → Gist K → Type 0
PageRules G empty = Unit {0}
PageRules G (root h t) = (h ≤ 6) × Between (root_least h) 12 (length t.entries) × AllByRecursion (Ruled G h) t.entries

-- The least pages below an entry of a node of height h, and of a tree with so many levels.
abbrev pub least_below : ℕ → ℕ
least_below zero = 0
least_below (suc h) = 1 + 4 * least_below h

abbrev pub least_pages : ℕ → ℕ
least_pages zero = 0
least_pages (suc zero) = 1
least_pages (suc (suc h)) = 1 + 2 * least_below (suc h)

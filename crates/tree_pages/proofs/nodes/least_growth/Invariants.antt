use Rattle.std.proofs.Common.{◌≡◌, ℕ, List, drop}
use Rattle.node.specs.Nodes.{Entry}
use Rattle.node.specs.InMemory.{Stands}
use Rattle.gist.specs.Insert.{least, least_from}
use Rattle.tree_pages.proofs.Least.{growths}
use Rattle.tree_pages.proofs.nodes.least_growth.Given as goal

-- What is left gives the least of all.
abbrev pub invariant-loop-i : goal.invariant-loop-i
invariant-loop-i g l =
    (level : ℕ) (es : List (Entry g.row.K.Denot ℕ)) → Stands g.K.Key.growing l.node level es
    → least_from l.best l.least l.i (drop l.i (growths g.K.Key.growing l.key es)) ≡ least (growths g.K.Key.growing l.key es)

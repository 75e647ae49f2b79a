use Rattle.std.proofs.Common.{ℕ, List, ◌++◌, take}
use Rattle.node.specs.Nodes.{Entry}
use Rattle.node.specs.InMemory.{Stands}
use Rattle.node.proofs.memory.Node.append.Given as goal

-- The first entries of the other are behind the others.
abbrev pub invariant-loop-row : goal.invariant-loop-row
invariant-loop-row g l =
    (level deep : ℕ) (es fs : List (Entry g.row.K.Denot ℕ)) → Stands g.K.Key.growing l.initial.self level es → Stands g.K.Key.growing l.other deep fs
    → Stands g.K.Key.growing l.self level (es ++ take l.row-index fs)

use Rattle.std.proofs.Common.{◌≡◌, ℕ, List, drop, Some}
use Rattle.key_class.specs.Joined.{joined, joined_onto}
use Rattle.node.specs.Nodes.{Entry, keys}
use Rattle.node.specs.InMemory.{Stands}
use Rattle.node.proofs.memory.Node.union.Given as goal

-- What is left, joined onto the union so far, is the union of all.
abbrev pub invariant-loop-i : goal.invariant-loop-i
invariant-loop-i g l =
    (level : ℕ) (es : List (Entry g.row.K.Denot ℕ)) → Stands g.K.Key.growing l.self level es
    → Some (joined_onto g.K.Key.growing l.union (drop l.i (keys es))) ≡ joined g.K.Key.growing (keys es)

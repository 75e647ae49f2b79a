use Rattle.std.proofs.Common.{ℕ, ◌≤◌, List, length}
use Rattle.std.specs.Slice.Iter.{iter_rest}
use Rattle.node.specs.Nodes.{Entry, keys}
use Rattle.node.specs.InMemory.{words_in, Pooled}
use Rattle.node.proofs.Pools.{Dealt}
use Rattle.node.proofs.memory.Pool.split.Given as goal

-- The entries that are not left are dealt.
abbrev pub invariant-loop-row : goal.invariant-loop-row
invariant-loop-row g l =
    (es : List (Entry g.row.K.Denot ℕ)) → Pooled g.K.Key.growing l.self es → 13 ≤ length es → length es ≤ 15
    → Dealt g.K.Key.growing l.level (g.K.KeyClass.class.split (keys es)) es (words_in l.stay) (words_in l.go) (iter_rest l.row-iterator.a) (iter_rest l.row-iterator.b)

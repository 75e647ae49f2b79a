use Rattle.std.proofs.Common.{◌≡◌, ◌+◌, ◌++◌, take}
use Rattle.node.specs.Reading.{rows}
use Rattle.node.specs.InMemory.{words_in, rows_in}
use Rattle.node.proofs.memory.Pool.push_all.Given as goal

-- The first rows of the node are behind the others.
abbrev pub invariant-loop-row : goal.invariant-loop-row
invariant-loop-row g l = record {
  many : l.self.count ≡ l.initial.self.count + l.row-index;
  rowed : rows_in l.self ≡ rows_in l.initial.self ++ take l.row-index (rows (words_in l.node));
}

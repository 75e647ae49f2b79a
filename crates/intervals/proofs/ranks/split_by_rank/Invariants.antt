use Rattle.std.proofs.Common.{◌≡◌, nat_le, ◌++◌, map, length, take, drop}
use Rattle.intervals.specs.Ranks.{ranks_from, by_rank}
use Rattle.intervals.proofs.Marking.{lows}
use Rattle.intervals.proofs.ranks.split_by_rank.Given as goal

abbrev pub invariant-loop-i : goal.invariant-loop-i
invariant-loop-i l = record {
  long : length l.mark-items ≡ length l.words;
  so_far : take l.i l.mark-items ++ map (nat_le l.half) (ranks_from (take l.i (lows l.words)) (drop l.i (lows l.words))) ≡ by_rank (lows l.words);
}

use Rattle.std.proofs.Common.{◌≡◌, ◌+◌, ◌≤◌, count_by, take, drop, nat_lt, nat_le, slice_index}
use Rattle.intervals.proofs.ranks.rank.Given as goal

abbrev pub invariant-loop-earlier : goal.invariant-loop-earlier
invariant-loop-earlier l = record {
  few : l.rank ≤ l.earlier-index;
  counted : l.rank ≡ count_by (λ w. nat_le (slice_index w 0) l.low) (take l.earlier-index (take l.i l.words));
}

abbrev pub invariant-loop-later : goal.invariant-loop-later
invariant-loop-later l = record {
  few : l.rank ≤ l.i + l.later-index;
  counted : l.rank ≡ count_by (λ w. nat_le (slice_index w 0) l.low) (take l.i l.words) + count_by (λ w. nat_lt (slice_index w 0) l.low) (take l.later-index (drop (l.i + 1) l.words));
}

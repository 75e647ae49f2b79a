use Rattle.std.proofs.Common.{ℕ, ◌/◌, nat_le, [], false, map, length, replicate, sym, ap, ◌∙◌, arith, length-set, length-take-le}
use Rattle.intervals.specs.Ranks.{ranks_from}
use Rattle.intervals.proofs.Marking.{lows, length_lows, rank_lows, marks_more, all_marked}
use Rattle.intervals.proofs.ranks.split_by_rank.Goals as goal

pub loop-i-init : goal.loop-i-init
loop-i-init c = record {
  long = length-take-le (length c.args.words.now) (replicate 15 false) c.requires;
  so_far = ap (λ (n : ℕ). map (nat_le (n / 2)) (ranks_from [] (lows c.args.words.now))) (sym (length_lows c.args.words.now));
}

pub loop-i-preserved : goal.loop-i-preserved
loop-i-preserved c =
    let ws = c.args.words.now in
    let i = c.loop-i.i in
    let l = length_lows ws in
    record {
      long = length-set _ _ _ ∙ c.loop-i.invariant.long;
      so_far = marks_more (length ws / 2) c.loop-i.mark-items (lows ws) i c.rank.result (omega arith) (omega arith) (c.rank.ensures ∙ rank_lows ws i (omega arith)) ∙ c.loop-i.invariant.so_far;
    }

pub returns : goal.returns
returns c =
    let l = length_lows c.args.words.now in
    all_marked (length c.args.words.now / 2) c.loop-i.mark-items _ (lows c.args.words.now) (length c.args.words.now) c.loop-i.i c.loop-i.invariant.long l (omega arith) c.loop-i.invariant.so_far

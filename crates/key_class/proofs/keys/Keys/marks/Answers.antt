use Rattle.std.proofs.Common.{inl, inr, arith}
use Rattle.std.proofs.lemmas.List.{set-get_or}
use Rattle.key_class.proofs.Turns.{marked_begin, marked_seed, marked_other, marked_end, some_left}
use Rattle.key_class.proofs.keys.Keys.marks.Goals as goal
use Rattle.key_class.proofs.keys.Keys.marks.Goals.{then-p-seeds+then-p-seeds-2, else-p-seeds, else-p-seeds-via-then-p-seeds+else-p-seeds-2, else-p-seeds-via-else-p-seeds}

pub loop-p-init : goal.loop-p-init
loop-p-init g c =
    rw (c.new-groups.ensures, c.len-n.ensures)
    (marked_begin g.K.Key.growing c.worst_pair-seeds.result c.args.self.now c.worst_pair-seeds.ensures.places
    _ (omega arith) (omega arith) (grind arith) (cc) (cc) (omega arith) c.worst_pair-seeds.ensures.value)

pub place-requires-clause-some : goal.place-requires-clause-some
place-requires-clause-some g c =
    some_left g.K.Key.growing c.worst_pair-seeds.result c.args.self.now c.worst_pair-seeds.ensures.places
    c.loop-p.p c.loop-p.groups c.loop-p.mark-items (omega arith) c.if-p-seeds.true c.if-p-seeds-2.true c.loop-p.invariant

pub loop-p-preserved : goal.loop-p-preserved
loop-p-preserved g c =
    let G = g.K.Key.growing in
    let ks = c.args.self.now in
    let s = c.worst_pair-seeds.result in
    let w = c.worst_pair-seeds.ensures.places in
    let p = c.loop-p.p in
    let marks = c.loop-p.mark-items in
    elim c.if-p-seeds.branch [
      | then-p-seeds+then-p-seeds-2 b ↦
          rw (b.groups-is, b.mark-items-is) (marked_other G s ks w p c.loop-p.groups b.place.new.self marks b.at-then-p-seeds-2.result b.place.result
          b.at-then-p-seeds-2.ensures b.if-p-seeds.true b.if-p-seeds-2.true b.place.ensures.goes b.place.ensures.groups c.loop-p.invariant)
      | else-p-seeds b ↦ elim b.else-p-seeds.branch [
        | else-p-seeds-via-then-p-seeds+else-p-seeds-2 d ↦
            rw (b.groups-is, b.mark-items-is, d.mark-items-is, set-get_or) (marked_seed G s ks w p c.loop-p.groups marks (omega arith) (inr d.if-p-seeds-2.false) c.loop-p.invariant)
        | else-p-seeds-via-else-p-seeds d ↦
            rw (b.groups-is, b.mark-items-is, d.mark-items-is, set-get_or) (marked_seed G s ks w p c.loop-p.groups marks (omega arith) (inl d.if-p-seeds.false) c.loop-p.invariant)
      ]
    ]

pub returns : goal.returns
returns g c =
    marked_end g.K.Key.growing c.worst_pair-seeds.result c.args.self.now c.worst_pair-seeds.ensures.places
    c.loop-p.p c.loop-p.groups c.loop-p.mark-items _ (omega arith) (omega arith) c.loop-p.invariant

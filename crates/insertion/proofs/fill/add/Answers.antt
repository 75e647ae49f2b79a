use Rattle.std.proofs.Common.{◌≡◌, [], ◌∷◌, ◌++◌, length, sym, ◌∙◌, arith}
use Rattle.std.proofs.lemmas.List.{length_push}
use Rattle.std.proofs.lemmas.Bool.{ltb-true, ltb-false, le-leb, lt-ltb}
use Rattle.node.proofs.Places.{level_is}
use Rattle.insertion.proofs.Filling.{saved, added}
use Rattle.insertion.proofs.fill.add.Goals as goal

pub returns-then-push : goal.returns-then-push
returns-then-push g c = record {
  says = λ level es st room.
      let e = c.args.entry.now in
      let pushed = rw c.if-push.true at (c.push.ensures level es st) in
      rw c.unsplit.ensures
      (saved level (es ++ e ∷ []) pushed.1 (omega (arith, length_push es e, ltb-true (length es) 12 (sym pushed.0))) room.held c.in_ok-key.ensures);
}

pub returns : goal.returns
returns g c = record {
  says = λ level es st room.
      let e = c.args.entry.now in
      let full = rw c.if-push.false at (c.push.ensures level es st) in
      let twelve : length es ≡ 12 = omega (arith, ltb-false (length es) 12 (sym full.0), room.few) in
      let more : length (es ++ e ∷ []) ≡ 13 = omega (arith, length_push es e) in
      let all = c.push_all.ensures level [] es c.new-pool.ensures full.1 in
      let one = c.push-2.ensures es (rw (all.0 ∙ le-leb _ 15 (omega arith)) at all.1) in
      let pooled = rw (one.0 ∙ lt-ltb _ 15 (omega arith)) at one.1 in
      let parts = rw (c.level.ensures ∙ level_is g.K.Key.growing level es c.push.new.self.words full.1) at (c.split.ensures (es ++ e ∷ []) pooled (omega arith) (omega arith)) in
      added g.met.K.KeyClass.lawful level (es ++ e ∷ []) more room.held (room.spare (omega arith)) parts.0 parts.1 c.share_out.result c.share_out.ensures;
}

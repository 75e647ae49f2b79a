use Rattle.std.proofs.Common.{◌∙◌}
use Rattle.key_class.proofs.Turns.{after_more}
use Rattle.key_class.proofs.keys.Keys.worst_after.Goals as goal

pub loop-j-preserved : goal.loop-j-preserved
loop-j-preserved g c =
    after_more g.K.Key.growing c.at-a.result c.args.i c.loop-j.j c.args.self.now c.at.result c.loop-j.worst _ _ c.at.ensures c.larger_growth.ensures c.worse-worst.ensures
    ∙ c.loop-j.invariant

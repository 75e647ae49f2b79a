use Rattle.std.proofs.Common.{sym, subst, ◌∙◌, arith}
use Rattle.std.proofs.lemmas.List.{at_drop_all}
use Rattle.key_class.specs.Quadratic.{worst_from}
use Rattle.key_class.proofs.Sharing.{Within, seeds_within}
use Rattle.key_class.proofs.Turns.{from_more}
use Rattle.key_class.proofs.keys.Keys.worst_pair.Goals as goal

pub loop-i-preserved : goal.loop-i-preserved
loop-i-preserved g c = from_more g.K.Key.growing c.loop-i.i c.args.self.now c.loop-i.worst _ (omega arith) c.worst_after-worst.ensures ∙ c.loop-i.invariant

pub returns : goal.returns
returns g c =
    let G = g.K.Key.growing in
    let ks = c.args.self.now in
    let e = sym (at_drop_all (λ l. worst_from G c.loop-i.i l c.loop-i.worst) ks c.loop-i.i (omega arith)) ∙ c.loop-i.invariant in
    let w = subst (Within _) (sym e) (seeds_within G ks c.requires) in
    record { value = e; places = (w.ordered, w.below) }

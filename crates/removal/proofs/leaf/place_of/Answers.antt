use Rattle.std.proofs.Common.{◌≡◌, ◌∙◌, true, false, rules, arith}
use Rattle.std.proofs.lemmas.Iterator.{first_from_Range}
use Rattle.std.proofs.lemmas.Grind.{common_steps}
use Rattle.node.proofs.Places.{count_is}
use Rattle.gist.specs.Remove.{is_record}
use Rattle.removal.proofs.Placing.{passes, found}
use Rattle.removal.proofs.leaf.place_of.Goals as goal

pub returns : goal.returns
returns g c = λ level es is.
    let G = g.K.Key.growing in
    let test = is_record G c.args.entry.now.key c.args.entry.now.link in
    found test es c.find.result c.count.result (c.count.ensures ∙ count_is G level es _ is)
    (first_from_Range _ _ _ c.find.result (λ i. passes test es i ≡ true) (λ i. passes test es i ≡ false) c.find.ensures.ran (λ x q k. search rules) (λ x q k. (search rules, grind (arith, common_steps))))

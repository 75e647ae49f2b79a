use Rattle.std.proofs.Common.{sym, ap, ◌∙◌, arith}
use Rattle.std.specs.Option.{option_map}
use Rattle.std.proofs.lemmas.Grind.{common_steps}
use Rattle.node.proofs.Places.{none_at, key_at}
use Rattle.node.proofs.memory.Node.key.Goals as goal

pub returns-in_err-row : goal.returns-in_err-row
returns-in_err-row g c = λ level es is.
    c.from_residual.ensures ∙ ap (option_map (λ e. e.key)) (sym (none_at g.met.K.Key.coded level es c.args.self.now.words is c.args.i c.in_err-row.ensures))

-- Any words that are equal to the key's are read as they are.
pub returns : goal.returns
returns g c = λ level es is.
    c.unsqueeze.ensures ∙ ap g.K.Key.growing.unsqueeze (grind (arith, common_steps))
    ∙ key_at g.met.K.Key.coded level es c.args.self.now.words is c.args.i c.in_ok-row.field-0.now c.in_ok-row.ensures

use Rattle.std.proofs.Common.{sym, ap, ◌∙◌}
use Rattle.std.specs.Option.{option_map}
use Rattle.node.proofs.Places.{none_at, link_at}
use Rattle.node.proofs.memory.Node.link.Goals as goal

pub returns-in_err-link : goal.returns-in_err-link
returns-in_err-link g c = λ level es is.
    c.from_residual.ensures ∙ ap (option_map (λ e. e.link)) (sym (none_at g.met.K.Key.coded level es c.args.self.now.words is c.args.i c.in_err-link.ensures))

pub returns : goal.returns
returns g c = λ level es is. link_at g.met.K.Key.coded level es c.args.self.now.words is c.args.i c.in_ok-link.field-0.now c.in_ok-link.ensures

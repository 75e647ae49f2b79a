use Rattle.std.proofs.lemmas.Result.{err_from_is_err_and}
use Rattle.removal.proofs.Rooting.{none_there, refused, settled}
use Rattle.removal.proofs.whole.remove.Goals as goal

pub returns-in_default : goal.returns-in_default
returns-in_default g c = rw c.in_default.is none_there

pub returns-in_err-node : goal.returns-in_err-node
returns-in_err-node g c =
    let p = err_from_is_err_and c.from_residual.result c.from_residual.ensures.1 in
    rw (p.1, p.2, c.in-Some.is)
    (refused c.in_err-node.ensures)

pub returns : goal.returns
returns g c = rw c.in-Some.is (settled g.met.K.KeyClass.tied c.in_ok-node.ensures c.settle.ensures)

use Rattle.std.proofs.Common.{refl}
use Rattle.removal.proofs.Sharing.{saved}
use Rattle.removal.proofs.paged.PagedNode.save.Goals as goal

pub returns-in_err-key : goal.returns-in_err-key
returns-in_err-key g c = saved c.from_residual.ensures c.in_err-key.ensures

pub returns : goal.returns
returns g c = saved refl c.in_ok-key.ensures

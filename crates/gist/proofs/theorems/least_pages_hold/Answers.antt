use Rattle.std.proofs.Common.{refl}
use Rattle.gist.proofs.Least.{least_of}
use Rattle.gist.proofs.theorems.least_pages_hold.Goals as goal

pub returns : goal.returns
returns g c = record {
  bound = least_of g.K.KeyClass.class.growing;
  table = record { one = refl; two = refl; three = refl; four = refl; five = refl; six = refl; seven = refl };
}

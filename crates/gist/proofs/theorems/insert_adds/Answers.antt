use Rattle.gist.proofs.Inserting.{adds}
use Rattle.gist.proofs.theorems.insert_adds.Goals as goal

pub returns : goal.returns
returns g c = adds g.K.KeyClass.class g.met.K.KeyClass.lawful

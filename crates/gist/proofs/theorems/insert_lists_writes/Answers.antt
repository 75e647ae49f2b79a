use Rattle.gist.proofs.Inserting.{writes_adding}
use Rattle.gist.proofs.theorems.insert_lists_writes.Goals as goal

pub returns : goal.returns
returns g c = writes_adding g.K.KeyClass.class g.met.K.KeyClass.lawful

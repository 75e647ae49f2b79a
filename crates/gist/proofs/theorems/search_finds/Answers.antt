use Rattle.gist.proofs.Searching.{finds}
use Rattle.gist.proofs.theorems.search_finds.Goals as goal

pub returns : goal.returns
returns g c = finds g.K.KeyClass.class g.met.K.KeyClass.lawful

use Rattle.cursor.proofs.Steps.{here_is}
use Rattle.cursor.proofs.way.Way.here.Goals as goal

pub returns : goal.returns
returns c = here_is c.args.self.now _ (cc)

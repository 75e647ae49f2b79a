use Rattle.cursor.proofs.Turns.{starts}
use Rattle.cursor.proofs.cursor.Cursor.start.Goals as goal

pub returns : goal.returns
returns g c = starts g.K.KeyClass.class c.args.root c.start.result c.start.ensures

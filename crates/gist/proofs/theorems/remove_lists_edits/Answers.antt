use Rattle.std.proofs.Common.{sym, subst}
use Rattle.key_class.specs.Class.{Coded}
use Rattle.gist.proofs.Removing.{removes_editing}
use Rattle.gist.proofs.theorems.remove_lists_edits.Goals as goal

pub returns : goal.returns
returns g c = removes_editing g.K.KeyClass.class (subst Coded (sym g.met.K.KeyClass.tied) g.met.K.Key.coded) g.met.K.KeyClass.lawful

use Rattle.std.proofs.Common.{sym, subst}
use Rattle.key_class.specs.Class.{Coded}
use Rattle.gist.proofs.Fixing.{words_fix}
use Rattle.gist.proofs.theorems.words_fix_the_tree.Goals as goal

pub returns : goal.returns
returns g c = words_fix (subst Coded (sym g.met.K.KeyClass.tied) g.met.K.Key.coded)

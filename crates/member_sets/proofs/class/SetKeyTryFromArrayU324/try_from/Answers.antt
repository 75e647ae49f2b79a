use Rattle.std.proofs.Common.{sym}
use Rattle.member_sets.specs.Reading.{read_made}
use Rattle.member_sets.proofs.class.SetKeyTryFromArrayU324.try_from.Goals as goal

pub returns : goal.returns
returns c = sym (read_made _ _ c.from-members.ensures)

use Rattle.removal.proofs.Sharing.{splits, not_stayed, not_gone, shared}
use Rattle.removal.proofs.mend.share_out.Goals as goal

pub returns-in_err-save : goal.returns-in_err-save
returns-in_err-save g c =
    not_stayed (splits g.met.K.KeyClass.lawful c.new-pool.ensures c.push_all.ensures c.push_all-2.ensures c.level.ensures c.split.result c.split.ensures) c.in_err-save.ensures

pub returns-in_err-save-2 : goal.returns-in_err-save-2
returns-in_err-save-2 g c =
    not_gone (splits g.met.K.KeyClass.lawful c.new-pool.ensures c.push_all.ensures c.push_all-2.ensures c.level.ensures c.split.result c.split.ensures) c.in_ok-save.ensures c.in_err-save-2.ensures

pub returns : goal.returns
returns g c =
    shared (splits g.met.K.KeyClass.lawful c.new-pool.ensures c.push_all.ensures c.push_all-2.ensures c.level.ensures c.split.result c.split.ensures) c.in_ok-save.ensures c.in_ok-save-2.ensures

use Rattle.std.proofs.lemmas.Result.{err_from_is_err_and}
use Rattle.insertion.proofs.Rooting.{planted, under_refused, kept_root, grown_root}
use Rattle.insertion.proofs.whole.insert.Goals as goal

pub returns-in_default : goal.returns-in_default
returns-in_default g c = rw c.in_default.is (planted g.met.K.KeyClass.lawful c.plant.result (rw (← g.met.K.KeyClass.tied) at c.plant.ensures))

pub returns-in_err-key : goal.returns-in_err-key
returns-in_err-key g c =
    let e = err_from_is_err_and c.from_residual.result c.from_residual.ensures.1 in
    rw (e.1, e.2, c.in-Some.is) (under_refused c.in-Some.root g.met.K.KeyClass.lawful c.in_err-key.ensures)

pub returns-in_default-split_off : goal.returns-in_default-split_off
returns-in_default-split_off g c =
    rw c.in-Some.is (kept_root c.in-Some.root g.met.K.KeyClass.lawful c.in_ok-key.field-0 c.in_ok-key.ensures c.in_default-split_off.is)

pub returns : goal.returns
returns g c =
    rw (c.in-Some.is, c.ok_or.ensures.value)
    (grown_root c.in-Some.root g.met.K.KeyClass.lawful (g.S.PageStore.meaning c.insert_under.new.store) c.in_ok-key.field-0 c.in-Some-split_off.new c.raise.result
    c.saturating_add-levels.result c.saturating_add-levels.ensures c.in_ok-key.ensures c.in-Some-split_off.is (rw (← g.met.K.KeyClass.tied) at c.raise.ensures))

use Rattle.page_store.proofs.Calling.{gives_ok, gives_refused}
use Rattle.removal.proofs.Sharing.{not_saved, not_given, merged}
use Rattle.removal.proofs.mend.merge.Goals as goal

pub returns-in_err-joined : goal.returns-in_err-joined
returns-in_err-joined g c = not_saved c.append.ensures c.in_err-joined.ensures

pub returns-in_err-ok : goal.returns-in_err-ok
returns-in_err-ok g c = not_given c.append.ensures c.in_ok-joined.ensures (gives_refused c.give_back.result c.in_err-ok.ensures.variant c.give_back.ensures)

pub returns : goal.returns
returns g c = merged c.append.ensures c.in_ok-joined.ensures (gives_ok c.give_back.result c.in_ok-ok.ensures.variant c.give_back.ensures)

use Rattle.std.proofs.Common.{is_some, ap}
use Rattle.std.proofs.lemmas.Bool.{both_ways}
use Rattle.page_store.proofs.Calling.{took_words, took_written, write_ok, write_refused}
use Rattle.page_store.proofs.compound.take_with.Goals as goal

pub returns-in_err-write : goal.returns-in_err-write
returns-in_err-write g c =
    absurd (both_ways _ (write_refused c.in_err-write.ensures).free (ap is_some (took_words c.in_ok-page.ensures)))

pub returns : goal.returns
returns g c = took_written c.in_ok-page.ensures (write_ok c.in_ok-write.ensures)

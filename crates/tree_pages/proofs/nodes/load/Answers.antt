use Rattle.std.proofs.Common.{sym, ap, ◌∙◌}
use Rattle.std.specs.Option.{option_map}
use Rattle.page_store.proofs.Calling.{reads_ok, reads_refused}
use Rattle.page_store.proofs.Counting.{none_from}
use Rattle.node.specs.InMemory.{words_in}
use Rattle.tree_pages.specs.OneNode.{adopted}
use Rattle.tree_pages.proofs.nodes.load.Goals as goal

pub returns-in_err-ok : goal.returns-in_err-ok
returns-in_err-ok g c =
    let k = reads_refused c.read.result c.in_err-ok.ensures.variant c.read.ensures in
    record { kept = k.pages; node = ap (option_map words_in) c.from_residual.ensures ∙ sym (ap adopted (none_from _ k.free)) }

pub returns : goal.returns
returns g c =
    let k = reads_ok c.read.result c.in_ok-ok.ensures.variant c.read.ensures in
    record { kept = k.pages; node = c.adopt.ensures ∙ sym (ap adopted k.words) }

use Rattle.std.proofs.Common.{Some, ap, ◌∙◌}
use Rattle.std.proofs.lemmas.Bool.{both_ways}
use Rattle.page_store.specs.Calls.{changed}
use Rattle.page_store.proofs.Calling.{writes_ok, writes_refused}
use Rattle.tree_pages.proofs.nodes.save.Goals as goal

pub returns-in_err-ok : goal.returns-in_err-ok
returns-in_err-ok g c =
    let s = g.S.PageStore.meaning c.args.store.now in
    let k = writes_refused c.write.result c.in_err-ok.ensures.variant c.write.ensures in
    record {
      pages = c.write.ensures.pages ∙ ap (λ w. changed s c.args.page (Some w)) c.words.ensures;
      union = λ level es held is. absurd (both_ways _ k.free held);
      not_held = λ none. c.from_residual.ensures;
    }

pub returns : goal.returns
returns g c =
    let s = g.S.PageStore.meaning c.args.store.now in
    let k = writes_ok c.write.result c.in_ok-ok.ensures.variant c.write.ensures in
    record {
      pages = c.write.ensures.pages ∙ ap (λ w. changed s c.args.page (Some w)) c.words.ensures;
      union = λ level es held is. c.union.ensures level es is;
      not_held = λ none. absurd (both_ways _ none k.held);
    }

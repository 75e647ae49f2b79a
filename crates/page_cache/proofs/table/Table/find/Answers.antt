use Rattle.std.proofs.Common.{◌≡◌, sym, ap, ◌∙◌, rules, tests}
use Rattle.std.proofs.lemmas.Iterator.{YieldsList-from_slice}
use Rattle.std.proofs.lemmas.Iterator.Search.{position_from_yields_List}
use Rattle.page_cache.specs.Slots.{keeps}
use Rattle.page_cache.specs.Policy.{slot_of}
use Rattle.page_cache.specs.Cached.{places, index_of}
use Rattle.page_cache.proofs.table.Table.find.Goals as goal
use Rattle.page_cache.proofs.table.Table.find.Goals.{After-position}

first : (c : After-position) → c.position.result ≡ slot_of (places c.args.self.now) c.args.page
first c = position_from_yields_List (keeps c.args.page) _ _ c.position.result c.position.ensures.ran (YieldsList-from_slice c.args.self.now.slots cc) (λ x b q k. search (rules, tests))

pub returns-in_err-index : goal.returns-in_err-index
returns-in_err-index c = ap index_of c.from_residual.ensures ∙ sym c.in_err-index.was ∙ first (goal.at.returns-in_err-index c).After-position

pub returns : goal.returns
returns c = sym c.in_ok-index.was ∙ first (goal.at.returns c).After-position

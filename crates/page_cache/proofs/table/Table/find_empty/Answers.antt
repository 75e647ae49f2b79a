use Rattle.std.proofs.Common.{◌≡◌, sym, ap, ◌∙◌, rules, tests, is_none}
use Rattle.std.proofs.lemmas.Iterator.{YieldsList-from_slice}
use Rattle.std.proofs.lemmas.Iterator.Search.{position_from_yields_List}
use Rattle.page_cache.specs.Policy.{empty_slot}
use Rattle.page_cache.specs.Cached.{places, index_of}
use Rattle.page_cache.proofs.table.Table.find_empty.Goals as goal
use Rattle.page_cache.proofs.table.Table.find_empty.Goals.{After-position}

first : (c : After-position) → c.position.result ≡ empty_slot (places c.args.self.now)
first c = position_from_yields_List is_none _ _ c.position.result c.position.ensures.ran (YieldsList-from_slice c.args.self.now.slots cc) (λ x b q k. search (rules, tests))

pub returns-in_err-index : goal.returns-in_err-index
returns-in_err-index c = ap index_of c.from_residual.ensures ∙ sym c.in_err-index.was ∙ first (goal.at.returns-in_err-index c).After-position

pub returns : goal.returns
returns c = sym c.in_ok-index.was ∙ first (goal.at.returns c).After-position

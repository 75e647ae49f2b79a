use Rattle.std.proofs.Common.{ℕ, List, length, get_or, take, sym, ap, ◌∙◌, arith}
use Rattle.std.proofs.lemmas.Grind.{common_steps}
use Rattle.node.proofs.Rows.{length_entry, five_words, entry_parts}
use Rattle.node.proofs.Places.{none_at, at_place, entry_at}
use Rattle.node.proofs.memory.Node.entry.Goals as goal

pub returns-in_err-row : goal.returns-in_err-row
returns-in_err-row g c = λ level es is.
    c.from_residual.ensures ∙ sym (none_at g.met.K.Key.coded level es c.args.self.now.words is c.args.i c.in_err-row.ensures)

-- Any words that are equal to the row's are read as it is.
pub returns : goal.returns
returns g c = λ level es is.
    let C = g.met.K.Key.coded in
    let r = c.in_ok-row.field-0.now in
    let t = at_place C level es c.args.self.now.words is c.args.i r c.in_ok-row.ensures in
    let whole = five_words r (ap length t.rowed ∙ length_entry C t.it) in
    let key = ap (take 4) whole in
    let link = ap (λ (u : List ℕ). get_or u 4 0) whole in
    c.unsqueezed.ensures ∙ entry_parts g.K.Key.growing _ _ r (cc) (grind (arith, common_steps, link))
    ∙ entry_at C level es c.args.self.now.words is c.args.i r c.in_ok-row.ensures

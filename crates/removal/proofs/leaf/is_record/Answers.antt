use Rattle.std.proofs.lemmas.Slice.Eq.{slice_eq-Decides}
use Rattle.std.proofs.lemmas.Bool.Decides.{Decides-eqb}
use Rattle.removal.proofs.Placing.{by_words}
use Rattle.removal.proofs.leaf.is_record.Goals as goal

pub returns-then-entry-number : goal.returns-then-entry-number
returns-then-entry-number g c = λ k words.
    by_words g.K.Key.growing k c.args.number c.args.entry.now c.eq.result c.if-entry-number.true c.squeeze.ensures words (slice_eq-Decides Decides-eqb _ _ _ c.eq.ensures)

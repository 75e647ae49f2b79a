use Rattle.std.proofs.Common.{◌≡◌, ℕ, List, None, sym, refl, ap, ◌∙◌}
use Rattle.std.proofs.lemmas.Option.{none-some}
use Rattle.key_class.specs.Class.{Growing, Coded}
use Rattle.node.specs.Nodes.{Entry, IsNode, node_words}
use Rattle.node.specs.Reading.{refusal_of, entries_in}
use Rattle.node.proofs.Places.{rows_are}
use Rattle.node.proofs.Questions.{fits_from_none, none_from_fits, node_from_fits, fits_from_node, entries_back}
use Rattle.node.proofs.memory.Node.read.Goals as goal

none-from-node : {K : Type 0} {G : Growing K} (C : Coded G) (w : List ℕ) (level : ℕ) (es : List (Entry K ℕ)) → IsNode level es → w ≡ node_words G level es → refusal_of G w ≡ None
none-from-node {K} {G} C w level es h e = ap (refusal_of G) e ∙ none_from_fits G (node_words G level es) (fits_from_node C level es h)

pub returns-in_err-check-clause-written : goal.returns-in_err-check-clause-written
returns-in_err-check-clause-written g c = λ level es h e.
    absurd (none-some _ (sym (none-from-node g.met.K.Key.coded c.args.words.now level es h e) ∙ sym c.in_err-check.ensures))

pub returns-clause-node : goal.returns-clause-node
returns-clause-node g c = node_from_fits g.met.K.Key.coded c.args.words.now c.told-words (fits_from_none g.K.Key.growing c.args.words.now (sym c.in_ok-check.ensures))

pub returns-clause-written : goal.returns-clause-written
returns-clause-written g c = λ level es h e.
    (refl, ap (entries_in g.K.Key.growing) (rows_are g.met.K.Key.coded level es c.args.words.now e) ∙ entries_back g.met.K.Key.coded es)

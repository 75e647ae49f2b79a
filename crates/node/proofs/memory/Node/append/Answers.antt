use Rattle.std.proofs.Common.{ℕ, [], get_or, ◌+◌, ◌≤◌, List, ◌++◌, length, sym, ap, ◌∙◌, arith}
use lib.ListN.{length-map}
use Rattle.std.specs.List.{slice_get}
use Rattle.std.proofs.lemmas.Option.{slice_get-get_or}
use Rattle.std.proofs.lemmas.List.{take_all}
use Rattle.std.proofs.lemmas.Grind.{common_steps}
use Rattle.std.proofs.lemmas.Bool.{le-leb, lt-leb}
use Rattle.node.specs.Nodes.{Entry, entry_words, node_words}
use Rattle.node.proofs.Places.{count_is, rows_are, at_place}
use Rattle.node.proofs.Edits.{pushed_more}
use Rattle.node.proofs.memory.Node.append.Goals as goal

pub returns-then-count-gt-CAPACITY : goal.returns-then-count-gt-CAPACITY
returns-then-count-gt-CAPACITY g c = λ level deep es fs is stands.
    let n = count_is g.K.Key.growing level es c.args.self.now.words is in
    let m = count_is g.K.Key.growing deep fs c.args.other.now.words stands in
    (sym (lt-leb (length es + length fs) 12 (omega arith)), is)

-- Any words that are equal to the row's are put behind the others as it is.
pub loop-row-preserved : goal.loop-row-preserved
loop-row-preserved g c = λ level deep es fs is stands.
    let n = count_is g.K.Key.growing level es c.args.self.now.words is in
    let m = count_is g.K.Key.growing deep fs c.args.other.now.words stands in
    let rs = c.rows-row-items.result.now in
    let i = c.loop-row.row-index in
    let here = sym (slice_get-get_or rs i [] c.loop-row-test.true) ∙ ap (λ (rs : List (List ℕ)). slice_get rs i) c.rows-row-items.ensures in
    pushed_more g.met.K.Key.coded level es fs i c.loop-row.self.words (c.loop-row.invariant level deep es fs is stands) (omega arith) (get_or rs i [])
    (at_place g.met.K.Key.coded deep fs c.args.other.now.words stands i (get_or rs i []) here)
    c.push_row.new.self.words c.push_row.result c.push_row.ensures.full (grind (arith, common_steps))

pub returns : goal.returns
returns g c = λ level deep es fs is stands.
    let n = count_is g.K.Key.growing level es c.args.self.now.words is in
    let m = count_is g.K.Key.growing deep fs c.args.other.now.words stands in
    let e = c.rows-row-items.ensures ∙ rows_are g.met.K.Key.coded deep fs c.args.other.now.words stands in
    let all : length fs ≤ c.loop-row.row-index = omega (arith, ap length e, length-map fs (entry_words g.K.Key.growing)) in (
      sym (le-leb (length es + length fs) 12 (omega arith)),
      c.loop-row.invariant level deep es fs is stands ∙ ap (λ (l : List (Entry g.row.K.Denot ℕ)). node_words g.K.Key.growing level (es ++ l)) (take_all c.loop-row.row-index fs all),
    )

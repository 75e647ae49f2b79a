use Rattle.std.proofs.Common.{◌≡◌, ◌+◌, true, length, drop, sym, ap, ◌∙◌, arith}
use Rattle.std.proofs.lemmas.List.{length-append}
use Rattle.std.proofs.lemmas.Grind.{common_steps}
use Rattle.std.proofs.lemmas.Bool.{lt-ltb, le-leb, lt-leb}
use Rattle.node.specs.Reading.{count_in}
use Rattle.node.proofs.Rows.{length_rows}
use Rattle.node.proofs.Places.{count_is, rows_are}
use Rattle.node.proofs.memory.Pool.push_all.Goals as goal

pub returns-then-self-count-gt-CAPACITY : goal.returns-then-self-count-gt-CAPACITY
returns-then-self-count-gt-CAPACITY g c = λ level es fs is stands.
    let n = count_is g.K.Key.growing level fs c.args.node.now.words stands in
    (sym (lt-leb (length es + length fs) 15 (omega (arith, is.many))), is)

pub loop-row-preserved : goal.loop-row-preserved
loop-row-preserved g c =
    let w = c.args.node.now.words in
    let size = length_rows (count_in w) (drop 4 w) in
    let e = c.rows-row-items.ensures in
    let done : c.push_row.result ≡ true = c.push_row.ensures.full ∙ lt-ltb c.loop-row.self.count 15 (omega (arith, ap length e)) in
    record { many = grind (arith, done); rowed = grind (arith, common_steps, done) }

pub returns : goal.returns
returns g c = λ level es fs is stands.
    let w = c.args.node.now.words in
    let G = g.K.Key.growing in
    let n = count_is G level fs w stands in
    let size = length_rows (count_in w) (drop 4 w) in
    let e = c.rows-row-items.ensures in
    let test = c.loop-row-test.false in (
      sym (le-leb (length es + length fs) 15 (omega (arith, is.many))),
      record {
        many = omega (arith, is.many, ap length e, length-append es fs);
        rowed = grind (arith, common_steps, rows_are g.met.K.Key.coded level fs w stands);
      },
    )

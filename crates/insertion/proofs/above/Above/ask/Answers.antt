use Rattle.std.proofs.Common.{arith}
use Rattle.insertion.proofs.Asking.{of_full}
use Rattle.insertion.proofs.above.Above.ask.Goals as goal

pub returns-then-needed-free : goal.returns-then-needed-free
returns-then-needed-free g c = record {
  says = λ steps leaf kn full. grind (arith, of_full c.args.self steps leaf c.free_count-free.result c.saturating_add-splits.result kn full c.saturating_add-splits.ensures);
}

pub returns : goal.returns
returns g c = record {
  says = λ steps leaf kn full. grind (arith, of_full c.args.self steps leaf c.free_count-free.result c.saturating_add-splits.result kn full c.saturating_add-splits.ensures);
}

use Rattle.std.proofs.Common.{refl}
use Rattle.insertion.proofs.Filling.{taken, shared}
use Rattle.insertion.proofs.fill.share_out.Goals as goal

pub returns : goal.returns
returns g c = record {
  says = λ level xs ys sx sy lx ly h f.
      let took = taken c.take_with.result c.in_ok-new_page.ensures.value c.take_with.ensures in
      (_, refl, shared c.args.go.now level xs ys sx sy h (rw c.words.ensures at took) (c.in_ok-union.ensures level ys sy) c.in_ok-key.ensures);
}

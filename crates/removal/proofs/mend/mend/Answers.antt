use Rattle.std.proofs.Common.{suc, arith}
use Rattle.removal.proofs.Joining.{many_in, written}
use Rattle.removal.proofs.mend.mend.Goals as goal

pub returns-then-count-lt4 : goal.returns-then-count-lt4
returns-then-count-lt4 g c = record {
  says = λ h u v k ch.
      let n = many_in g.K.KeyClass.class.growing (suc h) h v.entries ch.child in
      c.join.ensures.says h u v k ch (omega (arith, c.count.ensures, c.if-count-lt4.true));
}

pub returns : goal.returns
returns g c = record {
  says = λ h u v k ch.
      let n = many_in g.K.KeyClass.class.growing (suc h) h v.entries ch.child in
      written g.K.KeyClass.class ch g.met.K.KeyClass.tied (omega (arith, c.count.ensures, c.if-count-lt4.false)) k c.replace.new.self c.in_ok-entry.ensures c.replace.ensures;
}

use Rattle.std.proofs.Common.{inl, inr, arith}
use Rattle.removal.proofs.Joining.{Place, no_place, no_link, not_loaded, found, not_merged, merged, not_shared, shared}
use Rattle.removal.proofs.mend.join.Goals as goal
use Rattle.removal.proofs.mend.join.Goals.{then-j-i, else-j-i}

pub returns-in_err-j : goal.returns-in_err-j
returns-in_err-j g c = record {
  says = λ h u v k ch thin. absurd (no_place g.met.K.KeyClass.tied c.remove.ensures c.in_ok-key.ensures k ch c.in_err-j.ensures);
}

pub returns-in_err-page : goal.returns-in_err-page
returns-in_err-page g c = record {
  says = λ h u v k ch thin. absurd (no_link g.met.K.KeyClass.tied c.remove.ensures c.in_ok-key.ensures k ch c.in_ok-j.ensures c.in_err-page.ensures);
}

pub returns-in_err-load : goal.returns-in_err-load
returns-in_err-load g c = record {
  says = λ h u v k ch thin. absurd (not_loaded g.met.K.KeyClass.tied c.remove.ensures c.in_ok-key.ensures k ch c.in_ok-j.ensures c.in_ok-page.ensures c.in_err-load.ensures.node);
}

pub returns-in_err-joined : goal.returns-in_err-joined
returns-in_err-joined g c = record {
  says = λ h u v k ch thin.
      let p = found g.met.K.KeyClass.tied c.remove.ensures c.in_ok-key.ensures k ch c.in_ok-j.ensures c.in_ok-page.ensures c.in_ok-load.ensures.node in
      absurd (not_merged g.K.KeyClass.class ch thin p g.met.K.KeyClass.tied c.in_ok-load.ensures.kept (omega (arith, c.if-count-le-CAPACITY.true, c.count.ensures, c.count-2.ensures)) c.in_err-joined.ensures);
}

pub returns-then-count-le-CAPACITY : goal.returns-then-count-le-CAPACITY
returns-then-count-le-CAPACITY g c = record {
  says = λ h u v k ch thin.
      let p = found g.met.K.KeyClass.tied c.remove.ensures c.in_ok-key.ensures k ch c.in_ok-j.ensures c.in_ok-page.ensures c.in_ok-load.ensures.node in
      merged g.K.KeyClass.class ch thin p g.met.K.KeyClass.tied c.in_ok-load.ensures.kept (omega (arith, c.if-count-le-CAPACITY.true, c.count.ensures, c.count-2.ensures)) c.replace.new.self c.in_ok-joined.ensures c.replace.ensures;
}

pub returns-in_err-stay : goal.returns-in_err-stay
returns-in_err-stay g c = record {
  says = λ h u v k ch thin.
      let p = found g.met.K.KeyClass.tied c.remove.ensures c.in_ok-key.ensures k ch c.in_ok-j.ensures c.in_ok-page.ensures c.in_ok-load.ensures.node in
      absurd (not_shared g.K.KeyClass.class ch thin p g.met.K.KeyClass.tied c.in_ok-load.ensures.kept (omega (arith, c.if-count-le-CAPACITY.false, c.count.ensures, c.count-2.ensures)) c.in_err-stay.ensures);
}

pub returns : goal.returns
returns g c = record {
  says = λ h u v k ch thin.
      let place : Place c.args.i c.in_ok-j.j c.if-j-i.place = elim c.if-j-i.branch [
        | then-j-i w ↦ inl (w.if-j-i.true, w.place-is)
        | else-j-i w ↦ inr (w.if-j-i.false, λ l. omega (arith, w.place-is, w.saturating_add-place.ensures))
      ] in
      let p = found g.met.K.KeyClass.tied c.remove.ensures c.in_ok-key.ensures k ch c.in_ok-j.ensures c.in_ok-page.ensures c.in_ok-load.ensures.node in
      shared g.K.KeyClass.class ch thin p g.met.K.KeyClass.tied c.in_ok-load.ensures.kept (omega (arith, c.if-count-le-CAPACITY.false, c.count.ensures, c.count-2.ensures))
      c.if-j-i.place c.replace-2.new.self c.replace-3.new.self place c.in_ok-stay.ensures c.replace-2.ensures c.replace-3.ensures;
}

use Rattle.std.proofs.Common.{sym, arith, eqb-true}
use borrow.Author.Tests.{eqb-false}
use Rattle.cursor.proofs.Looks.{look_past, look_no_entry, look_match, look_no_match, look_closed, look_below}
use Rattle.cursor.proofs.looking.look.Goals as goal
use Rattle.cursor.proofs.looking.look.Goals.{then-on_leaf+else-matches, else-on_leaf+else-may_hold}

pub returns-then-i-count : goal.returns-then-i-count
returns-then-i-count g c = look_past c.requires.1 (omega (arith, c.count.ensures)) c.pop.ensures

pub returns-in_default : goal.returns-in_default
returns-in_default g c = look_no_entry c.requires.1 (omega (arith, c.count.ensures)) c.put.ensures g.met.K.KeyClass.tied c.in_default.ensures

pub returns-then-matches : goal.returns-then-matches
returns-then-matches g c =
    look_match c.requires.1 (omega (arith, c.count.ensures)) c.put.ensures g.met.K.KeyClass.tied c.in-Some.ensures
    (eqb-true _ _ (sym c.if-on_leaf.ensures)) (sym c.if-matches.ensures)

pub returns-then-may_hold : goal.returns-then-may_hold
returns-then-may_hold g c =
    look_below c.requires.1 (omega (arith, c.count.ensures)) c.put.ensures g.met.K.KeyClass.tied c.in-Some.ensures
    c.push.ensures (sym c.if-may_hold.ensures)

pub returns : goal.returns
returns g c =
    elim c.if-on_leaf.branch [
      | then-on_leaf+else-matches w ↦
          look_no_match c.requires.1 (omega (arith, c.count.ensures)) c.put.ensures g.met.K.KeyClass.tied c.in-Some.ensures
          (eqb-true _ _ (sym w.if-on_leaf.ensures)) (sym w.if-matches.ensures)
      | else-on_leaf+else-may_hold w ↦
          look_closed c.requires.1 (omega (arith, c.count.ensures)) c.put.ensures g.met.K.KeyClass.tied c.in-Some.ensures
          (omega (arith, eqb-false _ _ (sym w.if-on_leaf.ensures))) (sym w.if-may_hold.ensures)
    ]

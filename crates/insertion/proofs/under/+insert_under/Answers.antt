use Rattle.std.proofs.Common.{sym, ◌∙◌}
use Rattle.std.proofs.lemmas.Result.{err_from_is_err_and}
use Rattle.insertion.proofs.Stepping.{Asked, of_full, of_none, unread, refused_leaf, done_leaf, no_child, refused_below, done_below}
use Rattle.insertion.proofs.under.+insert_under.Goals as goal
use Rattle.insertion.proofs.under.+insert_under.Goals.{then-is_full+in_ok-ask, else-is_full}

pub returns-in_err-node : goal.returns-in_err-node
returns-in_err-node g t c = unread (rw c.in_err-node.ensures.ok_part at c.load.ensures.node)

pub returns-in_err-ask : goal.returns-in_err-ask
returns-in_err-ask g t c =
    let S = g.S.PageStore in
    let kept = c.load.ensures.kept in
    let e = err_from_is_err_and c.from_residual-in_err-ask.result c.from_residual-in_err-ask.ensures.1 in
    rw (e.1, e.2)
    (refused_leaf {s = S.meaning c.args.store.now} {t = S.meaning c.load.new.store} c.in_ok-node.node (rw c.in_ok-node.ensures.ok_part at c.load.ensures.node)
    c.if-level-le1.true (sym c.is_full.ensures ∙ c.if-is_full.true) (rw kept at c.in_err-ask.ensures) kept)

pub returns-then-level-le1 : goal.returns-then-level-le1
returns-then-level-le1 g t c =
    let S = g.S.PageStore in
    let kept = c.load.ensures.kept in
    let asks : Asked c.args.above (S.meaning c.args.store.now) c.in_ok-node.node = elim c.if-is_full.branch [
      | then-is_full+in_ok-ask w ↦ of_full (sym c.is_full.ensures ∙ w.if-is_full.true) (rw kept at w.in_ok-ask.ensures)
      | else-is_full w ↦ of_none (sym c.is_full.ensures ∙ w.if-is_full.false)
    ] in
    rw c.ok_or-then-level-le1.ensures.value
    (done_leaf {t = S.meaning c.add.new.store} c.in_ok-node.node (rw c.in_ok-node.ensures.ok_part at c.load.ensures.node) c.add.result c.if-level-le1.true asks (rw (kept, ← g.met.K.KeyClass.tied) at c.add.ensures))

pub returns-in_err-child : goal.returns-in_err-child
returns-in_err-child g t c =
    no_child c.in_ok-node.node (rw c.in_ok-node.ensures.ok_part at c.load.ensures.node) c.in_ok-i.i
    (rw (c.in_ok-i.ensures.ok_part, ← g.met.K.KeyClass.tied) at c.least_growth.ensures)
    (rw (c.in_err-child.ensures.ok_part, ← g.met.K.KeyClass.tied) at c.link.ensures)

pub returns-in_err-change : goal.returns-in_err-change
returns-in_err-change g t c =
    let S = g.S.PageStore in
    let e = err_from_is_err_and c.from_residual-in_err-change.result c.from_residual-in_err-change.ensures.1 in
    rw (e.1, e.2)
    (refused_below {s = S.meaning c.args.store.now} {t = S.meaning c.insert_under.new.store} c.in_ok-node.node (rw c.in_ok-node.ensures.ok_part at c.load.ensures.node) c.in_ok-i.i
    (rw (c.in_ok-i.ensures.ok_part, ← g.met.K.KeyClass.tied) at c.least_growth.ensures)
    c.in_ok-child.child c.child_of.result c.if-level-le1.false
    (rw (c.in_ok-child.ensures.ok_part, ← g.met.K.KeyClass.tied) at c.link.ensures)
    c.child_of.ensures
    (rw c.load.ensures.kept at c.in_err-change.ensures))

pub returns : goal.returns
returns g t c =
    rw c.ok_or-4.ensures.value
    (done_below c.in_ok-node.node (rw c.in_ok-node.ensures.ok_part at c.load.ensures.node) c.in_ok-i.i
    (rw (c.in_ok-i.ensures.ok_part, ← g.met.K.KeyClass.tied) at c.least_growth.ensures)
    c.in_ok-child.child c.child_of.result c.if-level-le1.false
    (rw (c.in_ok-child.ensures.ok_part, ← g.met.K.KeyClass.tied) at c.link.ensures)
    c.child_of.ensures g.met.K.KeyClass.lawful c.regrow.result
    (rw c.load.ensures.kept at c.in_ok-change.ensures)
    (rw (← g.met.K.KeyClass.tied) at c.regrow.ensures))

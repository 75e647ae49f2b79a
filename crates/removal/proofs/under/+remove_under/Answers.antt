use Rattle.std.proofs.Common.{arith}
use Rattle.removal.proofs.Stepping.{unread, by_node, done_leaf, looking_none, nothing, no_entry, turn, passed, missed, not_a_tree, done}
use Rattle.removal.proofs.under.+remove_under.Goals as goal

pub returns-in_err-node : goal.returns-in_err-node
returns-in_err-node g t c = unread c.load.ensures.node c.in_err-node.ensures.ok_part

pub returns-then-level-le1 : goal.returns-then-level-le1
returns-then-level-le1 g t c =
    done_leaf c.take_out.result g.met.K.KeyClass.tied c.load.ensures.node c.in_ok-node.ensures.ok_part c.load.ensures.kept c.if-level-le1.true c.take_out.ensures c.ok_or-then-level-le1.ensures.value

pub loop-i-init : goal.loop-i-init
loop-i-init g t c = looking_none c.load.ensures.kept

pub returns-in_err-child : goal.returns-in_err-child
returns-in_err-child g t c =
    by_node c.load.ensures.node c.in_ok-node.ensures.ok_part c.if-level-le1.false
    (no_entry g.met.K.KeyClass.tied (omega (arith, c.count-i-end.ensures)) c.entry.ensures c.in_err-child.ensures.ok_part)

pub loop-i-preserved-then-not-covers : goal.loop-i-preserved-then-not-covers
loop-i-preserved-then-not-covers g t c = passed (turn g.met.K.KeyClass.tied c.loop-i.invariant c.entry.ensures c.in_ok-child.ensures.ok_part) c.if-not-covers.ensures

pub returns-in-Ok : goal.returns-in-Ok
returns-in-Ok g t c =
    by_node c.load.ensures.node c.in_ok-node.ensures.ok_part c.if-level-le1.false
    (done (turn g.met.K.KeyClass.tied c.loop-i.invariant c.entry.ensures c.in_ok-child.ensures.ok_part) c.if-not-covers.ensures c.in-Ok.ensures c.mend.ensures c.ok_or-in-Ok.ensures.value)

pub returns-in-Err-NotATree : goal.returns-in-Err-NotATree
returns-in-Err-NotATree g t c =
    by_node c.load.ensures.node c.in_ok-node.ensures.ok_part c.if-level-le1.false
    (not_a_tree (turn g.met.K.KeyClass.tied c.loop-i.invariant c.entry.ensures c.in_ok-child.ensures.ok_part) c.in-Err-NotATree.field-0-is c.in-Err-NotATree.ensures)

pub loop-i-preserved : goal.loop-i-preserved
loop-i-preserved g t c = missed (turn g.met.K.KeyClass.tied c.loop-i.invariant c.entry.ensures c.in_ok-child.ensures.ok_part) c.if-not-covers.ensures c.in-Err-NoSuchRecord.ensures

pub returns : goal.returns
returns g t c = by_node c.load.ensures.node c.in_ok-node.ensures.ok_part c.if-level-le1.false (nothing (omega (arith, c.count-i-end.ensures, c.loop-i-test.false)) c.loop-i.invariant)

use Rattle.cursor.proofs.Turns.{unread}
use Rattle.cursor.proofs.cursor.Cursor.next.Goals as goal

pub returns-in_default-node-clause-nexts : goal.returns-in_default-node-clause-nexts
returns-in_default-node-clause-nexts g c =
    let inv = c.loop-place.invariant in
    unread g.K.KeyClass.class inv.carried c.in-Some.ensures.1 inv.kept c.hold.ensures.node c.in_default-node.is

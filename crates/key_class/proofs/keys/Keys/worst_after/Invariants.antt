use Rattle.std.proofs.Common.{◌≡◌, ◌+◌, drop}
use Rattle.key_class.specs.Quadratic.{worst_after}
use Rattle.key_class.proofs.keys.Keys.worst_after.Given as goal

abbrev pub invariant-loop-j : goal.invariant-loop-j
invariant-loop-j g l =
    let G = g.K.Key.growing in
    worst_after G l.a l.i l.j (drop l.j l.self) l.worst ≡ worst_after G l.a l.i (l.i + 1) (drop (l.i + 1) l.self) l.fn.worst

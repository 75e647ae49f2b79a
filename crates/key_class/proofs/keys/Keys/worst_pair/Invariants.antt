use Rattle.std.proofs.Common.{◌≡◌, drop}
use Rattle.key_class.specs.Quadratic.{worst_from, seeds_of}
use Rattle.key_class.proofs.keys.Keys.worst_pair.Given as goal

abbrev pub invariant-loop-i : goal.invariant-loop-i
invariant-loop-i g l =
    let G = g.K.Key.growing in
    worst_from G l.i (drop l.i l.self) l.worst ≡ seeds_of G l.self

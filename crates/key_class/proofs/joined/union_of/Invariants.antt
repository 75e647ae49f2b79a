use Rattle.std.proofs.Common.{◌≡◌, ◌+◌, List, drop, Some}
use Rattle.key_class.specs.Class.{Squeezed}
use Rattle.key_class.specs.Joined.{joined, joined_onto}
use Rattle.key_class.proofs.joined.union_of.Given as goal

-- What is left, joined onto the union so far, is the union of all.
abbrev pub invariant-loop-word : goal.invariant-loop-word
invariant-loop-word g l =
    (ks : List g.row.K.Denot) → Squeezed g.K.Key.growing ks l.words
    → Some (joined_onto g.K.Key.growing l.union (drop (l.word-index + 1) ks)) ≡ joined g.K.Key.growing ks

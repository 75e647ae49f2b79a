use Rattle.std.proofs.Common.{◌≡◌, ◌≤◌}
use Rattle.cursor.specs.Awaits.{left_to_do}
use Rattle.cursor.proofs.Turns.{Carried}
use Rattle.cursor.proofs.cursor.Cursor.next.Given as goal

abbrev pub invariant-loop-place : goal.invariant-loop-place
invariant-loop-place g l = record {
  less : left_to_do l.self ≤ left_to_do l.initial.self;
  kept : g.S.PageStore.meaning l.store ≡ g.S.PageStore.meaning l.initial.store;
  carried : Carried g.K.KeyClass.class (g.S.PageStore.meaning l.initial.store) l.query l.initial.self l.self;
}

abbrev pub decreases-loop-place : goal.decreases-loop-place
decreases-loop-place g l = left_to_do l.self

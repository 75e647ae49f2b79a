use Rattle.std.proofs.Common.{◌≡◌}
use Rattle.array_store.specs.Layout.{cleared}
use Rattle.array_store.proofs.groups.Groups.new.Given as goal

abbrev pub invariant-loop-page : goal.invariant-loop-page
invariant-loop-page l = l.words.items ≡ cleared l.initial.words.items l.page

-- The refusals of a removal, and their numbers.
use Rattle.std.specs.Prelude.{ℕ, Some, None, Option}
use Rattle.removal.specs.declared.refusal.RemoveRefusal.{RemoveRefusal}
use Rattle.removal.specs.declared.refusal.RemoveRefusal.TheVariants.{NoSuchRecord, NotATree}

-- Pages that form no tree have no number.
abbrev pub number_of : RemoveRefusal → Option ℕ
number_of NoSuchRecord = Some 34
number_of NotATree = None

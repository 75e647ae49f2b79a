-- The refusals of an insert, their numbers, and when each is due.
use Rattle.std.specs.Prelude.{ℕ, ◌&&◌, List, length, Some, None, Option, if◌then◌else◌, nat_le, nat_lt}
use Rattle.gist.specs.Insert.{Step, new_root, needed}
use Rattle.insertion.specs.declared.refusal.InsertRefusal.{InsertRefusal}
use Rattle.insertion.specs.declared.refusal.InsertRefusal.TheVariants.{NoNumberLeft, TooManyLevels, TooFewPages, NotATree}

-- Pages that form no tree have no number.
abbrev pub number_of : InsertRefusal → Option ℕ
number_of NoNumberLeft = Some 31
number_of TooManyLevels = Some 32
number_of (TooFewPages needed free) = Some 33
number_of NotATree = None

-- What is asked of the way of a key and the number of free pages. Has the tree fewer than seven levels, or its way a page
-- that is not full? Are as many pages free as are needed? The first no decides.
abbrev pub asked : List Step → ℕ → Option InsertRefusal
asked steps free =
    if new_root steps && nat_le 7 (length steps) then Some TooManyLevels
    else if nat_le (needed steps) free then None
    else Some (TooFewPages (needed steps) free)

-- Before that: is a number left?
abbrev pub insert_refusal : ℕ → List Step → ℕ → Option InsertRefusal
insert_refusal last steps free = if nat_lt last 4294967295 then asked steps free else Some NoNumberLeft

-- The refusals of a key or question from four words, and their numbers.
use Rattle.std.specs.Prelude.{ℕ, if◌then◌else◌, Err, Result, ◌==◌}
use Rattle.key_class.specs.declared.refusal.KeyRefusal.{KeyRefusal}
use Rattle.key_class.specs.declared.refusal.KeyRefusal.TheVariants.{LowAboveHigh, UnusedNotZero, NoMember}

abbrev pub number_of : KeyRefusal → ℕ
number_of (LowAboveHigh _) = 21
number_of (UnusedNotZero _) = 22
number_of NoMember = 23

-- The answer r, where the last two words c and d are not used.
abbrev pub if_unused : {X : Type 0} → ℕ → ℕ → Result X KeyRefusal → Result X KeyRefusal
if_unused c d r =
    if c == 0 then (if d == 0 then r else Err (UnusedNotZero 3))
    else Err (UnusedNotZero 2)

-- What intervals mean: the points that they hold.
use Rattle.std.specs.Prelude.{ℕ, ◌≤◌}
use Rattle.intervals.specs.declared.interval.Interval.{Interval}
use Rattle.intervals.specs.declared.interval.IntervalQuery.{IntervalQuery}
use Rattle.intervals.specs.declared.interval.IntervalQuery.TheVariants.{Meets, Inside}

-- Both ends are in it.
abbrev pub Holds : Interval → ℕ → Type 0
Holds a x = (a.low ≤ x) × (x ≤ a.high)

abbrev pub Contains : Interval → Interval → Type 0
Contains a b = (x : ℕ) → Holds b x → Holds a x

abbrev pub Touch : Interval → Interval → Type 0
Touch a b = (x : ℕ) × Holds a x × Holds b x

abbrev pub Fulfils : Interval → IntervalQuery → Type 0
Fulfils a (Meets q) = Touch a q
Fulfils a (Inside q) = Contains q a

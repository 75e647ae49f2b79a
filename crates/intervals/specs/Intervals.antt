-- The class of intervals.
use Rattle.std.specs.Prelude.{ℕ, ◌-◌, ◌≤◌, min, max, Bool, ◌&&◌, List, [], ◌∷◌, map, Ok, Err, Option, Result, nat_le}
use Rattle.std.proofs.Math.Decide.{dec_le}
use Rattle.std.proofs.Common.{arith}
use Rattle.std.specs.Result.{result_ok}
use Rattle.key_class.specs.Class.{Growing, Class}
use Rattle.key_class.specs.Refusals.{if_unused}
use Rattle.key_class.specs.Words.{four}
use Rattle.key_class.specs.declared.refusal.KeyRefusal.{KeyRefusal}
use Rattle.key_class.specs.declared.refusal.KeyRefusal.TheVariants.{LowAboveHigh}
use Rattle.intervals.specs.declared.interval.Interval.{Interval}
use Rattle.intervals.specs.declared.interval.IntervalQuery.{IntervalQuery}
use Rattle.intervals.specs.declared.interval.IntervalQuery.TheVariants.{Meets, Inside}
use Rattle.intervals.specs.Ranks.{by_rank}

abbrev pub covers : Interval → Interval → Bool
covers a b = nat_le a.low b.low && nat_le b.high a.high

abbrev pub meets : Interval → Interval → Bool
meets a b = nat_le a.low b.high && nat_le b.low a.high

abbrev pub union : Interval → Interval → Interval
union a b = record { low = min a.low b.low; high = max a.high b.high; ordered = let p = a.ordered in omega arith }

abbrev pub span : Interval → ℕ
span a = a.high - a.low

abbrev pub growth : Interval → Interval → ℕ
growth a b = span (union a b) - span a

abbrev pub squeeze : Interval → List ℕ
squeeze a = a.low ∷ a.high ∷ 0 ∷ 0 ∷ []

-- A low and a high word and two unused ones: 21 where the low one is above the high one, 22 at an unused word not zero.
abbrev pub interval_if : (low high : ℕ) → Dec (low ≤ high) → ℕ → ℕ → Result Interval KeyRefusal
interval_if low high (yes p) c d = if_unused c d (Ok (record { low = low; high = high; ordered = p }))
interval_if low high (no _) c d = Err (LowAboveHigh 0)

abbrev pub read_interval : ℕ → ℕ → ℕ → ℕ → Result Interval KeyRefusal
read_interval low high c d = interval_if low high (dec_le low high) c d

abbrev pub unsqueeze : List ℕ → Option Interval
unsqueeze = four (λ a b c d. result_ok (read_interval a b c d))

abbrev pub matches : Interval → IntervalQuery → Bool
matches a (Meets q) = meets a q
matches a (Inside q) = covers q a

-- A page that meets the question may lead to an interval inside it.
abbrev pub may_hold : Interval → IntervalQuery → Bool
may_hold a (Meets q) = meets a q
may_hold a (Inside q) = meets a q

abbrev pub split : List Interval → List Bool
split ks = by_rank (map (λ (k : Interval). k.low) ks)

abbrev pub interval_growing : Growing Interval
interval_growing = record { union = union; growth = growth; squeeze = squeeze; unsqueeze = unsqueeze }

abbrev pub interval_class : Class Interval IntervalQuery
interval_class = record { growing = interval_growing; covers = covers; matches = matches; may_hold = may_hold; split = split }

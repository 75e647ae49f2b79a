-- Spans of values, under the order compare.
use Rattle.std.specs.Prelude.{Bool, ◌&&◌, Option}
use Rattle.std.specs.declared.cmp.Ordering.{Ordering}
use Rattle.std.specs.Ordering.{partial_le}
use Rattle.key_class.specs.declared.span.Span.{Span}

abbrev pub holds : {T : Type 0} → (T → T → Option Ordering) → Span T → T → Bool
holds compare a x = partial_le compare a.low x && partial_le compare x a.high

abbrev pub contains : {T : Type 0} → (T → T → Option Ordering) → Span T → Span T → Bool
contains compare a b = partial_le compare a.low b.low && partial_le compare b.high a.high

abbrev pub meets : {T : Type 0} → (T → T → Option Ordering) → Span T → Span T → Bool
meets compare a b = partial_le compare a.low b.high && partial_le compare b.low a.high

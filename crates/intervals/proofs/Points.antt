-- The union is least, and what the tests of the class say of the points.
use Rattle.std.proofs.Common.{◌≡◌, ◌↔◌, ◌≤◌, max, Bool, true, IsTrue, ap, sym, subst, ◌∙◌, arith}
use Rattle.std.proofs.lemmas.Bool.Decides.{nat_tests}
use Rattle.intervals.specs.declared.interval.Interval.{Interval}
use Rattle.intervals.specs.declared.interval.IntervalQuery.{IntervalQuery}
use Rattle.intervals.specs.declared.interval.IntervalQuery.TheVariants.{Meets, Inside}
use Rattle.intervals.specs.Intervals.{covers, meets, union, matches}
use Rattle.intervals.specs.Points.{Holds, Contains, Touch, Fulfils}

pub union_least : (a b u : Interval) → covers u a ≡ true → covers u b ≡ true → covers u (union a b) ≡ true
union_least a b u h k = grind (arith, nat_tests)

-- Covering is containing each point; an end of b is a point of it.
ends_covered : (a b : Interval) → Holds a b.low → Holds a b.high → covers a b ≡ true
ends_covered a b h k = let p = h.0 in let q = k.1 in grind (arith, nat_tests)

covers_ends : (a b : Interval) → covers a b ≡ true → (a.low ≤ b.low) × (b.high ≤ a.high)
covers_ends a b h = (grind (arith, nat_tests), grind (arith, nat_tests))

pub covers_points : (a b : Interval) → IsTrue (covers a b) ↔ Contains a b
covers_points a b = (
  (λ h x k. let e = covers_ends a b h in (omega arith, omega arith)),
  (λ f. let o = b.ordered in ends_covered a b (f b.low (omega arith, omega arith)) (f b.high (omega arith, omega arith))),
)

meets_ends : (a b : Interval) → meets a b ≡ true → (a.low ≤ b.high) × (b.low ≤ a.high)
meets_ends a b h = (grind (arith, nat_tests), grind (arith, nat_tests))

ends_meet : (a b : Interval) → a.low ≤ b.high → b.low ≤ a.high → meets a b ≡ true
ends_meet a b h k = grind (arith, nat_tests)

-- The larger of the low ends is a point of both.
pub meets_points : (a b : Interval) → IsTrue (meets a b) ↔ Touch a b
meets_points a b = (
  (λ h. let e = meets_ends a b h in let o = a.ordered in let p = b.ordered in (max a.low b.low, (omega arith, omega arith), (omega arith, omega arith))),
  (λ t. let l = t.1 in let r = t.2 in ends_meet a b (omega arith) (omega arith)),
)

pub matches_points : (a : Interval) (q : IntervalQuery) → IsTrue (matches a q) ↔ Fulfils a q
matches_points a (Meets q) = meets_points a q
matches_points a (Inside q) = covers_points q a

pub matched : (a : Interval) (q p : IntervalQuery) (r : Bool) → q ≡ p → r ≡ matches a p → record { value : r ≡ matches a q; points : IsTrue r ↔ Fulfils a q }
matched a q p r e h =
    let v : r ≡ matches a q = h ∙ ap (matches a) (sym e) in
    record { value = v; points = subst (λ t. IsTrue t ↔ Fulfils a q) (sym v) (matches_points a q) }

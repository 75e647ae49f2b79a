-- The laws of the class.
use Rattle.std.specs.Prelude.{◌≡◌, ℕ, ◌≤◌, true, [], ◌∷◌, Some, Ok, refl}
use Rattle.std.proofs.Common.{ap, arith}
use mathlib.Core.HLevel.{is_prop→PathP}
use Rattle.std.proofs.Math.Bridge.{le_prop}
use Rattle.std.proofs.Math.Decide.{dec_le}
use Rattle.std.proofs.lemmas.Bool.Decides.{nat_tests}
use Rattle.std.specs.Result.{result_ok}
use Rattle.key_class.specs.Class.{Coded}
use Rattle.key_class.specs.Refusals.{if_unused}
use Rattle.key_class.proofs.Coding.{four_only, unused_ok}
use Rattle.intervals.specs.declared.interval.Interval.{Interval}
use Rattle.intervals.specs.declared.interval.IntervalQuery.{IntervalQuery}
use Rattle.intervals.specs.declared.interval.IntervalQuery.TheVariants.{Meets, Inside}
use Rattle.intervals.specs.Intervals.{covers, meets, union, squeeze, interval_if, read_interval, matches, may_hold, interval_growing}

pub same_interval : (a b : Interval) → a.low ≡ b.low → a.high ≡ b.high → a ≡ b
same_interval a b e f = λ i. record { low = e i; high = f i; ordered = is_prop→PathP (λ j. e j ≤ f j) (λ j. le_prop) a.ordered b.ordered i }

-- An interval that is in order, whichever proof of that is at hand.
pub in_order : (a : Interval) (t : Dec (a.low ≤ a.high)) (c d : ℕ) → interval_if a.low a.high t c d ≡ if_unused c d (Ok a)
in_order a (yes p) c d = ap (λ k. if_unused c d (Ok k)) (same_interval _ _ refl refl)
in_order a (no n) c d = absurd (n a.ordered)

only_words : (low high c d : ℕ) (t : Dec (low ≤ high)) (k : Interval) → result_ok (interval_if low high t c d) ≡ Some k → squeeze k ≡ low ∷ high ∷ c ∷ d ∷ []
only_words low high c d (yes p) k e =
    let u = unused_ok c d (Ok (record { low = low; high = high; ordered = p })) k e in
    let y = u.third in
    let z = u.fourth in
    let a = u.answer in
    cc
only_words low high c d (no n) k e = cc

pub interval_coded : Coded interval_growing
interval_coded = record {
  four_words = λ k. refl;
  round_trip = λ k. ap result_ok (in_order k (dec_le k.low k.high) 0 0);
  only_squeezed = four_only (λ a b c d. result_ok (read_interval a b c d)) squeeze (λ a b c d k. only_words a b c d (dec_le a b) k);
}

pub meets_above : (a b q : Interval) → covers a b ≡ true → meets b q ≡ true → meets a q ≡ true
meets_above a b q h k = grind (arith, nat_tests)

pub holds_match : (a b : Interval) (q : IntervalQuery) → covers a b ≡ true → matches b q ≡ true → may_hold a q ≡ true
holds_match a b (Meets q) h k = meets_above a b q h k
holds_match a b (Inside q) h k = let o = b.ordered in grind (arith, nat_tests)

pub holds_above : (a b : Interval) (q : IntervalQuery) → covers a b ≡ true → may_hold b q ≡ true → may_hold a q ≡ true
holds_above a b (Meets q) h k = meets_above a b q h k
holds_above a b (Inside q) h k = meets_above a b q h k

pub covers_through : (a b c : Interval) → covers a b ≡ true → covers b c ≡ true → covers a c ≡ true
covers_through a b c h k = grind (arith, nat_tests)

pub covers_itself : (a : Interval) → covers a a ≡ true
covers_itself a = grind (arith, nat_tests)

pub union_first : (a b : Interval) → covers (union a b) a ≡ true
union_first a b = grind (arith, nat_tests)

pub union_second : (a b : Interval) → covers (union a b) b ≡ true
union_second a b = grind (arith, nat_tests)

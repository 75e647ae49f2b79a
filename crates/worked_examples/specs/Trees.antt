-- Trees of intervals, worked out: points in rising order, one record for each.
use Rattle.std.specs.Prelude.{ℕ, zero, suc, ◌+◌, ◌-◌, ◌*◌, List, [], ◌∷◌, ◌++◌, map, length, replicate, Some, None, Option}
use Rattle.std.proofs.Common.{arith}
use Rattle.std.specs.List.{flat_map}
use Rattle.intervals.specs.Intervals.{interval_growing, interval_class}
use Rattle.intervals.specs.declared.interval.Interval.{Interval}
use Rattle.node.specs.Nodes.{Entry}
use Rattle.gist.specs.Tree.{Tree, Gist, empty, entry_for}
use Rattle.gist.specs.Insert.{inserted, way, needed}
use Rattle.gist.specs.Remove.{removed}

abbrev pub point : ℕ → Interval
point n = record { low = n; high = n; ordered = omega arith }

-- The numbers from n on, m of them.
abbrev pub from : ℕ → ℕ → List ℕ
from n zero = []
from n (suc m) = n ∷ from (n + 1) m

-- What an insert of point n needs.
abbrev pub takes : ℕ → Gist Interval → ℕ
takes n w = needed (way interval_growing (point n) w)

-- Points n, n + 1 and so on, m of them, with record numbers from 1 on; new pages are taken in order, from p on.
abbrev pub with_points : (m n p : ℕ) → Gist Interval → Gist Interval
with_points zero n p w = w
with_points (suc m) n p w = with_points m (n + 1) (p + takes n w) (inserted interval_class (point n) (n + 1) (from p (takes n w)) w)

abbrev pub points : ℕ → Gist Interval
points m = with_points m 0 0 empty

-- Without point n.
abbrev pub less : Option (Gist Interval) → ℕ → Option (Gist Interval)
less None n = None
less (Some w) n = removed interval_class (point n) (n + 1) w

-- A page by its level and the low end, high end and link of each entry.
abbrev pub page : ℕ → List (ℕ × ℕ × ℕ) → List ℕ
page level rows = level ∷ length rows ∷ 0 ∷ 0 ∷ (flat_map (λ r. r.0 ∷ r.1 ∷ 0 ∷ 0 ∷ r.2 ∷ []) rows ++ replicate (60 - 5 * length rows) 0)

-- A leaf of points.
abbrev pub leaf : List ℕ → List ℕ
leaf ns = page 1 (map (λ n. (n, n, n + 1)) ns)

abbrev pub from_30_to_40 : Interval
from_30_to_40 = record { low = 30; high = 40; ordered = omega arith }

-- Leaves of points, on pages 7, 8 and 9.
abbrev pub leaf_on : ℕ → List ℕ → Tree Interval 0
leaf_on p ns = record { page = p; entries = map (λ n. record { key = point n; link = n + 1 }) ns }

abbrev pub entry_to : Tree Interval 0 → Entry Interval (Tree Interval 0)
entry_to t = entry_for interval_growing 0 (point 0) t

abbrev pub three_leaves : List (Entry Interval (Tree Interval 0))
three_leaves = map entry_to (leaf_on 7 (0 ∷ 1 ∷ 2 ∷ 5 ∷ []) ∷ leaf_on 8 (20 ∷ 21 ∷ 22 ∷ 38 ∷ []) ∷ leaf_on 9 (40 ∷ 41 ∷ 42 ∷ 45 ∷ []) ∷ [])

-- The page of each child, and how many entries it has.
abbrev pub outline : List (Entry Interval (Tree Interval 0)) → List (ℕ × ℕ)
outline es = map (λ e. (e.link.page, length e.link.entries)) es

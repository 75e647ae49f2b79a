-- What is true of the tree, for every key class.
use Rattle.std.specs.Prelude.{◌≡◌, ℕ, ◌+◌, ◌*◌, ◌≤◌, cond, List, ◌∷◌, ◌++◌, map, length, Some, None, filter, Option}
use mathlib.Core.List.{Perm, Nodup}
use Rattle.std.specs.List.{AllByRecursion}
use Rattle.page_store.specs.Pages.{Pages, at}
use Rattle.key_class.specs.Class.{Growing, Class}
use Rattle.gist.specs.Tree.{Tree, Gist, Written, levels, records, pages, written, written_of}
use Rattle.gist.specs.Insert.{inserted, way, new_root, needed}
use Rattle.gist.specs.Remove.{removed}
use Rattle.gist.specs.Search.{found}
use Rattle.gist.specs.Rules.{PageRules, least_pages}

abbrev pub numbers : Written → List ℕ
numbers ws = map (λ w. w.0) ws

-- All but the pages old of the first and the pages new of the second are the same, with the same words.
pub record Differ (first second : Written) (old new : List ℕ) : Type 0 where
  pub gone : Written
  pub come : Written
  pub kept : Written
  pub first_is : Perm first (gone ++ kept)
  pub second_is : Perm second (come ++ kept)
  pub gone_from : Perm (numbers gone) old
  pub come_to : Perm (numbers come) new

-- z is w with one record more, which took the pages fs: just those were added, and of the others only pages on the way
-- of the key were written.
pub record AddsRecord {K : Type 0} (G : Growing K) (w z : Gist K) (k : K) (n : ℕ) (fs : List ℕ) : Type 0 where
  pub one_more : Perm (records z) (record { key = k; link = n } ∷ records w)
  pub height : levels z ≡ levels w + cond (new_root (way G k w)) 1 0
  pub rules : levels z ≤ 7 → PageRules G z
  pub differ : Differ (written G w) (written G z) (map (λ s. s.page) (way G k w)) (map (λ s. s.page) (way G k w) ++ fs)
  pub once : Nodup (pages w ++ fs) → Nodup (pages z)

abbrev pub InsertAdds : {K Q : Type 0} → Class K Q → Type 0
InsertAdds {K} C = (w : Gist K) (k : K) (n : ℕ) (fs : List ℕ) → PageRules C.growing w → length fs ≡ needed (way C.growing k w)
    → AddsRecord C.growing w (inserted C k n fs w) k n fs

-- z is w without one record: the pages given back are of w, and at most two pages a level, and one at the root, were
-- written or given back.
pub record TakesRecord {K : Type 0} (G : Growing K) (w z : Gist K) (k : K) (n : ℕ) : Type 0 where
  pub one_less : Perm (records w) (record { key = k; link = n } ∷ records z)
  pub rules : PageRules G z
  pub touched : List ℕ
  pub written_again : List ℕ
  pub given_back : List ℕ
  pub split : Perm touched (written_again ++ given_back)
  pub differ : Differ (written G w) (written G z) touched written_again
  pub few : length touched + 1 ≤ 2 * levels w
  pub once : Nodup (pages w) → Nodup (pages z ++ given_back)

abbrev pub Taken : {K : Type 0} → Growing K → Gist K → K → ℕ → Option (Gist K) → Type 0
Taken G w k n None = AllByRecursion (λ r. (r ≡ record { key = k; link = n }) → ⊥) (records w)
Taken G w k n (Some z) = TakesRecord G w z k n

abbrev pub RemoveTakes : {K Q : Type 0} → Class K Q → Type 0
RemoveTakes {K} C = (w : Gist K) (k : K) (n : ℕ) → PageRules C.growing w → Taken C.growing w k n (removed C k n w)

-- A search finds the records that match, in their order.
abbrev pub SearchFinds : {K Q : Type 0} → Class K Q → Type 0
SearchFinds {K} {Q} C = (w : Gist K) (q : Q) → PageRules C.growing w → found C q w ≡ filter (λ r. C.matches r.key q) (records w)

-- The tree stands on these pages.
abbrev pub StandsOn : Pages → Written → Type 0
StandsOn s ws = AllByRecursion (λ w. at s w.0 ≡ Some w.1) ws

-- The words on pages, the root's page and the height fix the tree.
abbrev pub WordsFix : {K : Type 0} → Growing K → Type 0
WordsFix {K} G = (s : Pages) (h : ℕ) (t u : Tree K h) → StandsOn s (written_of G h t) → StandsOn s (written_of G h u) → t.page ≡ u.page → t ≡ u

-- The least pages of 1 to 7 levels.
abbrev pub LeastPages : {K : Type 0} → Growing K → Type 0
LeastPages {K} G = (w : Gist K) → PageRules G w → least_pages (levels w) ≤ length (pages w)

pub record LeastTable : Type 0 where
  pub one : least_pages 1 ≡ 1
  pub two : least_pages 2 ≡ 3
  pub three : least_pages 3 ≡ 11
  pub four : least_pages 4 ≡ 43
  pub five : least_pages 5 ≡ 171
  pub six : least_pages 6 ≡ 683
  pub seven : least_pages 7 ≡ 2731

-- Insert: down by the least growth, split upwards.
use Rattle.std.specs.Prelude.{ℕ, zero, suc, ◌+◌, Bool, cond, List, [], ◌∷◌, ◌++◌, map, length, Some, None, Option, ◌==◌, nat_le, nat_lt, slice_set}
use Rattle.std.specs.List.{prefix_len, slice_get}
use Rattle.key_class.specs.Class.{Growing, Class}
use Rattle.node.specs.Nodes.{Entry, keys, stay, go}
use Rattle.gist.specs.Tree.{Node, Link, Tree, Gist, empty, root, entry_for}

-- The place of the least of some numbers, the lowest place on a tie. The least so far is best, at place at.
abbrev pub least_from : (at best here : ℕ) → List ℕ → ℕ
least_from at best here [] = at
least_from at best here (n ∷ ns) = cond (nat_lt n best) (least_from here n (here + 1) ns) (least_from at best (here + 1) ns)

abbrev pub least : List ℕ → ℕ
least [] = 0
least (n ∷ ns) = least_from 0 n 1 ns

-- The entry whose key grows least for k.
abbrev pub least_growth : {K L : Type 0} → Growing K → K → List (Entry K L) → ℕ
least_growth G k es = least (map (λ e. G.growth e.key k) es)

-- What comes of a node that got entries: itself, the node split off, if one was, and the new pages not used yet.
pub record Grown (K : Type 0) (h : ℕ) : Type 0 where
  pub node : Tree K h
  pub split_off : List (Tree K h)
  pub unused : List ℕ

-- Up to 12 entries fill page p; of more, those that stay do, and those that go fill the next new page.
abbrev pub split : {K Q : Type 0} → Class K Q → (h : ℕ) → List ℕ → ℕ → List (Entry K (Link K h)) → Grown K h
split C h [] p es = record { node = record { page = p; entries = es }; split_off = []; unused = [] }
split C h (f ∷ fs) p es =
    record {
      node = record { page = p; entries = stay (C.split (keys es)) es };
      split_off = record { page = f; entries = go (C.split (keys es)) es } ∷ [];
      unused = fs;
    }

abbrev pub fill : {K Q : Type 0} → Class K Q → (h : ℕ) → List ℕ → ℕ → List (Entry K (Link K h)) → Grown K h
fill C h fs p es = cond (nat_le (length es) 12) (record { node = record { page = p; entries = es }; split_off = []; unused = fs }) (split C h fs p es)

-- Entries whose child at place i has grown: its key is formed anew, and what was split off goes to the end.
abbrev pub regrown : {K : Type 0} → Growing K → (h : ℕ) → K → ℕ → Grown K h → List (Entry K (Tree K h)) → List (Entry K (Tree K h))
regrown G h k i r es = slice_set es i (entry_for G h k r.node) ++ map (entry_for G h k) r.split_off

abbrev pub above : {K Q : Type 0} → Class K Q → K → (h : ℕ) → Tree K (suc h) → ℕ → Grown K h → Grown K (suc h)
above C k h t i r = fill C (suc h) r.unused t.page (regrown C.growing h k i r t.entries)

-- By the entry at place i; a node of the tree has one.
abbrev pub down : {K : Type 0} → (h : ℕ) → List ℕ → Tree K (suc h) → Option (Entry K (Tree K h)) → (Entry K (Tree K h) → Grown K (suc h)) → Grown K (suc h)
down h fs t None f = record { node = t; split_off = []; unused = fs }
down h fs t (Some e) f = f e

-- The record of key k and number n put under a node; fs are the new pages.
abbrev pub insert_under : {K Q : Type 0} → Class K Q → K → ℕ → (h : ℕ) → List ℕ → Tree K h → Grown K h
insert_under C k n zero fs t = fill C zero fs t.page (t.entries ++ record { key = k; link = n } ∷ [])
insert_under C k n (suc h) fs t =
    down h fs t (slice_get t.entries (least_growth C.growing k t.entries))
    (λ e. above C k h t (least_growth C.growing k t.entries) (insert_under C k n h fs e.link))

-- A root that was split gets a root above it, with the old page first.
abbrev pub rooted : {K : Type 0} → Growing K → K → (h : ℕ) → Tree K h → List (Tree K h) → List ℕ → Gist K
rooted G k h t [] fs = root h t
rooted G k h t (u ∷ us) [] = root h t
rooted G k h t (u ∷ us) (f ∷ fs) = root (suc h) (record { page = f; entries = entry_for G h k t ∷ map (entry_for G h k) (u ∷ us) })

-- The index with one record more. fs are the pages newly taken, as many as are needed, in the order of the takes.
abbrev pub inserted : {K Q : Type 0} → Class K Q → K → ℕ → List ℕ → Gist K → Gist K
inserted C k n [] empty = empty
inserted C k n (f ∷ fs) empty = root 0 (record { page = f; entries = record { key = k; link = n } ∷ [] })
inserted C k n fs (root h t) =
    rooted C.growing k h (insert_under C k n h fs t).node (insert_under C k n h fs t).split_off (insert_under C k n h fs t).unused

-- A node on the way of a key: its page, and whether it has twelve entries.
pub record Step : Type 0 where
  pub page : ℕ
  pub full : Bool

abbrev pub step : {K L : Type 0} → Node K L → Step
step t = record { page = t.page; full = nat_le 12 (length t.entries) }

-- The way of k, from the leaf up.
abbrev pub way_by : {K : Type 0} → (h : ℕ) → (Tree K h → List Step) → Option (Entry K (Tree K h)) → List Step
way_by h below None = []
way_by h below (Some e) = below e.link

abbrev pub way_under : {K : Type 0} → Growing K → K → (h : ℕ) → Tree K h → List Step
way_under G k zero t = step t ∷ []
way_under G k (suc h) t = way_by h (way_under G k h) (slice_get t.entries (least_growth G k t.entries)) ++ step t ∷ []

abbrev pub way : {K : Type 0} → Growing K → K → Gist K → List Step
way G k empty = []
way G k (root h t) = way_under G k h t

-- The nodes that are split: those on the way that are full, from the leaf up to the first that is not.
abbrev pub splits : List Step → ℕ
splits steps = prefix_len (λ s. s.full) steps

-- A new root is put above where all are split.
abbrev pub new_root : List Step → Bool
new_root steps = splits steps == length steps

-- How many pages an insert takes.
abbrev pub needed : List Step → ℕ
needed steps = splits steps + cond (new_root steps) 1 0

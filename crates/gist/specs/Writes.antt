-- What an insert and a removal write to the pages of a tree, page by page and in order, and the theorems that say it.
use Rattle.std.specs.Prelude.{◌≡◌, ℕ, zero, suc, Bool, cond, List, [], ◌∷◌, ◌++◌, map, length, Some, None, Option, nat_le}
use mathlib.Core.List.{Perm}
use Rattle.std.specs.List.{remove as without, AllByRecursion, slice_get}
use Rattle.key_class.specs.Class.{Growing, Class}
use Rattle.node.specs.Nodes.{Entry, keys, stay, go}
use Rattle.gist.specs.Tree.{Link, Tree, Gist, empty, root, Written, records, words_of, union_of, entry_for}
use Rattle.gist.specs.Insert.{least_growth, Grown, insert_under, inserted, way, needed}
use Rattle.gist.specs.Remove.{first_removed, remove_under, removed}
use Rattle.gist.specs.Rules.{PageRules}
use Rattle.gist.specs.Theorems.{AddsRecord, TakesRecord}

-- A root that was split gets a root above it, with the old page first.
abbrev pub above_all : {K : Type 0} → Growing K → K → (h : ℕ) → ℕ → List (Tree K h) → Tree K (suc h)
above_all G k h f ts = record { page = f; entries = map (entry_for G h k) ts }

-- What is below an entry; nothing where there is none.
abbrev pub below_by : {K B : Type 0} → (h : ℕ) → (Tree K h → List B) → Option (Entry K (Tree K h)) → List B
below_by h below None = []
below_by h below (Some e) = below e.link

-- The pages that what came of a node lies on, with their words.
abbrev pub own_pages : {K : Type 0} → Growing K → (h : ℕ) → Grown K h → Written
own_pages G h r = map (λ u. (u.page, words_of G h u)) (r.node ∷ r.split_off)

-- The pages that an insert writes, with their words; the page written last stands first.
abbrev pub writes_under : {K Q : Type 0} → Class K Q → K → ℕ → (h : ℕ) → List ℕ → Tree K h → Written
writes_under C k n zero fs t = own_pages C.growing zero (insert_under C k n zero fs t)
writes_under C k n (suc h) fs t =
    own_pages C.growing (suc h) (insert_under C k n (suc h) fs t)
    ++ below_by h (writes_under C k n h fs) (slice_get t.entries (least_growth C.growing k t.entries))

abbrev pub root_writes : {K : Type 0} → Growing K → K → (h : ℕ) → Grown K h → List ℕ → List (Tree K h) → Written
root_writes G k h r fs [] = []
root_writes G k h r [] (u ∷ us) = []
root_writes G k h r (f ∷ fs) (u ∷ us) = (f, words_of G (suc h) (above_all G k h f (r.node ∷ u ∷ us))) ∷ []

abbrev pub insert_writes : {K Q : Type 0} → Class K Q → K → ℕ → List ℕ → Gist K → Written
insert_writes C k n [] empty = []
insert_writes C k n (f ∷ fs) empty = (f, words_of C.growing 0 (record { page = f; entries = record { key = k; link = n } ∷ [] })) ∷ []
insert_writes C k n fs (root h t) =
    root_writes C.growing k h (insert_under C k n h fs t) (insert_under C k n h fs t).unused (insert_under C k n h fs t).split_off
    ++ writes_under C k n h fs t

-- Pages written, with their words, and pages given back, with none; what is done last stands first.
abbrev pub Edits : Type 0
Edits = List (ℕ × Option (List ℕ))

abbrev pub page_edit : {K : Type 0} → Growing K → (h : ℕ) → Tree K h → ℕ × Option (List ℕ)
page_edit G h t = (t.page, Some (words_of G h t))

-- What a node does to the pages of its children, once the child at place i has become x.
abbrev pub join_edits : {K Q : Type 0} → Class K Q → (h : ℕ) → Tree K h → Option (Entry K (Tree K h)) → Edits
join_edits C h x None = []
join_edits {K} C h x (Some e) =
    let both : List (Entry K (Link K h)) = e.link.entries ++ x.entries in
    let marks : List Bool = C.split (keys both) in
    cond (nat_le (length both) 12)
    ((x.page, None) ∷ page_edit C.growing h (record { page = e.link.page; entries = both }) ∷ [])
    (page_edit C.growing h (record { page = x.page; entries = go marks both }) ∷ page_edit C.growing h (record { page = e.link.page; entries = stay marks both }) ∷ [])

abbrev pub mend_edits : {K Q : Type 0} → Class K Q → (h : ℕ) → K → List (Entry K (Tree K h)) → ℕ → Tree K h → Edits
mend_edits {K} C h k es i x =
    let others : List (Entry K (Tree K h)) = without es i in
    let j : ℕ = least_growth C.growing (union_of C.growing k x.entries) others in
    cond (nat_le 4 (length x.entries)) (page_edit C.growing h x ∷ []) (join_edits C h x (slice_get others j))

-- What a removal does to the pages below a node.
abbrev pub edits_by : {K : Type 0} → (h : ℕ) → (ℕ → Tree K h → Edits) → Option (ℕ × Tree K h) → Edits
edits_by h f None = []
edits_by h f (Some c) = f c.0 c.1

abbrev pub edits_under : {K Q : Type 0} → Class K Q → K → ℕ → (h : ℕ) → Tree K h → Edits
edits_under C k n zero t = []
edits_under C k n (suc h) t =
    edits_by h (λ i x. mend_edits C h k t.entries i x ++ below_by h (edits_under C k n h) (slice_get t.entries i)) (first_removed C k h (remove_under C k n h) 0 t.entries)

-- The root is written, or given back.
abbrev pub root_edits : {K : Type 0} → Growing K → (h : ℕ) → Tree K h → List (Entry K (Link K h)) → Edits
root_edits G zero t [] = (t.page, None) ∷ []
root_edits G zero t (e ∷ es) = page_edit G zero t ∷ []
root_edits G (suc h) t [] = page_edit G (suc h) t ∷ []
root_edits G (suc h) t (e ∷ []) = (t.page, None) ∷ []
root_edits G (suc h) t (e ∷ f ∷ es) = page_edit G (suc h) t ∷ []

abbrev pub edits_of : {K Q : Type 0} → Class K Q → K → ℕ → (h : ℕ) → Tree K h → Option (Tree K h) → Edits
edits_of C k n h t None = []
edits_of C k n h t (Some u) = root_edits C.growing h u u.entries ++ edits_under C k n h t

abbrev pub remove_edits : {K Q : Type 0} → Class K Q → K → ℕ → Gist K → Edits
remove_edits C k n empty = []
remove_edits C k n (root h t) = edits_of C k n h t (remove_under C k n h t)

-- Each page with its words, as held.
abbrev pub holding : Written → Edits
holding ws = map (λ w. (w.0, Some w.1)) ws

-- Pages given back.
abbrev pub freed : List ℕ → Edits
freed ps = map (λ p. (p, None)) ps

-- z is w with one record more; writes are all pages that were written.
pub record AddsWriting {K : Type 0} (G : Growing K) (w z : Gist K) (k : K) (n : ℕ) (fs : List ℕ) (writes : Written) : Type 0 where
  pub adds : AddsRecord G w z k n fs
  pub come_is : adds.differ.come ≡ writes

abbrev pub InsertWrites : {K Q : Type 0} → Class K Q → Type 0
InsertWrites {K} C = (w : Gist K) (k : K) (n : ℕ) (fs : List ℕ) → PageRules C.growing w → length fs ≡ needed (way C.growing k w)
    → AddsWriting C.growing w (inserted C k n fs w) k n fs (insert_writes C k n fs w)

-- z is w without one record; edits are all that was written and given back, in some order.
pub record TakesEditing {K : Type 0} (G : Growing K) (w z : Gist K) (k : K) (n : ℕ) (edits : Edits) : Type 0 where
  pub takes : TakesRecord G w z k n
  pub edits_are : Perm edits (holding takes.differ.come ++ freed takes.given_back)

abbrev pub Edited : {K : Type 0} → Growing K → Gist K → K → ℕ → Edits → Option (Gist K) → Type 0
Edited G w k n edits None = AllByRecursion (λ r. (r ≡ record { key = k; link = n }) → ⊥) (records w)
Edited G w k n edits (Some z) = TakesEditing G w z k n edits

abbrev pub RemoveEdits : {K Q : Type 0} → Class K Q → Type 0
RemoveEdits {K} C = (w : Gist K) (k : K) (n : ℕ) → PageRules C.growing w → Edited C.growing w k n (remove_edits C k n w) (removed C k n w)

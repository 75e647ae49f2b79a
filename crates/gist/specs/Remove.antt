-- Remove: into every entry that covers the key, in order; thin nodes are joined to a partner.
use Rattle.std.specs.Prelude.{ℕ, zero, suc, ◌+◌, Bool, true, false, cond, ◌&&◌, List, [], ◌∷◌, ◌++◌, length, Some, None, Option, ◌==◌, nat_le, slice_set}
use Rattle.std.specs.Option.{option_map, option_or}
use Rattle.std.specs.List.{insert as with_at, remove as without, slice_get}
use Rattle.key_class.specs.Class.{Growing, Class}
use Rattle.node.specs.Nodes.{Entry, keys, stay, go}
use Rattle.gist.specs.Tree.{Link, Tree, Gist, empty, root, union_of, entry_for}
use Rattle.gist.specs.Insert.{least_growth}

abbrev pub same_words : List ℕ → List ℕ → Bool
same_words [] [] = true
same_words [] (y ∷ ys) = false
same_words (x ∷ xs) [] = false
same_words (x ∷ xs) (y ∷ ys) = x == y && same_words xs ys

-- Whether an entry is the record of this number and key.
abbrev pub is_record : {K : Type 0} → Growing K → K → ℕ → Entry K ℕ → Bool
is_record G k n e = e.link == n && same_words (G.squeeze e.key) (G.squeeze k)

-- Without the first that passes; none where none does.
abbrev pub without_first : {A : Type 0} → (A → Bool) → List A → Option (List A)
without_first p [] = None
without_first p (x ∷ xs) = cond (p x) (Some xs) (option_map (λ ys. x ∷ ys) (without_first p xs))

-- The thin node x, at place i, and its partner, which stands at place j of the others: one node on the partner's page
-- if 12 entries hold both; else the two share out their entries, the partner's first.
abbrev pub joined_to : {K Q : Type 0} → Class K Q → (h : ℕ) → K → List (Entry K (Tree K h)) → ℕ → Tree K h → ℕ → Option (Entry K (Tree K h)) → List (Entry K (Tree K h))
joined_to C h k others i x j None = with_at others i (entry_for C.growing h k x)
joined_to {K} C h k others i x j (Some e) =
    let both : List (Entry K (Link K h)) = e.link.entries ++ x.entries in
    let marks : List Bool = C.split (keys both) in
    let entry : ℕ → List (Entry K (Link K h)) → Entry K (Tree K h) = λ p es. entry_for C.growing h k (record { page = p; entries = es }) in
    cond (nat_le (length both) 12)
    (slice_set others j (entry e.link.page both))
    (with_at (slice_set others j (entry e.link.page (stay marks both))) i (entry x.page (go marks both)))

-- Entries whose child at place i has become x. With fewer than 4 entries it is joined to the other that grows least for
-- its key, formed anew.
abbrev pub mended : {K Q : Type 0} → Class K Q → (h : ℕ) → K → List (Entry K (Tree K h)) → ℕ → Tree K h → List (Entry K (Tree K h))
mended {K} C h k es i x =
    let others : List (Entry K (Tree K h)) = without es i in
    let j : ℕ = least_growth C.growing (union_of C.growing k x.entries) others in
    cond (nat_le 4 (length x.entries)) (slice_set es i (entry_for C.growing h k x)) (joined_to C h k others i x j (slice_get others j))

-- The first child, of those whose entry covers the key, that has the record: its place, and what comes of it.
abbrev pub first_removed : {K Q : Type 0} → Class K Q → K → (h : ℕ) → (Tree K h → Option (Tree K h)) → ℕ → List (Entry K (Tree K h)) → Option (ℕ × Tree K h)
first_removed C k h below i [] = None
first_removed C k h below i (e ∷ es) =
    option_or (cond (C.covers e.key k) (option_map (λ t. (i, t)) (below e.link)) None) (first_removed C k h below (i + 1) es)

abbrev pub remove_under : {K Q : Type 0} → Class K Q → K → ℕ → (h : ℕ) → Tree K h → Option (Tree K h)
remove_under C k n zero t = option_map (λ es. record { page = t.page; entries = es }) (without_first (is_record C.growing k n) t.entries)
remove_under C k n (suc h) t =
    option_map (λ c. record { page = t.page; entries = mended C h k t.entries c.0 c.1 }) (first_removed C k h (remove_under C k n h) 0 t.entries)

-- A root leaf with no entry goes, and a root above with one gives way to its child.
abbrev pub lowered : {K : Type 0} → (h : ℕ) → Tree K h → List (Entry K (Link K h)) → Gist K
lowered zero t [] = empty
lowered zero t (e ∷ es) = root zero t
lowered (suc h) t [] = root (suc h) t
lowered (suc h) t (e ∷ []) = root h e.link
lowered (suc h) t (e ∷ f ∷ es) = root (suc h) t

-- The index without the record; none where it has none.
abbrev pub removed : {K Q : Type 0} → Class K Q → K → ℕ → Gist K → Option (Gist K)
removed C k n empty = None
removed C k n (root h t) = option_map (λ u. lowered h u u.entries) (remove_under C k n h t)

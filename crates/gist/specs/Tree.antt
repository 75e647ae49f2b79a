-- The tree, with the page of each node.
use Rattle.std.specs.Prelude.{ℕ, zero, suc, List, [], ◌∷◌, map}
use Rattle.std.specs.List.{flat_map}
use Rattle.key_class.specs.Class.{Growing}
use Rattle.key_class.specs.Joined.{joined_onto}
use Rattle.node.specs.Nodes.{Entry, keys, node_words}

pub record Node (K L : Type 0) : Type 0 where
  pub page : ℕ
  pub entries : List (Entry K L)

-- What an entry of a node of height h leads to: on a leaf, which has height 0, a record number; else the node below.
abbrev pub Link : Type 0 → ℕ → Type 0
Link K zero = ℕ
Link K (suc h) = Node K (Link K h)

abbrev pub Tree : Type 0 → ℕ → Type 0
Tree K h = Node K (Link K h)

-- A whole index: empty, or a root of some height.
pub data Gist (K : Type 0) : Type 0 where
  empty : Gist K
  root : (h : ℕ) → Tree K h → Gist K

abbrev pub levels : {K : Type 0} → Gist K → ℕ
levels empty = 0
levels (root h t) = suc h

-- The records that an entry leads to, from first to last; an entry of a leaf is one.
abbrev pub records_at : {K : Type 0} → (h : ℕ) → Entry K (Link K h) → List (Entry K ℕ)
records_at zero e = e ∷ []
records_at (suc h) e = flat_map (records_at h) e.link.entries

abbrev pub records_of : {K : Type 0} → (h : ℕ) → Tree K h → List (Entry K ℕ)
records_of h t = flat_map (records_at h) t.entries

abbrev pub records : {K : Type 0} → Gist K → List (Entry K ℕ)
records empty = []
records (root h t) = records_of h t

-- The pages of the nodes that an entry leads to.
abbrev pub pages_at : {K : Type 0} → (h : ℕ) → Entry K (Link K h) → List ℕ
pages_at zero e = []
pages_at (suc h) e = e.link.page ∷ flat_map (pages_at h) e.link.entries

abbrev pub pages_of : {K : Type 0} → (h : ℕ) → Tree K h → List ℕ
pages_of h t = t.page ∷ flat_map (pages_at h) t.entries

abbrev pub pages : {K : Type 0} → Gist K → List ℕ
pages empty = []
pages (root h t) = pages_of h t

-- The number that stands for a link on a page.
abbrev pub link_number : (K : Type 0) (h : ℕ) → Link K h → ℕ
link_number K zero n = n
link_number K (suc h) t = t.page

-- The words of a node's page.
abbrev pub words_of : {K : Type 0} → Growing K → (h : ℕ) → Tree K h → List ℕ
words_of {K} G h t = node_words G (suc h) (map (λ e. record { key = e.key; link = link_number K h e.link }) t.entries)

-- Each page with its words.
abbrev pub Written : Type 0
Written = List (ℕ × List ℕ)

abbrev pub written_at : {K : Type 0} → Growing K → (h : ℕ) → Entry K (Link K h) → Written
written_at G zero e = []
written_at G (suc h) e = (e.link.page, words_of G h e.link) ∷ flat_map (written_at G h) e.link.entries

abbrev pub written_of : {K : Type 0} → Growing K → (h : ℕ) → Tree K h → Written
written_of G h t = (t.page, words_of G h t) ∷ flat_map (written_at G h) t.entries

abbrev pub written : {K : Type 0} → Growing K → Gist K → Written
written G empty = []
written G (root h t) = written_of G h t

-- The union of the keys of entries, joined from the first to the last; k where there are none.
abbrev pub union_of : {K L : Type 0} → Growing K → K → List (Entry K L) → K
union_of G k [] = k
union_of G k (e ∷ es) = joined_onto G e.key (keys es)

-- An entry for a node.
abbrev pub entry_for : {K : Type 0} → Growing K → (h : ℕ) → K → Tree K h → Entry K (Tree K h)
entry_for G h k t = record { key = union_of G k t.entries; link = t }

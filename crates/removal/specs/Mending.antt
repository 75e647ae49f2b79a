-- What is done to the pages of a node's children once one of them has lost an entry.
use Rattle.std.specs.Prelude.{◌≡◌, ℕ, suc, ◌+◌, ◌<◌, ◌≤◌, true, List, [], ◌∷◌, ◌++◌, length, is_some, Some, None, Option}
use Rattle.std.specs.List.{AllByRecursion}
use Rattle.std.specs.Option.{option_map}
use Rattle.page_store.specs.Pages.{Pages, at}
use Rattle.key_class.specs.Class.{Growing, Class}
use Rattle.key_class.specs.Joined.{joined}
use Rattle.node.specs.Nodes.{Entry, keys, node_words, stay, go, without}
use Rattle.node.specs.InMemory.{Stands}
use Rattle.node.specs.declared.memory.Node.{Node}
use Rattle.gist.specs.Tree.{Link, Tree, words_of}
use Rattle.gist.specs.Remove.{mended}
use Rattle.gist.specs.Writes.{Edits, mend_edits}
use Rattle.tree_pages.specs.Laid.{on_page, edited}
use Rattle.removal.specs.declared.paged.PagedNode.{PagedNode}

-- The entry that leads to a node of these entries on page p; none where there are none.
abbrev pub entry_to : {K : Type 0} → Growing K → ℕ → List (Entry K ℕ) → Option (Entry K ℕ)
entry_to G p es = option_map (λ k. record { key = k; link = p }) (joined G (keys es))

-- The node is written to its page, which is held.
pub record SavesNode {K : Type 0} (G : Growing K) (s t : Pages) (x : PagedNode) (r : Option (Entry K ℕ)) : Type 0 where
  pub says : (level : ℕ) (xs : List (Entry K ℕ)) → Stands G x.node level xs → is_some (at s x.page) ≡ true
      → (r ≡ entry_to G x.page xs) × (t ≡ edited s ((x.page, Some (node_words G level xs)) ∷ []))

-- All entries on the page of y, the page of x given back.
pub record Merges {K : Type 0} (G : Growing K) (s t : Pages) (y x : PagedNode) (r : Option (Entry K ℕ)) : Type 0 where
  pub says : (level : ℕ) (ys xs : List (Entry K ℕ)) → Stands G y.node level ys → Stands G x.node level xs → 1 ≤ length xs → length ys + length xs ≤ 12
      → is_some (at s y.page) ≡ true → is_some (at s x.page) ≡ true
      → (r ≡ entry_to G y.page (ys ++ xs)) × (t ≡ edited s ((x.page, None) ∷ (y.page, Some (node_words G level (ys ++ xs))) ∷ []))

-- Entries that stay on page q, those that go on page p.
abbrev pub Shared : {K : Type 0} → Growing K → Pages → Pages → ℕ → ℕ → ℕ → List (Entry K ℕ) → List (Entry K ℕ) → Option (Entry K ℕ × Entry K ℕ) → Type 0
Shared G s t q p level stays goes None = ⊥
Shared G s t q p level stays goes (Some r) =
    (Some r.0 ≡ entry_to G q stays) × (Some r.1 ≡ entry_to G p goes) × (t ≡ edited s ((p, Some (node_words G level goes)) ∷ (q, Some (node_words G level stays)) ∷ []))

pub record Shares {K Q : Type 0} (G : Growing K) (C : Class K Q) (s t : Pages) (y x : PagedNode) (r : Option (Entry K ℕ × Entry K ℕ)) : Type 0 where
  pub says : (level : ℕ) (ys xs : List (Entry K ℕ)) → Stands G y.node level ys → Stands G x.node level xs → 13 ≤ length ys + length xs → length ys + length xs ≤ 15
      → is_some (at s y.page) ≡ true → is_some (at s x.page) ≡ true
      → Shared G s t y.page x.page level (stay (C.split (keys (ys ++ xs))) (ys ++ xs)) (go (C.split (keys (ys ++ xs))) (ys ++ xs)) r

-- The child of u at place i has become v, which stands in x and is not on its page yet; u stands in n, and the other
-- children are on their pages.
pub record Changed {K : Type 0} (G : Growing K) (s : Pages) (n : Node) (i : ℕ) (x : PagedNode) (h : ℕ) (u : Tree K (suc h)) (v : Tree K h) : Type 0 where
  pub above : Stands G n (suc (suc h)) (on_page (suc h) u.entries)
  pub child : Stands G x.node (suc h) (on_page h v.entries)
  pub page : v.page ≡ x.page
  pub held : is_some (at s x.page) ≡ true
  pub within : i < length u.entries
  pub more : 2 ≤ length u.entries
  pub some : 1 ≤ length v.entries
  pub stand : AllByRecursion (λ e. (at s e.link.page ≡ Some (words_of G h e.link)) × (length e.link.entries ≤ 12)) (without u.entries i)

-- The node has the entries es, and the pages have the edits.
abbrev pub Became : {K : Type 0} → Growing K → Pages → Pages → (h : ℕ) → List (Entry K (Link K h)) → Edits → Option Node → Type 0
Became G s t h es edits None = ⊥
Became G s t h es edits (Some n) = Stands G n (suc h) (on_page h es) × (t ≡ edited s edits)

-- The node and the pages become what the definitions say, whatever the key in reserve.
pub record Mends {K Q : Type 0} (C : Class K Q) (s t : Pages) (n : Node) (i : ℕ) (x : PagedNode) (r : Option Node) : Type 0 where
  pub says : (h : ℕ) (u : Tree K (suc h)) (v : Tree K h) (k : K) → Changed C.growing s n i x h u v
      → Became C.growing s t (suc h) (mended C h k u.entries i v) (mend_edits C h k u.entries i v) r

-- The same for a child with fewer than 4 entries.
pub record Joins {K Q : Type 0} (C : Class K Q) (s t : Pages) (n : Node) (i : ℕ) (x : PagedNode) (r : Option Node) : Type 0 where
  pub says : (h : ℕ) (u : Tree K (suc h)) (v : Tree K h) (k : K) → Changed C.growing s n i x h u v → length v.entries < 4
      → Became C.growing s t (suc h) (mended C h k u.entries i v) (mend_edits C h k u.entries i v) r

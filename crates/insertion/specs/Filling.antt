-- Entries written to a page, or shared out between it and a new page.
use Rattle.std.specs.Prelude.{◌≡◌, ℕ, ◌+◌, ◌<◌, ◌≤◌, true, List, [], ◌∷◌, ◌++◌, length, set, is_some, Some, None, Option, option_to_list}
use Rattle.page_store.specs.Pages.{Pages, at, free_pages}
use Rattle.key_class.specs.Class.{Growing, Class}
use Rattle.key_class.specs.Joined.{joined}
use Rattle.node.specs.Nodes.{Entry, keys, node_words, stay, go}
use Rattle.node.specs.InMemory.{Stands}
use Rattle.node.specs.declared.memory.Node.{Node}
use Rattle.tree_pages.specs.Laid.{Free}
use Rattle.insertion.specs.declared.change.Change.{Change}

-- The entries es fill page p; k is the union of their keys.
pub record OnePage {K : Type 0} (G : Growing K) (s t : Pages) (p level : ℕ) (es : List (Entry K ℕ)) (k : K) : Type 0 where
  pub few : length es ≤ 12
  pub pages : t ≡ set s p (Some (node_words G level es))
  pub key : joined G (keys es) ≡ Some k

-- The entries xs fill page p, and ys a page that was free; new is the entry for that page.
pub record TwoPages {K : Type 0} (G : Growing K) (s t : Pages) (p level : ℕ) (xs ys : List (Entry K ℕ)) (k : K) (new : Entry K ℕ) : Type 0 where
  pub free : Free s new.link
  pub pages : t ≡ set (set s new.link (Some (node_words G level ys))) p (Some (node_words G level xs))
  pub key : joined G (keys xs) ≡ Some k
  pub new_key : joined G (keys ys) ≡ Some new.key

pub record Split {K Q : Type 0} (G : Growing K) (C : Class K Q) (s t : Pages) (p level : ℕ) (es : List (Entry K ℕ)) (k : K) (new : Entry K ℕ) : Type 0 where
  pub many : length es ≡ 13
  pub two : TwoPages G s t p level (stay (C.split (keys es)) es) (go (C.split (keys es)) es) k new

-- Up to 12 entries on one page; 13 are split.
abbrev pub FilledBy : {K Q : Type 0} → Growing K → Class K Q → Pages → Pages → ℕ → ℕ → List (Entry K ℕ) → K → Option (Entry K ℕ) → Type 0
FilledBy G C s t p level es k None = OnePage G s t p level es k
FilledBy G C s t p level es k (Some new) = Split G C s t p level es k new

abbrev pub Filled : {K Q : Type 0} → Growing K → Class K Q → Pages → Pages → ℕ → ℕ → List (Entry K ℕ) → Option (Change K) → Type 0
Filled G C s t p level es None = ⊥
Filled G C s t p level es (Some c) = FilledBy G C s t p level es c.key c.split_off

-- A page that is held, and a free one where there is not room for the entries.
pub record Room (s : Pages) (p : ℕ) (n : ℕ) : Type 0 where
  pub held : is_some (at s p) ≡ true
  pub some : 1 ≤ n
  pub few : n ≤ 13
  pub spare : n ≡ 13 → 1 ≤ free_pages s

abbrev pub SharedBy : {K : Type 0} → Growing K → Pages → Pages → ℕ → ℕ → List (Entry K ℕ) → List (Entry K ℕ) → Option (Change K) → Type 0
SharedBy G s t p level xs ys None = ⊥
SharedBy {K} G s t p level xs ys (Some c) = (new : Entry K ℕ) × (c.split_off ≡ Some new) × TwoPages G s t p level xs ys c.key new

pub record Shares {K : Type 0} (G : Growing K) (s t : Pages) (p : ℕ) (stays goes : Node) (r : Option (Change K)) : Type 0 where
  pub says : (level : ℕ) (xs ys : List (Entry K ℕ)) → Stands G stays level xs → Stands G goes level ys → 1 ≤ length xs → 1 ≤ length ys
      → is_some (at s p) ≡ true → 1 ≤ free_pages s → SharedBy G s t p level xs ys r

pub record Adds {K Q : Type 0} (G : Growing K) (C : Class K Q) (s t : Pages) (p : ℕ) (n : Node) (e : Entry K ℕ) (r : Option (Change K)) : Type 0 where
  pub says : (level : ℕ) (es : List (Entry K ℕ)) → Stands G n level es → Room s p (length es + 1) → Filled G C s t p level (es ++ e ∷ []) r

pub record Regrows {K Q : Type 0} (G : Growing K) (C : Class K Q) (s t : Pages) (p : ℕ) (n : Node) (i child : ℕ) (c : Change K) (r : Option (Change K)) : Type 0 where
  pub says : (level : ℕ) (es : List (Entry K ℕ)) → Stands G n level es → i < length es → Room s p (length es + length (option_to_list c.split_off))
      → Filled G C s t p level (set es i (record { key = c.key; link = child }) ++ option_to_list c.split_off) r

-- Nodes: a level and entries, and the 64 words that they lie in.
use Rattle.std.specs.Prelude.{◌≡◌, ℕ, ◌-◌, ◌*◌, ◌≤◌, Bool, true, false, if◌then◌else◌, List, [], ◌∷◌, ◌++◌, map, length, replicate, ◌==◌, nat_lt}
use Rattle.std.specs.List.{flat_map, AllByRecursion}
pub use Rattle.std.specs.List.{remove as without}
use Rattle.key_class.specs.Class.{Growing}
use Rattle.node.specs.declared.entry.Entry as declared

-- A key, and a record number on a leaf or a child's page above.
abbrev pub Entry : Type 0 → Type 0 → Type 0
Entry K L = declared.Entry K L

abbrev pub keys : {K L : Type 0} → List (Entry K L) → List K
keys es = map (λ e. e.key) es

abbrev pub entry_words : {K : Type 0} → Growing K → Entry K ℕ → List ℕ
entry_words G e = G.squeeze e.key ++ e.link ∷ []

-- Word 0 is the level, word 1 the count of entries, words 2 and 3 are zero; then five words an entry, and zeros.
unfoldable pub node_words : {K : Type 0} → Growing K → ℕ → List (Entry K ℕ) → List ℕ
node_words G level es = level ∷ length es ∷ 0 ∷ 0 ∷ (flat_map (entry_words G) es ++ replicate (60 - 5 * length es) 0)

-- Record numbers, on a leaf, are above 0, and page numbers, above leaves, below 4,096.
abbrev pub link_fits : ℕ → ℕ → Bool
link_fits level n = if level == 1 then nat_lt 0 n else nat_lt n 4096

pub record IsNode {K : Type 0} (level : ℕ) (es : List (Entry K ℕ)) : Type 0 where
  pub low : 1 ≤ level
  pub high : level ≤ 7
  pub some : 1 ≤ length es
  pub few : length es ≤ 12
  pub links : AllByRecursion (λ e. link_fits level e.link ≡ true) es

-- By marks, of which true is for an entry that goes: those that stay, and those that go, both in order.
abbrev pub stay : {A : Type 0} → List Bool → List A → List A
stay [] xs = xs
stay (m ∷ ms) [] = []
stay (true ∷ ms) (x ∷ xs) = stay ms xs
stay (false ∷ ms) (x ∷ xs) = x ∷ stay ms xs

abbrev pub go : {A : Type 0} → List Bool → List A → List A
go [] xs = []
go (m ∷ ms) [] = []
go (true ∷ ms) (x ∷ xs) = x ∷ go ms xs
go (false ∷ ms) (x ∷ xs) = go ms xs

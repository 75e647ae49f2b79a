-- What a node and a pool of entries in memory stand for.
use Rattle.std.specs.Prelude.{◌≡◌, ℕ, ◌+◌, ◌*◌, List, ◌++◌, map, length, take, drop, slice_set}
use Rattle.key_class.specs.Class.{Growing}
use Rattle.node.specs.Nodes.{Entry, entry_words, node_words}
use Rattle.node.specs.Reading.{count_in}
use Rattle.node.specs.declared.memory.Node.{Node}
use Rattle.node.specs.declared.memory.Pool.{Pool}

abbrev pub words_in : Node → List ℕ
words_in n = n.words

-- The five words of entry i replaced by a row.
abbrev pub with_row : List ℕ → ℕ → List ℕ → List ℕ
with_row w i row = take (4 + 5 * i) w ++ (row ++ drop (9 + 5 * i) w)

-- One row more, behind the others.
abbrev pub pushed_row : List ℕ → List ℕ → List ℕ
pushed_row w row = slice_set (with_row w (count_in w) row) 1 (count_in w + 1)

-- The node has this level and these entries.
abbrev pub Stands : {K : Type 0} → Growing K → Node → ℕ → List (Entry K ℕ) → Type 0
Stands G n level es = words_in n ≡ node_words G level es

-- The rows that a pool holds.
abbrev pub rows_in : Pool → List (List ℕ)
rows_in p = take p.count p.rows

-- The pool holds these entries.
pub record Pooled {K : Type 0} (G : Growing K) (p : Pool) (es : List (Entry K ℕ)) : Type 0 where
  pub many : p.count ≡ length es
  pub rowed : rows_in p ≡ map (entry_words G) es

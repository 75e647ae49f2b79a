-- A node on a page of a store.
use Rattle.std.specs.Prelude.{◌≡◌, ℕ, true, false, cond, List, [], ◌∷◌, is_some, Some, None, Option, nat_le}
use Rattle.page_store.specs.Pages.{Pages, Words, at}
use Rattle.page_store.specs.Calls.{changed}
use Rattle.key_class.specs.Class.{Growing}
use Rattle.key_class.specs.Joined.{joined}
use Rattle.node.specs.Nodes.{Entry, keys}
use Rattle.node.specs.Reading.{count_in}
use Rattle.node.specs.InMemory.{words_in, Stands}
use Rattle.node.specs.declared.memory.Node.{Node}
use Rattle.gist.specs.Insert.{least_growth}

-- The words of a page that may be a node's; no page with more than 12 entries is.
abbrev pub adopted : Option Words → Option Words
adopted None = None
adopted (Some w) = cond (nat_le (count_in w) 12) (Some w) None

abbrev pub loaded : Pages → ℕ → Option Words
loaded s p = adopted (at s p)

-- A held page gets the words of the node, and the answer is the union of its keys.
pub record Saves {K : Type 0} (G : Growing K) (s t : Pages) (p : ℕ) (n : Node) (r : Option K) : Type 0 where
  pub pages : t ≡ changed s p (Some (words_in n))
  pub union : (level : ℕ) (es : List (Entry K ℕ)) → is_some (at s p) ≡ true → Stands G n level es → r ≡ joined G (keys es)
  pub not_held : is_some (at s p) ≡ false → r ≡ None

-- The place of the least growth, where there is an entry.
abbrev pub least_place : {K : Type 0} → Growing K → K → List (Entry K ℕ) → Option ℕ
least_place G k [] = None
least_place G k (e ∷ es) = Some (least_growth G k (e ∷ es))

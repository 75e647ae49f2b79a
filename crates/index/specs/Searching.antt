-- What a search has still to answer.
use Rattle.std.specs.Prelude.{◌≡◌, ℕ, List, [], ◌∷◌, Some, None, Option}
use Rattle.page_store.specs.Pages.{Pages}
use Rattle.page_store.specs.declared.store.PageStore.{Ghosts as StoreGhosts}
use Rattle.key_class.specs.declared.class.Key.{Ghosts as KeyGhosts}
use Rattle.key_class.specs.declared.class.KeyClass.{Ghosts as ClassGhosts}
use Rattle.key_class.specs.Class.{Class}
use Rattle.node.specs.Nodes.{Entry}
use Rattle.gist.specs.Tree.{Gist}
use Rattle.gist.specs.Search.{found}
use Rattle.cursor.specs.Awaits.{Awaits, entry}
use Rattle.cursor.specs.declared.cursor.Cursor.{Cursor}
use Rattle.cursor.specs.declared.found.Found.{Found}
use Rattle.index.specs.Standing.{StandsFor}
use Rattle.index.specs.declared.index.Index.{Index}
use Rattle.index.specs.declared.search.Search.{Search}
use Rattle.index.specs.declared.shape.Shape.{Shape}

module _ {K S Q : Type 0} {CG : ClassGhosts K Q} {KG : KeyGhosts K} {SG : StoreGhosts S} where
  abbrev pub index_in : Search K S Q CG KG SG → Index K S Q CG KG SG
  index_in x = x.index

  abbrev pub query_in : Search K S Q CG KG SG → Q
  query_in x = x.query

  abbrev pub cursor_in : Search K S Q CG KG SG → Cursor
  cursor_in x = x.cursor

  -- On the pages s the search has these records still to come.
  abbrev pub ToCome : Class K Q → Pages → Search K S Q CG KG SG → List (Entry K ℕ) → Type 0
  ToCome C s x todo = Awaits C s (query_in x) (cursor_in x) todo

  -- At its begin they are those that a search finds in the tree.
  pub record Begins (C : Class K Q) (s : Pages) (f : Shape) (x : Search K S Q CG KG SG) : Type 0 where
    pub says : (before : Pages) (w : Gist K) → StandsFor C.growing before s f w → ToCome C s x (found C (query_in x) w)

  -- The first of them is answered, and the others are still to come; or there was none.
  abbrev pub Next : Class K Q → Pages → Search K S Q CG KG SG → List (Entry K ℕ) → Option (Found K) → Type 0
  Next C s y todo None = (todo ≡ []) × ToCome C s y []
  Next C s y todo (Some f) = (rest : List (Entry K ℕ)) × (todo ≡ entry f ∷ rest) × ToCome C s y rest

  pub record Nexts (C : Class K Q) (s : Pages) (x y : Search K S Q CG KG SG) (r : Option (Found K)) : Type 0 where
    pub says : (todo : List (Entry K ℕ)) → ToCome C s x todo → Next C s y todo r

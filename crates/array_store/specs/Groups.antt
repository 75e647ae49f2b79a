-- The page that a group holds, and an edit of one group.
use Rattle.std.specs.Prelude.{◌≡◌, ℕ, Option, vec_items}
use Rattle.page_store.specs.Pages.{Words}
use Rattle.array_store.specs.Layout.{page_at, Edits}
use Rattle.array_store.specs.declared.groups.Groups.{Groups}

abbrev pub page_in : Groups → ℕ → Option Words
page_in g p = page_at (vec_items g.words) p

-- h has as many groups as g. Only that of page p differs, and it is the page x in h.
pub record EditsPage (g h : Groups) (p : ℕ) (x : Option Words) : Type 0 where
  pub size : h.size ≡ g.size
  pub words : Edits (vec_items g.words) (vec_items h.words) p x

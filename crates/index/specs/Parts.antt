-- What an index is made of.
use Rattle.page_store.specs.declared.store.PageStore.{Ghosts as StoreGhosts}
use Rattle.key_class.specs.declared.class.Key.{Ghosts as KeyGhosts}
use Rattle.key_class.specs.declared.class.KeyClass.{Ghosts as ClassGhosts}
use Rattle.index.specs.declared.index.Index.{Index}
use Rattle.index.specs.declared.shape.Shape.{Shape}

module _ {K S Q : Type 0} {C : ClassGhosts K Q} {G : KeyGhosts K} {P : StoreGhosts S} where
  abbrev pub store_in : Index K S Q C G P → S
  store_in i = i.store

  abbrev pub shape_in : Index K S Q C G P → Shape
  shape_in i = i.shape

-- That an index stands for a tree goes by what its store means.
use Rattle.std.proofs.Common.{◌≡◌, sym, subst}
use Rattle.page_store.specs.declared.store.PageStore.{Ghosts}
use Rattle.key_class.specs.Class.{Growing}
use Rattle.index.specs.Standing.{HasTree}
use Rattle.index.specs.declared.shape.Shape.{Shape}

-- With a store that means the same it stands for a tree still.
pub stands_still : {K S : Type 0} (G : Growing K) (M : Ghosts S) (s t : S) (f : Shape) → M.meaning t ≡ M.meaning s → ∥ HasTree G (M.meaning s) f ∥₁ → ∥ HasTree G (M.meaning t) f ∥₁
stands_still G M s t f same has = subst (λ p. ∥ HasTree G p f ∥₁) (sym same) has

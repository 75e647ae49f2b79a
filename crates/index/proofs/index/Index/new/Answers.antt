use Rattle.std.proofs.Common.{◌≡◌, ℕ, None, refl, arith}
use mathlib.Core.List.{Nodup-nil}
use Rattle.page_store.specs.Pages.{Pages, free_pages}
use Rattle.key_class.specs.Class.{Growing}
use Rattle.gist.specs.Tree.{empty}
use Rattle.index.specs.Standing.{StandsFor}
use Rattle.index.proofs.index.Index.new.Goals as goal

-- The empty tree.
stands : {K : Type 0} (G : Growing K) (s : Pages) (last free : ℕ) → free ≡ free_pages s → StandsFor G s s (record { root = None; last = last; records = 0; spare = free }) empty
stands G s last free is = record {
  on = record { rules = tt; fresh = record { free = tt; once = Nodup-nil }; laid = refl };
  starts = refl;
  numbered = tt;
  counted = refl;
  given = omega arith;
  spare = is;
}

pub invariant_of-result : goal.invariant_of-result
invariant_of-result g c = record { stands = ∣ (_, (empty, stands _ _ _ _ c.free_count.ensures)) ∣₁ }

pub returns : goal.returns
returns g c = record { store = refl; number = refl; empty = stands _ _ _ _ c.free_count.ensures }

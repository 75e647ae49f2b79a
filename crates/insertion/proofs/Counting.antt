-- How many pages an insert under a node takes, and that there is room for what comes of it.
use Rattle.std.proofs.Common.{◌≡◌, ℕ, suc, ◌+◌, ◌≤◌, cond, leb, List, [], ◌∷◌, ◌++◌, map, length, replicate, None, ap, arith, length-append, option_to_list}
use lib.ListN.{length-replicate, length-map}
use Rattle.page_store.specs.Pages.{Pages, free_pages}
use Rattle.page_store.proofs.Calling.{Held}
use Rattle.key_class.specs.Class.{Class, Lawful}
use Rattle.gist.specs.Tree.{Tree, entry_for}
use Rattle.gist.specs.Insert.{Step, way_under, splits, new_root}
use Rattle.gist.specs.Writes.{writes_under}
use Rattle.gist.proofs.Inserting.{Grew, grew}
use Rattle.tree_pages.specs.Laid.{Lies}
use Rattle.tree_pages.proofs.Lying.{length_on_page}
use Rattle.tree_pages.proofs.Over.{over_held}
use Rattle.insertion.specs.Refusals.{asked}
use Rattle.insertion.specs.Filling.{Room}
use Rattle.insertion.specs.Under.{Inserted}
use Rattle.insertion.specs.declared.change.Change.{Change}
use Rattle.insertion.proofs.Asking.{enough_free, splits_next}

module _ {K Q : Type 0} (C : Class K Q) (law : Lawful C) (s t : Pages) (k : K) (n h : ℕ) (u : Tree K h) (c : Change K) (lies : Lies C.growing s h u) (x : Inserted C s t k n h u c) where
  abbrev steps : List Step
  steps = way_under C.growing k h u

  spare : List ℕ
  spare = replicate (splits steps) 0

  grown : Grew C.growing k n h 1 (x.taken ++ spare) u steps (writes_under C k n h (x.taken ++ spare) u) (record { node = x.node; split_off = x.split_off; unused = spare })
  unfolding spare
  grown = rw (x.is spare) at
      (grew C law k n h 1 (x.taken ++ spare) u (omega arith) (omega arith) (record { size = lies.size; below = lies.below })
      (omega (arith, length-append x.taken spare, length-replicate {A = ℕ} (splits steps) 0)))

  -- As many as there are full nodes from the leaf up.
  pub taken_is : length x.taken ≡ splits steps
  taken_is = omega (arith, grown.used, length-append x.taken spare)

  -- The node is split just where all on the way are full.
  pub split_is : length x.split_off ≡ cond (new_root steps) 1 0
  split_is = grown.few

  pub long_is : length steps ≡ h + 1
  long_is = grown.long

  pub rest_is : length x.split_off ≡ length (option_to_list c.split_off)
  rest_is = omega (arith, ap length x.told, length_on_page (suc h) (map (entry_for C.growing h k) x.split_off), length-map x.split_off (entry_for C.growing h k))

  -- A page of size entries that is to get the node split off.
  pub room_for : (p : ℕ) (above : Step) (more : List Step) (size : ℕ) → Held s p → above.full ≡ leb 12 size → 1 ≤ size → size ≤ 12
      → asked (steps ++ above ∷ more) (free_pages s) ≡ None → Room t p (size + length (option_to_list c.split_off))
  room_for p above more size held full some few none = record {
    held = rw (x.pages []) (over_held s (writes_under C k n h (x.taken ++ []) u) p held);
    some = omega arith;
    few = grind (arith, rest_is, split_is);
    spare = λ e. grind (arith, rest_is, split_is, taken_is, x.left, splits_next steps more above, enough_free (steps ++ above ∷ more) (free_pages s) none);
  }

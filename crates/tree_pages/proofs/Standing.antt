-- What is known of a tree on pages: its pages have their words, and how many pages are free.
use Rattle.std.proofs.Common.{◌≡◌, ℕ, ◌+◌, ◌≤◌, List, [], ◌∷◌, ◌++◌, map, length, is_some, Some, None, sym, ap, ◌∙◌, subst, arith}
use mathlib.Core.List.Perm
use mathlib.Core.List.{Nodup, Nodup-append, Perm}
use lib.ListN.{length-map}
use Rattle.std.specs.List.{AllByRecursion}
use Rattle.std.proofs.lemmas.Bool.{both_ways}
use Rattle.page_store.specs.Pages.{Pages, at, free_pages}
use Rattle.page_store.proofs.Calling.{Held}
use Rattle.key_class.specs.Class.{Growing, Coded, Class, Lawful}
use Rattle.gist.specs.Tree.{Gist, Written, levels, pages, written}
use Rattle.gist.specs.Insert.{way, needed, inserted}
use Rattle.gist.specs.Remove.{removed}
use Rattle.gist.specs.Theorems.{numbers, StandsOn}
use Rattle.gist.specs.Writes.{insert_writes, remove_edits, AddsWriting, TakesEditing, Edited}
use Rattle.gist.proofs.Lists.{all_map, all-++, all_left, all_right}
use Rattle.gist.proofs.Paged.{pages_written}
use Rattle.gist.proofs.Inserting.{writes_adding, pages_added}
use Rattle.gist.proofs.Removing.{removes_editing, pages_taken}
use Rattle.tree_pages.specs.Laid.{over, Free, Fresh, OnPages}
use Rattle.tree_pages.proofs.Once.{all_mem, once_both}
use Rattle.tree_pages.proofs.Over.{length_over, over_none}
use Rattle.tree_pages.proofs.Sets.{sets, mem_found}
use Rattle.tree_pages.proofs.Laying.{all_from_mem, relaid, relaid_by, stands_over, free_over}

module _ {K : Type 0} (G : Growing K) (before s : Pages) (w : Gist K) (on : OnPages G before s w) where
  fresh_numbers : Fresh before (numbers (written G w))
  fresh_numbers = rw pages_written on.fresh

  pub stands : StandsOn s (written G w)
  stands = rw on.laid (stands_over before (written G w) fresh_numbers.once (all_map (λ p f. f.0) (numbers (written G w)) fresh_numbers.free))

  pub same_size : length s ≡ length before
  same_size = ap length on.laid ∙ length_over before (written G w)

  pub free_left : free_pages s + length (pages w) ≡ free_pages before
  free_left =
      let a = free_over before (written G w) fresh_numbers in
      let b : length (pages w) ≡ length (written G w) = ap length (sym (pages_written G w)) ∙ length-map (written G w) (λ x. x.0) in
      let c : free_pages s ≡ free_pages (over before (written G w)) = ap free_pages on.laid in
      omega arith

  pub pages_held : AllByRecursion (Held s) (pages w)
  pages_held = rw (← pages_written G w) (held_numbers (written G w) stands)
    where
      held_numbers : (ws : Written) → StandsOn s ws → AllByRecursion (Held s) (numbers ws)
      held_numbers [] a = tt
      held_numbers (x ∷ xs) a = (ap is_some a.0, held_numbers xs a.1)

pub all_perm : (P : ℕ → Type 0) {xs ys : List ℕ} → Perm xs ys → AllByRecursion P ys → AllByRecursion P xs
all_perm P {xs} {ys} p a = all_from_mem P xs (λ x m. all_mem P ys x a (mem_found x ys ((Perm.mem_iff p).0 m)))

module _ {K Q : Type 0} (C : Class K Q) (law : Lawful C) (before s t : Pages) (w : Gist K) (k : K) (n : ℕ) (fs : List ℕ) (on : OnPages C.growing before s w) where
  abbrev G : Growing K
  G = C.growing

  -- The tree with one record more, on the pages with those written that the definition writes.
  pub inserted_on : length fs ≡ needed (way G k w) → Fresh s fs → t ≡ over s (insert_writes C k n fs w) → levels (inserted C k n fs w) ≤ 7 → OnPages G before t (inserted C k n fs w)
  inserted_on many fresh writes low = record {
    rules = a.adds.rules low;
    fresh = record {
      free = all_perm (Free before) (pages_added G a) (all-++ (Free before) (pages w) fs on.fresh.free (all_map (λ p f. (omega (arith, f.0, same_size G before s w on), free_before p f.1)) fs fresh.free));
      once = once;
    };
    laid = writes ∙ ap (over s) (sym a.come_is) ∙ ap (λ (x : Pages). over x a.adds.differ.come) on.laid
        ∙ relaid before (written G w) (written G (inserted C k n fs w)) (map (λ x. x.page) (way G k w)) fs a.adds.differ (rw pages_written on.fresh.once) (rw pages_written once);
  }
    where
      a : AddsWriting G w (inserted C k n fs w) k n fs (insert_writes C k n fs w)
      a = writes_adding C law w k n fs on.rules many

      free_before : (p : ℕ) → at s p ≡ None → at before p ≡ None
      free_before p e = over_none before (written G w) p (ap (λ (x : Pages). at x p) (sym on.laid) ∙ e)

      once : Nodup (pages (inserted C k n fs w))
      once = a.adds.once (once_both (Held s) (Free s) (λ p h f. both_ways (is_some (at s p)) (ap is_some f.1) h) (pages w) fs (pages_held G before s w on) fresh.free on.fresh.once fresh.once)

module _ {K Q : Type 0} (C : Class K Q) (coded : Coded C.growing) (law : Lawful C) (before s t : Pages) (w z : Gist K) (k : K) (n : ℕ) (on : OnPages C.growing before s w) where
  -- The tree without the record, on the pages as the edits of the definition leave them.
  pub removed_on : removed C k n w ≡ Some z → t ≡ sets s (remove_edits C k n w) → OnPages C.growing before t z
  removed_on is done = record {
    rules = a.takes.rules;
    fresh = record { free = all_left (Free before) (pages z) a.takes.given_back free; once = (Nodup-append.0 once).0 };
    laid = done ∙ ap (λ (x : Pages). sets x (remove_edits C k n w)) on.laid
        ∙ relaid_by before (written C.growing w) (written C.growing z) a.takes.differ a.takes.given_back (remove_edits C k n w) a.takes.split a.edits_are
        (all_map (λ p f. f.1) a.takes.given_back (all_right (Free before) (pages z) a.takes.given_back free))
        (rw pages_written on.fresh.once) (rw pages_written once);
  }
    where
      a : TakesEditing C.growing w z k n (remove_edits C k n w)
      a = subst (Edited C.growing w k n (remove_edits C k n w)) is (removes_editing C coded law w k n on.rules)

      free : AllByRecursion (Free before) (pages z ++ a.takes.given_back)
      free = all_perm (Free before) (pages_taken C.growing a) on.fresh.free

      once : Nodup (pages z ++ a.takes.given_back)
      once = a.takes.once on.fresh.once

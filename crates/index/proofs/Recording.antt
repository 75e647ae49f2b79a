-- What an index stands for after an insert and after a removal.
use Rattle.std.proofs.Common.{◌≡◌, ◌≢◌, ℕ, ◌+◌, ◌-◌, ◌<◌, min, List, Some, Option, ok_or, Result, Ok, Err, refl, ◌∙◌, subst, arith}
use mathlib.Core.List.Perm
use Rattle.std.proofs.lemmas.Bool.{cond-true, lt-ltb}
use Rattle.std.proofs.lemmas.Grind.{not_there}
use Rattle.std.specs.Option.{SomeIff}
use Rattle.page_store.specs.Pages.{Pages, free_pages}
use Rattle.key_class.specs.Class.{Coded, Class, Lawful}
use Rattle.gist.specs.Tree.{Gist}
use Rattle.gist.specs.Insert.{Step, way, inserted}
use Rattle.gist.specs.Remove.{removed}
use Rattle.gist.specs.Rules.{Between}
use Rattle.gist.specs.Writes.{insert_writes, remove_edits, AddsWriting, TakesEditing, Edited}
use Rattle.gist.proofs.Lists.{all_map}
use Rattle.gist.proofs.Perms.{map_perm, length_perm}
use Rattle.gist.proofs.Inserting.{writes_adding}
use Rattle.gist.proofs.Removing.{removes_editing}
use Rattle.tree_pages.specs.declared.root.Root.{Root}
use Rattle.tree_pages.specs.Laid.{edited, start_of}
use Rattle.tree_pages.proofs.Standing.{all_perm, stands, removed_on}
use Rattle.insertion.specs.Whole.{Done, InsertsInto}
use Rattle.insertion.specs.Refusals.{insert_refusal}
use Rattle.insertion.specs.declared.refusal.InsertRefusal.{InsertRefusal}
use Rattle.removal.specs.Whole.{RemovesFrom}
use Rattle.removal.specs.declared.refusal.RemoveRefusal.{RemoveRefusal}
use Rattle.index.specs.Standing.{last_number, record_numbers, StandsFor, HasTree}
use Rattle.index.specs.Inserting.{Inserted, Inserts}
use Rattle.index.specs.Removing.{Removed, Removes}
use Rattle.index.specs.declared.shape.Shape.{Shape}

-- The number after the last one, where it fits.
pub next_is : (o : Option ℕ) (e : InsertRefusal) (last n : ℕ) → SomeIff o (last + 1 < 4294967296) (last + 1) → Ok n ≡ ok_or o e → (n ≡ last + 1) × (last < 4294967295)
next_is o e last n some is = grind arith

module _ {K Q : Type 0} (C : Class K Q) (law : Lawful C) (s t : Pages) (f : Shape) (k : K) (n : ℕ) (r : Root) (count : ℕ)
    (next : (n ≡ f.last + 1) × (f.last < 4294967295)) (one_more : count ≡ min (f.records + 1) 4294967295) where
  abbrev after : Shape
  after = record { root = Some r; last = n; records = count; spare = f.spare }

  done : (before : Pages) (w : Gist K) → StandsFor C.growing before s f w → Done C before s t w k n r → Inserted C before s t w f after k n
  done before w st d = record {
    number = next.0;
    last = refl;
    taken = d.taken;
    many = d.many;
    fresh = d.fresh;
    stands = record {
      on = d.on;
      starts = d.starts;
      numbered = all_perm (Between 1 n) (map_perm (λ x. x.link) a.adds.one_more) ((omega (arith, next.0), omega arith), all_map (λ m b. omega (arith, next.0, b)) (record_numbers w) st.numbered);
      counted = omega (arith, st.counted, st.given, length_perm a.adds.one_more);
      given = omega (arith, next.0, st.given, length_perm a.adds.one_more);
      spare = st.spare;
    };
  }
    where
      a : AddsWriting C.growing w (inserted C k n d.taken w) k n d.taken (insert_writes C k n d.taken w)
      a = writes_adding C law w k n d.taken st.on.rules d.many

  pub inserts : InsertsInto C s t f.root k n (Ok r) → Inserts C s t f after k (Ok n)
  inserts into = record {
    says = λ before w st.
        let o = into.says before w st.on st.starts in
        (cond-true _ _ _ (lt-ltb f.last 4294967295 next.1) ∙ o.0, done before w st o.1);
  }

pub refuses_insert : {K Q : Type 0} (C : Class K Q) (s t : Pages) (f : Shape) (k : K) (n : ℕ) (e : InsertRefusal) → (n ≡ f.last + 1) × (f.last < 4294967295) → InsertsInto C s t f.root k n (Err e) → Inserts C s t f f k (Err e)
refuses_insert C s t f k n e next into = record {
  says = λ before w st.
      let o = into.says before w st.on st.starts in
      (cond-true _ _ _ (lt-ltb f.last 4294967295 next.1) ∙ o.0, o.1, refl);
}

module _ {K Q : Type 0} (C : Class K Q) (coded : Coded C.growing) (law : Lawful C) (s t : Pages) (f : Shape) (k : K) (n : ℕ) where
  module _ (r : Option Root) (count : ℕ) (one_less : count ≡ f.records - 1) where
    abbrev left : Shape
    left = record { root = r; last = f.last; records = count; spare = f.spare }

    taken : (before : Pages) (w : Gist K) → StandsFor C.growing before s f w → (z : Gist K) → removed C k n w ≡ Some z → t ≡ edited s (remove_edits C k n w) → r ≡ start_of z → Removed C before t w f left k n
    taken before w st z is edits starts = record {
      tree = z;
      is = is;
      last = refl;
      stands = record {
        on = removed_on C coded law before s t w z k n st.on is edits;
        starts = starts;
        numbered = (all_perm (Between 1 f.last) (Perm.symm (map_perm (λ x. x.link) a.takes.one_less)) st.numbered).1;
        counted = omega (arith, st.counted, length_perm a.takes.one_less);
        given = omega (arith, st.given, length_perm a.takes.one_less);
        spare = st.spare;
      };
    }
      where
        a : TakesEditing C.growing w z k n (remove_edits C k n w)
        a = subst (Edited C.growing w k n (remove_edits C k n w)) is (removes_editing C coded law w k n st.on.rules)

    pub removes : RemovesFrom C s t f.root k n (Ok r) → Removes C s t f left k n (Ok tt)
    removes from = record {
      says = λ before w st.
          let o = from.says w st.on.rules (stands C.growing before s w st.on) st.on.fresh.once st.starts in
          taken before w st o.0 o.1 o.2 o.3;
    }

  pub refuses : (e : RemoveRefusal) → RemovesFrom C s t f.root k n (Err e) → Removes C s t f f k n (Err e)
  refuses e from = record {
    says = λ before w st.
        let o = from.says w st.on.rules (stands C.growing before s w st.on) st.on.fresh.once st.starts in
        (o.0, o.1, o.2, refl);
  }

-- An index that stands for a tree stands for one after a call, whatever it answers.
pub tree_inserted : {K Q : Type 0} {C : Class K Q} {s t : Pages} {f g : Shape} {k : K} (r : Result ℕ InsertRefusal) → Inserts C s t f g k r → HasTree C.growing s f → HasTree C.growing t g
tree_inserted {C = C} {k = k} (Ok n) i (before, (w, st)) = let a = (i.says before w st).1 in (before, (inserted C k n a.taken w, a.stands))
tree_inserted {C = C} (Err e) i (before, (w, st)) = let a = i.says before w st in (before, (w, rw (a.1, a.2) st))

pub tree_removed : {K Q : Type 0} {C : Class K Q} {s t : Pages} {f g : Shape} {k : K} {n : ℕ} (r : Result Unit RemoveRefusal) → Removes C s t f g k n r → HasTree C.growing s f → HasTree C.growing t g
tree_removed {C = C} (Ok u) i (before, (w, st)) = let a = i.says before w st in (before, (a.tree, a.stands))
tree_removed {C = C} (Err e) i (before, (w, st)) = let a = i.says before w st in (before, (w, rw (a.2, a.3) st))

-- It never answers that the pages form none.
no_such_refusal : (last : ℕ) (steps : List Step) (free : ℕ) → insert_refusal last steps free ≢ Some InsertRefusal.NotATree
no_such_refusal last steps free e = grind arith

pub inserts_into_a_tree : {K Q : Type 0} {C : Class K Q} {s t : Pages} {f g : Shape} {k : K} (r : Result ℕ InsertRefusal) → Inserts C s t f g k r → ∥ HasTree C.growing s f ∥₁ → r ≢ Err InsertRefusal.NotATree
inserts_into_a_tree {K} {C = C} {s} {t} {f} {g} {k} r i has e = not_there has (by r i e)
  where
    by : (r : Result ℕ InsertRefusal) → Inserts C s t f g k r → r ≡ Err InsertRefusal.NotATree → ¬ (HasTree C.growing s f)
    by (Ok n) i e h = cc
    by (Err x) i e (before, (w, st)) = let a = (i.says before w st).0 in no_such_refusal (last_number f) (way C.growing k w) (free_pages s) cc

pub removes_from_a_tree : {K Q : Type 0} {C : Class K Q} {s t : Pages} {f g : Shape} {k : K} {n : ℕ} (r : Result Unit RemoveRefusal) → Removes C s t f g k n r → ∥ HasTree C.growing s f ∥₁ → r ≢ Err RemoveRefusal.NotATree
removes_from_a_tree {K} {C = C} {s} {t} {f} {g} {k} {n} r i has e = not_there has (by r i e)
  where
    by : (r : Result Unit RemoveRefusal) → Removes C s t f g k n r → r ≡ Err RemoveRefusal.NotATree → ¬ (HasTree C.growing s f)
    by (Ok u) i e h = cc
    by (Err x) i e (before, (w, st)) = let a = (i.says before w st).0 in cc

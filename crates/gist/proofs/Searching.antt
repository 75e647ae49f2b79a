-- A search finds what matches.
use Rattle.std.proofs.Common.{◌≡◌, ℕ, zero, suc, Bool, true, false, cond, List, [], ◌∷◌, Some, filter, sym, refl, ◌∙◌, subst}
use Rattle.std.specs.List.{flat_map, AllByRecursion}
use Rattle.std.proofs.lemmas.Option.{same_Some}
use Rattle.key_class.specs.Class.{Class, Lawful}
use Rattle.key_class.specs.Joined.{joined_onto, joined as union-all}
use Rattle.node.specs.Nodes.{Entry, keys}
use Rattle.gist.specs.Tree.{Link, empty, root, records_at}
use Rattle.gist.specs.Search.{found_at}
use Rattle.gist.specs.Rules.{Ruled}
use Rattle.gist.specs.Theorems.{SearchFinds}
use Rattle.gist.proofs.Lists.{all_map, all_map₂, all_joined, kept_none, kept_joined, joined_same}

module _ {K Q : Type 0} (C : Class K Q) (law : Lawful C) where
  onto_covers_first : (k : K) (xs : List K) → C.covers (joined_onto C.growing k xs) k ≡ true
  onto_covers_first k [] = law.covers_itself k
  onto_covers_first k (x ∷ xs) =
      law.covers_through _ _ _ (onto_covers_first (C.growing.union k x) xs) (law.union_covers_first k x)

  onto_covers : {L : Type 0} (k : K) (es : List (Entry K L)) → AllByRecursion (λ e. C.covers (joined_onto C.growing k (keys es)) e.key ≡ true) es
  onto_covers k [] = tt
  onto_covers k (e ∷ es) = (
    law.covers_through _ _ _ (onto_covers_first (C.growing.union k e.key) (keys es)) (law.union_covers_second k e.key),
    onto_covers (C.growing.union k e.key) es,
  )

  -- The union of some keys covers each.
  union_covers : {L : Type 0} (k : K) (es : List (Entry K L)) → union-all C.growing (keys es) ≡ Some k → AllByRecursion (λ e. C.covers k e.key ≡ true) es
  union_covers k [] u = tt
  union_covers {L} k (e ∷ es) u = subst (λ j. AllByRecursion {X = Entry K L} (λ f. C.covers j f.key ≡ true) (e ∷ es)) (same_Some _ _ u) (onto_covers_first e.key (keys es), onto_covers e.key es)

  -- Whatever covers an entry's key covers the keys of all records that it leads to.
  pub covers_below : (h : ℕ) (k : K) (e : Entry K (Link K h)) → Ruled C.growing h e → C.covers k e.key ≡ true →
      AllByRecursion (λ r. C.covers k r.key ≡ true) (records_at h e)
  covers_below zero k e rule c = (c, tt)
  covers_below (suc h) k e rule c =
      all_joined _ (records_at h) e.link.entries
      (all_map₂ (λ f r b. covers_below h k f r (law.covers_through _ _ _ c b)) e.link.entries rule.2
      (union_covers e.key e.link.entries rule.0))

  -- An entry that cannot hold a match has none below.
  no_match : (q : Q) (k r : K) → C.may_hold k q ≡ false → C.covers k r ≡ true → C.matches r q ≡ false
  no_match q k r m c = step (C.matches r q) refl
    where
      step : (b : Bool) → C.matches r q ≡ b → b ≡ false
      step false e = refl
      step true e = cc (law.may_hold_a_match k r q c e)

  finds_at : (q : Q) (h : ℕ) (e : Entry K (Link K h)) → Ruled C.growing h e → found_at C q h e ≡ filter (λ r. C.matches r.key q) (records_at h e)
  finds_at q zero e rule = refl
  finds_at q (suc h) e rule = step (C.may_hold e.key q) refl
      (joined_same _ _ e.link.entries (all_map (finds_at q h) e.link.entries rule.2) ∙ sym (kept_joined _ (records_at h) e.link.entries))
    where
      step : (b : Bool) → C.may_hold e.key q ≡ b → flat_map (found_at C q h) e.link.entries ≡ filter (λ r. C.matches r.key q) (records_at (suc h) e) →
          cond b (flat_map (found_at C q h) e.link.entries) [] ≡ filter (λ r. C.matches r.key q) (records_at (suc h) e)
      step true m same = same
      step false m same = sym (kept_none _ (records_at (suc h) e)
          (all_map (λ r. no_match q e.key r.key m) (records_at (suc h) e) (covers_below (suc h) e.key e rule (law.covers_itself e.key))))

  pub finds : SearchFinds C
  finds empty q rules = refl
  finds (root h t) q rules = joined_same _ _ t.entries (all_map (finds_at q h) t.entries rules.2) ∙ sym (kept_joined _ (records_at h) t.entries)

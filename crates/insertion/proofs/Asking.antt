-- The questions, asked of a full leaf and the way above it.
use Rattle.std.proofs.Common.{◌≡◌, ◌≢◌, ℕ, suc, ◌+◌, ◌<◌, ◌≤◌, min, Bool, true, false, cond, ◌&&◌, eqb, leb, List, [], ◌∷◌, ◌++◌, length, Some, None, Option, sym, refl, ap, ◌∙◌, arith}
use Rattle.std.proofs.lemmas.Bool.{cond-true, cond-false, le-leb, lt-leb, eq-eqb, ne_eqb}
use Rattle.gist.proofs.Inserting.{splits_within}
use Rattle.insertion.specs.Way.{Knows}
use Rattle.insertion.specs.declared.above.Above.{Above}
use Rattle.gist.specs.Insert.{Step, splits, new_root}
use Rattle.insertion.specs.Refusals.{asked}
use Rattle.insertion.specs.declared.refusal.InsertRefusal.{InsertRefusal}
use Rattle.insertion.specs.declared.refusal.InsertRefusal.TheVariants.{TooManyLevels, TooFewPages}

-- n pages are split, of so many levels; b says whether that is all.
abbrev pub asked_of : Bool → ℕ → ℕ → ℕ → Option InsertRefusal
asked_of b n levels free =
    cond (b && leb 7 levels) (Some TooManyLevels) (cond (leb (n + cond b 1 0) free) None (Some (TooFewPages (n + cond b 1 0) free)))

-- All n levels are split, and a new root is put above; or fewer are.
pub data Ways (n levels needed : ℕ) : Type 0 where
  as_root : n ≡ levels → levels < 7 → needed ≡ n + 1 → Ways n levels needed
  below_root : n ≢ levels → needed ≡ n → Ways n levels needed

module _ (steps : List Step) (leaf : Step) (full : leaf.full ≡ true) where
  module _ (n levels free : ℕ) (run : n ≡ 1 + splits steps) (all : levels ≡ 1 + length steps) where
    known : (b : Bool) → eqb n levels ≡ b → asked (leaf ∷ steps) free ≡ asked_of b n levels free
    known b e =
        let long : levels ≡ suc (length steps) = omega arith in
        (rw (full, run, long) refl) ∙ ap (λ (c : Bool). asked_of c n levels free) e

    pub too_many : n ≡ levels → 7 ≤ levels → asked (leaf ∷ steps) free ≡ Some TooManyLevels
    too_many e l = known true (eq-eqb n levels e) ∙ cond-true _ _ _ (le-leb 7 levels l)

    by_count : (needed : ℕ) → Ways n levels needed → asked (leaf ∷ steps) free ≡ cond (leb needed free) None (Some (TooFewPages needed free))
    by_count needed (as_root e l m) =
        known true (eq-eqb n levels e) ∙ cond-false _ _ _ (lt-leb 7 levels l)
        ∙ ap (λ (x : ℕ). cond (leb x free) None (Some (TooFewPages x free))) (sym m)
    by_count needed (below_root e m) =
        let z : n + 0 ≡ needed = omega arith in
        known false (ne_eqb n levels e) ∙ ap (λ (x : ℕ). cond (leb x free) None (Some (TooFewPages x free))) z

  module _ (n levels free needed count : ℕ) (run : n ≡ 1 + splits steps) (all : levels ≡ 1 + length steps) (ways : Ways n levels needed) (is : count ≡ free) where
    pub too_few : count < needed → asked (leaf ∷ steps) free ≡ Some (TooFewPages needed count)
    too_few l = by_count n levels free run all needed ways ∙ cond-false _ _ _ (lt-leb needed free (omega arith)) ∙ ap (λ (x : ℕ). Some (TooFewPages needed x)) (sym is)

    pub enough : needed ≤ count → asked (leaf ∷ steps) free ≡ None
    enough l = by_count n levels free run all needed ways ∙ cond-true _ _ _ (le-leb needed free (omega arith))

-- Of a full leaf, by the words of the code: n pages are split.
pub of_full : (a : Above) (steps : List Step) (leaf : Step) (free n : ℕ) → Knows a 1 steps → leaf.full ≡ true → n ≡ min (a.run + 1) 4294967295
    → asked (leaf ∷ steps) free ≡ asked_of (eqb n a.levels) n a.levels free
of_full a steps leaf free n kn full is =
    let run : n ≡ 1 + splits steps = omega (arith, splits_within steps, kn.levels, kn.low) in
    let all : a.levels ≡ 1 + length steps = omega (arith, kn.levels) in
    known steps leaf full n a.levels free run all (eqb n a.levels) refl

-- A leaf that is not full asks nothing.
pub not_full : (steps : List Step) (leaf : Step) (free : ℕ) → leaf.full ≡ false → asked (leaf ∷ steps) free ≡ None
not_full steps leaf free full = rw full (grind arith)

-- Where nothing is refused, enough pages are free.
pub enough_free : (steps : List Step) (free : ℕ) → asked steps free ≡ None → splits steps + cond (new_root steps) 1 0 ≤ free
enough_free steps free e = grind arith

-- All below are split, and the next is full: so it is split too.
pub splits_next : (xs ys : List Step) (y : Step) → splits xs ≡ length xs → y.full ≡ true → length xs + 1 ≤ splits (xs ++ y ∷ ys)
splits_next [] ys y e full = grind arith
splits_next (x ∷ xs) ys y e full = grind (arith, splits_next xs ys y)

-- The entry of the least growth, place by place.
use Rattle.std.proofs.Common.{◌≡◌, ℕ, zero, suc, ◌+◌, ◌<◌, ◌≤◌, cond, ltb, List, [], ◌∷◌, map, length, drop, Some, None, sym, refl, ap, ◌∙◌, arith}
use lib.ListN.{length-map}
use Rattle.std.specs.Option.{option_map}
use Rattle.std.specs.List.{slice_get}
use Rattle.std.proofs.lemmas.List.{at_drop_all}
use Rattle.std.proofs.lemmas.Bool.{cond-true, cond-false, lt-ltb, le-ltb}
use Rattle.key_class.specs.Class.{Growing}
use Rattle.std.proofs.lemmas.Option.{none-some}
use Rattle.node.specs.Nodes.{Entry}
use Rattle.node.proofs.Places.{here}
use Rattle.gist.specs.Insert.{least, least_from}
use Rattle.tree_pages.specs.OneNode.{least_place}

-- What the key of each entry would grow by.
abbrev pub growths : {K : Type 0} → Growing K → K → List (Entry K ℕ) → List ℕ
growths G k es = map (λ e. G.growth e.key k) es

pub some_there : {X Y : Type 0} (f : X → Y) (xs : List X) (i : ℕ) → i < length xs → None ≡ option_map f (slice_get xs i) → ⊥
some_there f xs i l n = none-some _ (n ∙ ap (option_map f) (here xs i l).there)

module _ {K : Type 0} (G : Growing K) (k : K) where
  pub none_first : (es : List (Entry K ℕ)) → None ≡ option_map (λ e. e.key) (slice_get es 0) → None ≡ least_place G k es
  none_first [] n = refl
  none_first (e ∷ es) n = absurd (none-some _ n)

  pub growth_first : (es : List (Entry K ℕ)) (x : K) (n : ℕ) → Some x ≡ option_map (λ e. e.key) (slice_get es 0) → n ≡ G.growth x k
      → least_from 0 n 1 (drop 1 (growths G k es)) ≡ least (growths G k es)
  growth_first [] x n s e = absurd (none-some _ (sym s))
  growth_first (y ∷ es) x n s e =
      let same : x ≡ y.key = cc in
      ap (λ (m : ℕ). least_from 0 m 1 (growths G k es)) (e ∙ ap (λ (z : K). G.growth z k) same)

  -- The growth at place i, and what is behind it.
  growth_here : (es : List (Entry K ℕ)) (i : ℕ) (x : K) → Some x ≡ option_map (λ e. e.key) (slice_get es i)
      → drop i (growths G k es) ≡ G.growth x k ∷ drop (i + 1) (growths G k es)
  growth_here [] i x s = absurd (none-some _ (sym s))
  growth_here (y ∷ es) zero x s = let same : x ≡ y.key = cc in ap (λ (z : K). G.growth z k ∷ growths G k es) (sym same)
  growth_here (y ∷ es) (suc i) x s =
      let up : suc i + 1 ≡ suc (i + 1) = omega arith in
      growth_here es i x s ∙ ap (λ (m : ℕ). G.growth x k ∷ drop m (growths G k (y ∷ es))) (sym up)

  module _ (es : List (Entry K ℕ)) (i best low : ℕ) (x : K) (n : ℕ) (s : Some x ≡ option_map (λ e. e.key) (slice_get es i)) (e : n ≡ G.growth x k) where
    abbrev here_from : ℕ → ℕ → ℕ
    here_from at low = least_from at low (i + 1) (drop (i + 1) (growths G k es))

    one_on : least_from best low i (drop i (growths G k es)) ≡ cond (ltb n low) (here_from i n) (here_from best low)
    one_on =
        ap (least_from best low i) (growth_here es i x s)
        ∙ ap (λ (m : ℕ). cond (ltb m low) (here_from i m) (here_from best low)) (sym e)

    pub less_here : n < low → here_from i n ≡ least_from best low i (drop i (growths G k es))
    less_here l = sym (one_on ∙ cond-true _ _ _ (lt-ltb n low l))

    pub no_less_here : low ≤ n → here_from best low ≡ least_from best low i (drop i (growths G k es))
    no_less_here l = sym (one_on ∙ cond-false _ _ _ (le-ltb n low l))

  pub least_all : (es : List (Entry K ℕ)) (x : K) (i best low : ℕ) → Some x ≡ option_map (λ e. e.key) (slice_get es 0) → length es ≤ i
      → least_from best low i (drop i (growths G k es)) ≡ least (growths G k es) → Some best ≡ least_place G k es
  least_all [] x i best low s l e = absurd (none-some _ (sym s))
  least_all (y ∷ es) x i best low s l e =
      ap Some (sym (at_drop_all (least_from best low i) (growths G k (y ∷ es)) i (omega (arith, length-map (y ∷ es) (λ z. G.growth z.key k)))) ∙ e)

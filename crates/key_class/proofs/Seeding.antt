-- The seeds are the first pair whose larger growth is greatest.
use Rattle.std.proofs.Common.{◌≡◌, ℕ, suc, ◌+◌, ◌<◌, ◌≤◌, Bool, true, false, cond, ◌⊎◌, List, [], ◌∷◌, length, get_or, sym, refl, ap, ◌∙◌, subst, inl, inr, add-zero, arith}
use Rattle.std.proofs.lemmas.Bool.Decides.{leb_tells}
use Rattle.key_class.specs.declared.groups.Seeds.{Seeds}
use Rattle.key_class.specs.Class.{Growing}
use Rattle.key_class.specs.Quadratic.{larger_growth, worst_after, worst_from, first_pair, seeds_of, Before, FirstWorst, larger_at}
use Rattle.key_class.proofs.Sharing.{seeds_within}

module _ (W : ℕ → ℕ → ℕ) (n : ℕ) where
  -- After the pairs before i, j.
  record SoFar (i j : ℕ) (s : Seeds) : Type 0 where
    seen : (p q : ℕ) → p < q → q < n → Before p q i j → W p q ≤ s.growth
    earlier : (p q : ℕ) → p < q → q < n → Before p q s.first s.second → W p q < s.growth
    is : (s.growth ≡ W s.first s.second) ⊎ ((s.first ≡ 0) × (s.second ≡ 1) × (s.growth ≡ 0))

  same_at : (p q i j : ℕ) → p ≡ i → q ≡ j → W p q ≡ W i j
  same_at p q i j e f = ap (λ x. W x q) e ∙ ap (W i) f

  taken : (i j w : ℕ) (s : Seeds) → w ≡ W i j → s.growth < w → SoFar i j s → SoFar i (j + 1) (record { first = i; second = j; growth = w })
  taken i j w s e l h = record {
    seen = λ p q a b c. go p q a b c;
    earlier = λ p q a b c. let k = h.seen p q a b c in omega arith;
    is = inl e;
  }
    where
      go : (p q : ℕ) → p < q → q < n → Before p q i (j + 1) → W p q ≤ w
      go p q a b (inl c) = let k = h.seen p q a b (inl c) in omega arith
      go p q a b (inr c) = elim (leb_tells (suc q) j) [ inl t ↦ (let k = h.seen p q a b (inr (c.0, t.1)) in omega arith) | inr t ↦ (let k = same_at p q i j c.0 (omega arith) in omega arith) ]

  left : (i j w : ℕ) (s : Seeds) → w ≡ W i j → w ≤ s.growth → SoFar i j s → SoFar i (j + 1) s
  left i j w s e l h = record { seen = go; earlier = h.earlier; is = h.is }
    where
      go : (p q : ℕ) → p < q → q < n → Before p q i (j + 1) → W p q ≤ s.growth
      go p q a b (inl c) = h.seen p q a b (inl c)
      go p q a b (inr c) = elim (leb_tells (suc q) j) [ inl t ↦ h.seen p q a b (inr (c.0, t.1)) | inr t ↦ (let k = same_at p q i j c.0 (omega arith) in omega arith) ]

  step : (i j w : ℕ) (s : Seeds) (t : Bool) → ((t ≡ true) × (s.growth < w)) ⊎ ((t ≡ false) × (w < suc s.growth)) → w ≡ W i j → SoFar i j s → SoFar i (j + 1) (cond t (record { first = i; second = j; growth = w }) s)
  step i j w s t (inl c) e h = subst (λ b. SoFar i (j + 1) (cond b (record { first = i; second = j; growth = w }) s)) (sym c.0) (taken i j w s e c.1 h)
  step i j w s t (inr c) e h = subst (λ b. SoFar i (j + 1) (cond b (record { first = i; second = j; growth = w }) s)) (sym c.0) (left i j w s e (omega arith) h)

  module _ {K : Type 0} (G : Growing K) (d : K) where
    after : (a : K) (i j : ℕ) (l : List K) (s : Seeds) → ((m : ℕ) → m < length l → larger_growth G a (get_or l m d) ≡ W i (j + m)) → j + length l ≡ n → SoFar i j s → SoFar i n (worst_after G a i j l s)
    after a i j [] s each e h = subst (λ k. SoFar i k s) (omega arith) h
    after a i j (k ∷ l) s each e h =
        after a i (j + 1) l _ (λ m b. each (suc m) (omega arith) ∙ ap (W i) (omega arith)) (omega arith)
        (step i j (larger_growth G a k) s _ (leb_tells (suc s.growth) (larger_growth G a k)) (each 0 (omega arith) ∙ ap (W i) (add-zero j)) h)

    on : (i : ℕ) (s : Seeds) → SoFar i n s → SoFar (i + 1) (i + 1 + 1) s
    on i s h = record { seen = go; earlier = h.earlier; is = h.is }
      where
        go : (p q : ℕ) → p < q → q < n → Before p q (i + 1) (i + 1 + 1) → W p q ≤ s.growth
        go p q a b (inr c) = absurd (omega arith)
        go p q a b (inl c) = elim (leb_tells (suc p) i) [ inl t ↦ h.seen p q a b (inl t.1) | inr t ↦ h.seen p q a b (inr (omega arith, b)) ]

    from : (i : ℕ) (l : List K) (s : Seeds) → ((m o : ℕ) → m < length l → o < length l → larger_growth G (get_or l m d) (get_or l o d) ≡ W (i + m) (i + o)) → i + length l ≡ n → SoFar i (i + 1) s → SoFar n (n + 1) (worst_from G i l s)
    from i [] s each e h = subst (λ k. SoFar k (k + 1) s) (omega arith) h
    from i (a ∷ l) s each e h =
        from (i + 1) l _ (λ m o b c. each (suc m) (suc o) (omega arith) (omega arith) ∙ same_at (i + suc m) (i + suc o) (i + 1 + m) (i + 1 + o) (omega arith) (omega arith)) (omega arith)
        (on i _ (after a i (i + 1) l s (λ m b. each 0 (suc m) (omega arith) (omega arith) ∙ same_at (i + 0) (i + suc m) i (i + 1 + m) (omega arith) (omega arith)) (omega arith) h))

pub seeds_first_worst : {K : Type 0} (G : Growing K) (d : K) (ks : List K) → 2 ≤ length ks → FirstWorst (larger_at G d ks) (length ks) (seeds_of G ks)
seeds_first_worst G d ks h =
    let W = larger_at G d ks in
    let n = length ks in
    let s = seeds_of G ks in
    let w = seeds_within G ks h in
    let f : SoFar W n n (n + 1) s = from W n G d 0 ks first_pair (λ m o a b. same_at W n m o (0 + m) (0 + o) (omega arith) (omega arith)) (omega arith)
    (record { seen = λ p q a b c. absurd (omega arith); earlier = λ p q a b c. absurd (omega arith); is = inr (refl, refl, refl) }) in
    record {
      ordered = w.ordered;
      below = w.below;
      growth_is = elim f.is [ inl e ↦ e | inr c ↦ (let k = f.seen s.first s.second w.ordered w.below (inl (omega arith)) in omega arith) ];
      worst = λ i j a b. f.seen i j a b (inl (omega arith));
      first_such = f.earlier;
    }

-- The loops of the quadratic split, one turn on.
use Rattle.std.proofs.Common.{◌≡◌, ◌≢◌, ℕ, ◌+◌, ◌-◌, ◌<◌, ◌≤◌, Bool, true, false, if◌then◌else◌, eqb, ◌⊎◌, ◌==◌, List, [], ◌∷◌, ◌++◌, length, get_or, take, drop, set, replicate, slice_get, Some, IfSome, inl, inr, sym, refl, ap, ap₂, ◌∙◌, subst, arith, append-nil, length-set, length-take-le, get_or-set_other, get_or-set_same, get_or-take, take_all, take_at}
use Rattle.std.proofs.lemmas.List.{take_more, take_more_set, append_assoc, get_or-replicate, at_drop_all}
use Rattle.std.proofs.lemmas.Option.{slice_get_cases, MatchOption-at_some, slice_get_within, slice_get-get_or, get_or_from_slice_get}
use Rattle.std.proofs.lemmas.Bool.Decides.{eqb_tells, nat_tests}
use Rattle.key_class.specs.declared.groups.Groups.{Groups}
use Rattle.key_class.specs.declared.groups.Seeds.{Seeds}
use Rattle.key_class.specs.Class.{Growing}
use Rattle.key_class.specs.Quadratic.{larger_growth, worse, worst_after, worst_from, size, goes_next, placed, mark, next, marks_from, begun, split_at, quadratic, seeds_of}
use Rattle.key_class.proofs.Coding.{drop_at}
use Rattle.key_class.proofs.Sharing.{Within, seeds_within, Fair, fair_begun, fair_on, turn}

-- The first n marks before the loop.
one_true : (n j q : ℕ) → n ≤ 15 → j < n → q < n → get_or (take n (set (replicate 15 false) j true)) q false ≡ (q == j)
one_true n j q m h l = get_or-take n (set (replicate 15 false) j true) q false l ∙ elim (eqb_tells q j) [
  | inl e ↦ rw e.1 (get_or-set_same (replicate 15 false) j true false (omega arith)) ∙ sym e.0
  | inr d ↦ get_or-set_other (replicate 15 false) j q true false d.1 ∙ get_or-replicate 15 q false false (omega arith) ∙ sym d.0
]

module _ {K : Type 0} (G : Growing K) where
  pub after_more : (a : K) (i j : ℕ) (ks : List K) (b : K) (s t : Seeds) (n : ℕ) → slice_get ks j ≡ Some b → n ≡ larger_growth G a b → t ≡ worse s (record { first = i; second = j; growth = n })
      → worst_after G a i (j + 1) (drop (j + 1) ks) t ≡ worst_after G a i j (drop j ks) s
  after_more a i j ks b s t n h e f =
      ap (worst_after G a i (j + 1) (drop (j + 1) ks)) (f ∙ ap (λ m. worse s (record { first = i; second = j; growth = m })) e) ∙ ap (λ l. worst_after G a i j l s) (sym (drop_at ks j b h))

  pub from_more : (i : ℕ) (ks : List K) (s t : Seeds) → i < length ks → IfSome (slice_get ks i) (λ a. t ≡ worst_after G a i (i + 1) (drop (i + 1) ks) s)
      → worst_from G (i + 1) (drop (i + 1) ks) t ≡ worst_from G i (drop i ks) s
  from_more i ks s t l h = elim (slice_get_cases ks i).1 [
    | inl p ↦ (let a = p.0 in
        ap (worst_from G (i + 1) (drop (i + 1) ks)) (MatchOption-at_some _ (λ a. t ≡ worst_after G a i (i + 1) (drop (i + 1) ks) s) a p.2 h)
        ∙ ap (λ l. worst_from G i l s) (sym (drop_at ks i a p.2)))
    | inr p ↦ absurd (omega arith)
  ]

  -- One mark more, however it is written.
  marks_on : (s : Seeds) (p : ℕ) (ks : List K) (k : K) (g g' : Groups K) (marks marks' : List Bool) (b : Bool) → slice_get ks p ≡ Some k → take (p + 1) marks' ≡ take p marks ++ b ∷ []
      → b ≡ mark G s p g k → g' ≡ next G s p g k → take (p + 1) marks' ++ marks_from G s (p + 1) g' (drop (p + 1) ks) ≡ take p marks ++ marks_from G s p g (drop p ks)
  marks_on s p ks k g g' marks marks' b at t e f = rw (t, append_assoc, e, f) (ap (λ l. take p marks ++ marks_from G s p g l) (sym (drop_at ks p k at)))

  pub marks_more : (s : Seeds) (p : ℕ) (ks : List K) (k : K) (g g' : Groups K) (marks : List Bool) (b : Bool) → p < length ks → p < length marks → k ≡ get_or ks p k
      → b ≡ mark G s p g k → g' ≡ next G s p g k → take (p + 1) (set marks p b) ++ marks_from G s (p + 1) g' (drop (p + 1) ks) ≡ take p marks ++ marks_from G s p g (drop p ks)
  marks_more s p ks k g g' marks b h l at e f = marks_on s p ks k g g' marks (set marks p b) b (slice_get-get_or ks p k h ∙ ap Some (sym at)) (take_more_set marks p b l) e f

  -- One key more is in the groups, at most.
  next_size : (g : Groups K) (k : K) (x y b : Bool) → size (if x then g else if y then g else placed G g k b) ≤ size g + 1
  next_size g k true y b = omega arith
  next_size g k false true b = omega arith
  next_size g k false false true = omega arith
  next_size g k false false false = omega arith

  pub size_more : (s : Seeds) (p : ℕ) (g g' : Groups K) (k : K) → g' ≡ next G s p g k → size g' ≤ size g + 1
  size_more s p g g' k e = subst (λ h. size h ≤ size g + 1) (sym e) (next_size g k (eqb p s.first) (eqb p s.second) (goes_next G g k))

  -- What the loop of the marks has done before place p.
  pub record Marked (s : Seeds) (ks : List K) (p : ℕ) (g : Groups K) (marks : List Bool) : Type 0 where
    pub long : length marks ≡ length ks
    pub fair : Fair s (length ks) p g
    pub rest : (q : ℕ) → p ≤ q → q < length ks → get_or marks q false ≡ (q == s.second)
    pub so_far : take p marks ++ marks_from G s p g (drop p ks) ≡ quadratic G ks

  at_seed : (s : Seeds) (p : ℕ) (g : Groups K) (k : K) → s.first < s.second → (p ≡ s.first) ⊎ (p ≡ s.second) → ((p == s.second) ≡ mark G s p g k) × (g ≡ next G s p g k)
  at_seed s p g k l h = grind (arith, nat_tests)

  at_other : (s : Seeds) (p : ℕ) (g : Groups K) (k : K) → p ≢ s.first → p ≢ s.second → (goes_next G g k ≡ mark G s p g k) × (placed G g k (goes_next G g k) ≡ next G s p g k)
  at_other s p g k m n = grind (arith, nat_tests)

  begin : {s : Seeds} (ks : List K) (a b : K) → slice_get ks s.first ≡ Some a → slice_get ks s.second ≡ Some b → s ≡ seeds_of G ks
      → marks_from G s 0 (begun a b (length ks)) ks ≡ quadratic G ks
  begin {s} [] a b at to e = refl
  begin {s} (k ∷ ks) a b at to e =
      ap₂ (λ x y. marks_from G s 0 (begun x y (length (k ∷ ks))) (k ∷ ks)) (sym (get_or_from_slice_get (k ∷ ks) s.first a k at)) (sym (get_or_from_slice_get (k ∷ ks) s.second b k to))
      ∙ ap (λ t. split_at G k t (k ∷ ks)) e

  pub marks_begin : (ks : List K) (s : Seeds) (a b : K) (n : ℕ) → 2 ≤ length ks → s ≡ seeds_of G ks → a ≡ get_or ks s.first a → b ≡ get_or ks s.second b → length ks ≡ n
      → marks_from G s 0 (begun a b n) ks ≡ quadratic G ks
  marks_begin ks s a b n l e f g m =
      let w : Within (length ks) s = subst (Within (length ks)) (sym e) (seeds_within G ks l) in
      ap (λ i. marks_from G s 0 (begun a b i) ks) (sym m)
      ∙ begin ks a b (slice_get-get_or ks s.first a (omega (arith, w.ordered, w.below)) ∙ ap Some (sym f)) (slice_get-get_or ks s.second b w.below ∙ ap Some (sym g)) e

  module _ (s : Seeds) (ks : List K) (w : (s.first < s.second) × (s.second < length ks)) where
    marked_on : (p : ℕ) (g g' : Groups K) (marks marks' : List Bool) (k : K) (b : Bool) → Marked s ks p g marks → slice_get ks p ≡ Some k
        → b ≡ mark G s p g k → g' ≡ next G s p g k
        → length marks' ≡ length ks → take (p + 1) marks' ≡ take p marks ++ b ∷ [] → ((q : ℕ) → p < q → get_or marks' q false ≡ get_or marks q false) → Marked s ks (p + 1) g' marks'
    marked_on p g g' marks marks' k b m at e f n t same =
        let l = slice_get_within ks p k at in
        record {
          long = n;
          fair = subst (Fair s (length ks) (p + 1)) (sym f) (fair_on G s (length ks) w.0 w.1 p g k l m.fair _ _ (turn G s p g k));
          rest = λ q h o. same q (omega arith) ∙ m.rest q (omega arith) o;
          so_far = marks_on s p ks k g g' marks marks' b at t e f ∙ m.so_far;
        }

    pub marked_seed : (p : ℕ) (g : Groups K) (marks : List Bool) → p < length ks → (p ≡ s.first) ⊎ (p ≡ s.second) → Marked s ks p g marks → Marked s ks (p + 1) g marks
    marked_seed p g marks l h m =
        let k = get_or ks p g.stay.union in
        let long = m.long in
        let e = at_seed s p g k w.0 h in
        marked_on p g g marks marks k (p == s.second) m (slice_get-get_or ks p g.stay.union l) e.0 e.1 long
        (take_more marks p false (omega arith) ∙ ap (λ b. take p marks ++ b ∷ []) (m.rest p (omega arith) (omega arith))) (λ q h. refl)

    pub marked_other : (p : ℕ) (g g' : Groups K) (marks : List Bool) (k : K) (b : Bool) → slice_get ks p ≡ Some k → p ≢ s.first → p ≢ s.second
        → b ≡ goes_next G g k → g' ≡ placed G g k b → Marked s ks p g marks → Marked s ks (p + 1) g' (set marks p b)
    marked_other p g g' marks k b at n o e f m =
        let l = slice_get_within ks p k at in
        let long = m.long in
        let t = at_other s p g k n o in
        marked_on p g g' marks (set marks p b) k b m at (e ∙ t.0) (f ∙ ap (placed G g k) e ∙ t.1) (length-set marks p b ∙ long)
        (take_more_set marks p b (omega arith)) (λ q h. let d : q ≢ p = omega arith in get_or-set_other marks p q b false d)

    -- The groups begin with the seeds.
    pub marked_begin : (g : Groups K) → g.stay.count ≡ 1 → g.go.count ≡ 1 → g.left ≡ length ks - 2 → slice_get ks s.first ≡ Some g.stay.union → slice_get ks s.second ≡ Some g.go.union
        → length ks ≤ 15 → s ≡ seeds_of G ks → Marked s ks 0 g (take (length ks) (set (replicate 15 false) s.second true))
    marked_begin g one other rest at to m e =
        let a = g.stay.union in
        let b = g.go.union in
        let f : begun a b (length ks) ≡ g = λ i. record { stay = record { union = a; count = sym one i }; go = record { union = b; count = sym other i }; left = sym rest i } in
        subst (λ h. Marked s ks 0 h (take (length ks) (set (replicate 15 false) s.second true))) f (record {
          long = length-take-le (length ks) (set (replicate 15 false) s.second true) (omega (arith, length-set (replicate 15 false) s.second true));
          fair = fair_begun G s (length ks) w.0 w.1 a b;
          rest = λ q h l. one_true (length ks) s.second q m w.1 l;
          so_far = begin ks a b at to e;
        })

    pub marked_end : (p : ℕ) (g : Groups K) (marks more : List Bool) → length ks ≤ p → p ≤ length ks → Marked s ks p g marks → take (length ks) (marks ++ more) ≡ quadratic G ks
    marked_end p g marks more l h m =
        let long = m.long in
        take_at marks more (length ks) long ∙ sym (take_all p marks (omega arith)) ∙ sym (append-nil (take p marks))
        ∙ sym (at_drop_all (λ l. take p marks ++ marks_from G s p g l) ks p l) ∙ m.so_far

    -- A key that is no seed has a group to go to.
    pub some_left : (p : ℕ) (g : Groups K) (marks : List Bool) → p < length ks → p ≢ s.first → p ≢ s.second → Marked s ks p g marks → 0 < g.left
    some_left p g marks l a b m = let f = m.fair in grind (arith, nat_tests)

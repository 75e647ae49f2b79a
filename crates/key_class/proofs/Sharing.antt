-- The seeds are two places, and each group of a quadratic split gets four keys.
use Rattle.std.proofs.Common.{◌≡◌, ◌≢◌, ℕ, suc, ◌+◌, ◌<◌, ◌≤◌, Bool, true, false, if◌then◌else◌, eqb, ltb, leb, ◌⊎◌, List, [], ◌∷◌, length, get_or, refl, ap, ◌∙◌, inl, inr, arith, true≢false}
use Rattle.std.proofs.lemmas.Bool.{false≢true}
use Rattle.std.proofs.lemmas.Bool.Decides.{eqb_tells, nat_tests}
use Rattle.key_class.specs.declared.groups.Groups.{Groups}
use Rattle.key_class.specs.declared.groups.Seeds.{Seeds}
use Rattle.key_class.specs.Class.{Growing, Shares, staying, going}
use Rattle.key_class.specs.Quadratic.{larger_growth, worst_after, worst_from, first_pair, seeds_of, size, begun, goes_next, placed, mark, next, marks_from, quadratic}

pub record Within (n : ℕ) (s : Seeds) : Type 0 where
  pub ordered : s.first < s.second
  pub below : s.second < n

worse_within : (n : ℕ) (s t : Seeds) (b : Bool) → Within n s → Within n t → Within n (if b then t else s)
worse_within n s t true h k = k
worse_within n s t false h k = h

pub after_within : {K : Type 0} (G : Growing K) (a : K) (n i j : ℕ) (ks : List K) (s : Seeds) → i < j → j + length ks ≡ n → Within n s → Within n (worst_after G a i j ks s)
after_within G a n i j [] s l e h = h
after_within G a n i j (k ∷ ks) s l e h =
    after_within G a n i (j + 1) ks _ (omega arith) (omega arith) (worse_within n s _ (ltb s.growth (larger_growth G a k)) h (record { ordered = l; below = omega arith }))

pub from_within : {K : Type 0} (G : Growing K) (n i : ℕ) (ks : List K) (s : Seeds) → i + length ks ≡ n → Within n s → Within n (worst_from G i ks s)
from_within G n i [] s e h = h
from_within G n i (a ∷ ks) s e h = from_within G n (i + 1) ks _ (omega arith) (after_within G a n i (i + 1) ks s (omega arith) (omega arith) h)

pub seeds_within : {K : Type 0} (G : Growing K) (ks : List K) → 2 ≤ length ks → Within (length ks) (seeds_of G ks)
seeds_within G ks h = from_within G (length ks) 0 ks first_pair (omega arith) (record { ordered = omega arith; below = omega arith })

-- A test as a number.
abbrev one : Bool → ℕ
one b = if b then 1 else 0

-- One place on, the seed at i is still to come unless the place was its own.
passed : (p i : ℕ) → (p ≡ i → one (leb p i) ≡ one (leb (p + 1) i) + 1) × (p ≢ i → one (leb p i) ≡ one (leb (p + 1) i))
    × (((one (leb (p + 1) i) ≡ 1) × (p < i)) ⊎ ((one (leb (p + 1) i) ≡ 0) × (i ≤ p)))
passed p i = (λ e. grind (arith, nat_tests), λ n. grind (arith, nat_tests), grind (arith, nat_tests))

at_first : (i : ℕ) → one (leb 0 i) ≡ 1
at_first i = grind (arith, nat_tests)

-- What becomes of the key k at place p: its mark, and the groups then.
module _ {K : Type 0} (G : Growing K) (s : Seeds) (p : ℕ) (g : Groups K) (k : K) where
  pub data Turn : Bool → Groups K → Type 0 where
    first : p ≡ s.first → Turn false g
    second : p ≢ s.first → p ≡ s.second → Turn true g
    goes : p ≢ s.first → p ≢ s.second → g.stay.count + g.left ≢ 4 → Turn true (placed G g k true)
    stays : p ≢ s.first → p ≢ s.second → (g.stay.count + g.left ≡ 4) ⊎ (g.go.count + g.left ≢ 4) → Turn false (placed G g k false)

  -- A group that needs all that are left gets the next key.
  why_goes : goes_next G g k ≡ true → g.stay.count + g.left ≢ 4
  why_goes e = grind (arith, nat_tests)

  why_stays : goes_next G g k ≡ false → (g.stay.count + g.left ≡ 4) ⊎ (g.go.count + g.left ≢ 4)
  why_stays e = grind (arith, nat_tests)

  pub turn : Turn (mark G s p g k) (next G s p g k)
  turn = at (eqb p s.first) (eqb p s.second) (goes_next G g k) (eqb_tells p s.first) (eqb_tells p s.second) why_goes why_stays
    where
      at : (x y b : Bool) → ((x ≡ true) × (p ≡ s.first)) ⊎ ((x ≡ false) × (p ≢ s.first)) → ((y ≡ true) × (p ≡ s.second)) ⊎ ((y ≡ false) × (p ≢ s.second))
          → (b ≡ true → g.stay.count + g.left ≢ 4) → (b ≡ false → (g.stay.count + g.left ≡ 4) ⊎ (g.go.count + g.left ≢ 4))
          → Turn (if x then false else if y then true else b) (if x then g else if y then g else placed G g k b)
      at true y b (inl u) t e f = first u.1
      at false true b (inr u) (inl t) e f = second u.1 t.1
      at false false true (inr u) (inr t) e f = goes u.1 t.1 (e refl)
      at false false false (inr u) (inr t) e f = stays u.1 t.1 (f refl)
      at true y b (inr u) t e f = absurd (true≢false u.0)
      at false y b (inl u) t e f = absurd (false≢true u.0)
      at false true b (inr u) (inr t) e f = absurd (true≢false t.0)
      at false false b (inr u) (inl t) e f = absurd (false≢true t.0)

-- At place p of n keys, with the seeds s: the keys in neither group, and the seeds still to come, are those from there on.
abbrev Left : {K : Type 0} → Seeds → (n p : ℕ) → Groups K → Type 0
Left s n p g = p + (g.left + one (leb p s.first) + one (leb p s.second)) ≡ n

-- What is known of the groups there.
pub record Fair {K : Type 0} (s : Seeds) (n p : ℕ) (g : Groups K) : Type 0 where
  pub left : Left s n p g
  pub all : size g ≡ n
  pub four_stay : 8 ≤ n → 4 ≤ g.stay.count + g.left
  pub four_go : 8 ≤ n → 4 ≤ g.go.count + g.left

-- What is enough for each to get four, of groups of eight keys or more.
record Ready {K : Type 0} (s : Seeds) (n p : ℕ) (g : Groups K) : Type 0 where
  left : Left s n p g
  eight : 8 ≤ size g
  four_stay : 4 ≤ g.stay.count + g.left
  four_go : 4 ≤ g.go.count + g.left

length_marks : {K : Type 0} (G : Growing K) (s : Seeds) (p : ℕ) (g : Groups K) (ks : List K) → length (marks_from G s p g ks) ≡ length ks
length_marks G s p g [] = refl
length_marks G s p g (k ∷ ks) = ap suc (length_marks G s (p + 1) (next G s p g k) ks)

module _ {K : Type 0} (G : Growing K) (s : Seeds) (n : ℕ) (ordered : s.first < s.second) (below : s.second < n) where
  pub fair_begun : (a b : K) → Fair s n 0 (begun a b n)
  fair_begun a b = let c = at_first s.first in let d = at_first s.second in record { left = omega arith; all = omega arith; four_stay = λ h. omega arith; four_go = λ h. omega arith }

  ready : (p : ℕ) (g : Groups K) → 8 ≤ n → Fair s n p g → Ready s n p g
  ready p g h r = record { left = r.left; eight = omega (arith, r.all); four_stay = r.four_stay h; four_go = r.four_go h }

  -- One place on.
  left_on : (p : ℕ) (g : Groups K) (k : K) → p < n → Left s n p g → (b : Bool) (g' : Groups K) → Turn G s p g k b g' → Left s n (p + 1) g'
  left_on p g k l e _ _ (first f) = let a = passed p s.first in let b = passed p s.second in omega arith
  left_on p g k l e _ _ (second d f) = let a = passed p s.first in let b = passed p s.second in omega arith
  left_on p g k l e _ _ (goes d f h) = let a = passed p s.first in let b = passed p s.second in omega arith
  left_on p g k l e _ _ (stays d f h) = let a = passed p s.first in let b = passed p s.second in omega arith

  size_on : (p : ℕ) (g : Groups K) (k : K) → p < n → Left s n p g → (b : Bool) (g' : Groups K) → Turn G s p g k b g' → size g' ≡ size g
  size_on p g k l e _ _ (first f) = refl
  size_on p g k l e _ _ (second d f) = refl
  size_on p g k l e _ _ (goes d f h) = let a = passed p s.first in let b = passed p s.second in omega arith
  size_on p g k l e _ _ (stays d f h) = let a = passed p s.first in let b = passed p s.second in omega arith

  ready_on : (p : ℕ) (g : Groups K) (k : K) → p < n → Ready s n p g → (b : Bool) (g' : Groups K) → Turn G s p g k b g' → Ready s n (p + 1) g'
  ready_on p g k l r _ _ t = record { left = left_on p g k l r.left _ _ t; eight = omega (arith, r.eight, size_on p g k l r.left _ _ t); four_stay = (fours t).0; four_go = (fours t).1 }
    where
      fours : {b : Bool} {g' : Groups K} → Turn G s p g k b g' → (4 ≤ g'.stay.count + g'.left) × (4 ≤ g'.go.count + g'.left)
      fours (first f) = (r.four_stay, r.four_go)
      fours (second d f) = (r.four_stay, r.four_go)
      fours (goes d f h) = let a = passed p s.first in let b = passed p s.second in (omega arith, omega arith)
      fours (stays d f h) = let a = passed p s.first in let b = passed p s.second in (omega arith, omega arith)

  pub fair_on : (p : ℕ) (g : Groups K) (k : K) → p < n → Fair s n p g → (b : Bool) (g' : Groups K) → Turn G s p g k b g' → Fair s n (p + 1) g'
  fair_on p g k l r b g' t = record {
    left = left_on p g k l r.left b g' t;
    all = size_on p g k l r.left b g' t ∙ r.all;
    four_stay = λ h. (ready_on p g k l (ready p g h r) b g' t).four_stay;
    four_go = λ h. (ready_on p g k l (ready p g h r) b g' t).four_go;
  }

  -- The groups get four each by the marks bs of the keys from place p on.
  record Enough (p : ℕ) (g : Groups K) (bs : List Bool) : Type 0 where
    stay : 4 + one (leb p s.first) ≤ g.stay.count + staying bs
    go : 4 + one (leb p s.second) ≤ g.go.count + going bs

  enough_back : (p : ℕ) (g : Groups K) (k : K) (bs : List Bool) (b : Bool) (g' : Groups K) → Turn G s p g k b g' → Enough (p + 1) g' bs → Enough p g (b ∷ bs)
  enough_back p g k bs _ _ (first e) q = let a = passed p s.first in let b = passed p s.second in record { stay = omega arith; go = omega arith }
  enough_back p g k bs _ _ (second d e) q = let a = passed p s.first in let b = passed p s.second in record { stay = omega arith; go = omega arith }
  enough_back p g k bs _ _ (goes d e f) q = let a = passed p s.first in let b = passed p s.second in record { stay = omega arith; go = omega arith }
  enough_back p g k bs _ _ (stays d e f) q = let a = passed p s.first in let b = passed p s.second in record { stay = omega arith; go = omega arith }

  enough : (p : ℕ) (g : Groups K) (ks : List K) → p + length ks ≡ n → Ready s n p g → Enough p g (marks_from G s p g ks)
  enough p g [] e r = let a = passed p s.first in let b = passed p s.second in record { stay = omega arith; go = omega arith }
  enough p g (k ∷ ks) e r =
      let t = turn G s p g k in
      enough_back p g k (marks_from G s (p + 1) (next G s p g k) ks) _ _ t (enough (p + 1) (next G s p g k) ks (omega arith) (ready_on p g k (omega arith) r _ _ t))

pub quadratic_shares : {K : Type 0} (G : Growing K) (ks : List K) → 13 ≤ length ks → length ks ≤ 15 → Shares (length ks) (quadratic G ks)
quadratic_shares G [] low high = absurd (omega arith)
quadratic_shares G (k ∷ ks) low high =
    let s = seeds_of G (k ∷ ks) in
    let n = length (k ∷ ks) in
    let w = seeds_within G (k ∷ ks) (omega arith) in
    let a = get_or (k ∷ ks) s.first k in
    let b = get_or (k ∷ ks) s.second k in
    let e = enough G s n w.ordered w.below 0 (begun a b n) (k ∷ ks) (omega arith) (ready G s n w.ordered w.below 0 (begun a b n) (omega arith) (fair_begun G s n w.ordered w.below a b)) in
    let c = at_first s.first in
    let d = at_first s.second in
    record { each = length_marks G s 0 (begun a b n) (k ∷ ks); four_stay = omega arith; four_go = omega arith }

-- Of numbers ranked by size and then by place, m have a rank below m; so each half of a split by rank has enough.
use Rattle.std.specs.Prelude.{◌≡◌, ℕ, zero, suc, ◌+◌, ◌/◌, ◌<◌, ◌≤◌, min, Bool, true, false, if◌then◌else◌, ◌⊎◌, List, [], ◌∷◌, ◌++◌, map, length, count_by, nat_le, nat_lt, refl}
use Rattle.std.proofs.Common.{ap, ap₂, sym, ◌∙◌, subst, inl, inr, arith}
use Rattle.std.proofs.lemmas.List.{length-map}
use Rattle.std.proofs.lemmas.List.Sums.{sum_by-cons, sum_by_push, sum_by-le-sum_by, count_by-le-length}
use Rattle.std.proofs.lemmas.Bool.Decides.{leb_tells, nat_tests}
use Rattle.key_class.specs.Class.{staying, going, Shares}
use Rattle.intervals.specs.declared.interval.Interval.{Interval}
use Rattle.intervals.specs.Intervals.{split}
use Rattle.intervals.specs.Ranks.{ranks_from, by_rank}

-- A test as a number.
abbrev pub one : Bool → ℕ
one b = if b then 1 else 0

pub leb_one : (a b : ℕ) → ((one (nat_le a b) ≡ 1) × (a ≤ b)) ⊎ ((one (nat_le a b) ≡ 0) × (b < a))
leb_one a b = elim (leb_tells a b) [ inl h ↦ inl (ap one h.0, h.1) | inr h ↦ inr (ap one h.0, h.1) ]

-- How many numbers are below x, and how many are at most x.
abbrev pub below : ℕ → List ℕ → ℕ
below x ys = count_by (λ y. nat_lt y x) ys

abbrev pub at_most : ℕ → List ℕ → ℕ
at_most x ys = count_by (λ y. nat_le y x) ys

below_cons : (x y : ℕ) (ys : List ℕ) → below x (y ∷ ys) ≡ one (nat_lt y x) + below x ys
below_cons x y ys = sum_by-cons (λ z. one (nat_lt z x)) y ys

pub below_push : (x : ℕ) (ys : List ℕ) (y : ℕ) → below x (ys ++ y ∷ []) ≡ below x ys + one (nat_lt y x)
below_push x ys y = sum_by_push (λ z. one (nat_lt z x)) ys y

below_most : (x : ℕ) (zs : List ℕ) → below x zs ≤ length zs
below_most x zs = count_by-le-length (λ z. nat_lt z x) zs

below_mono : (x y : ℕ) → x ≤ y → (zs : List ℕ) → below x zs ≤ below y zs
below_mono x y h zs = sum_by-le-sum_by (λ z. one (nat_lt z x)) (λ z. one (nat_lt z y)) zs (λ z. let p = leb_one (suc z) x in let q = leb_one (suc z) y in omega arith)

pub at_most_is : (x : ℕ) (ys : List ℕ) → at_most x ys ≡ below (x + 1) ys
at_most_is x ys =
    let e : (y : ℕ) → nat_le y x ≡ nat_lt y (x + 1) = λ y. grind (arith, nat_tests) in
    λ i. count_by (λ y. e y i) ys

-- How many ranks are below m.
abbrev under : ℕ → List ℕ → ℕ
under m rs = below m rs

-- What one number x more among those seen does to the ranks of the rest.
module _ (x : ℕ) where
  abbrev More : List ℕ → List ℕ → Type 0
  More t s = (z : ℕ) → below z t ≡ one (nat_lt x z) + below z s

  more_push : (t s : List ℕ) (y : ℕ) → More t s → More (t ++ y ∷ []) (s ++ y ∷ [])
  more_push t s y more z = let e = more z in let p = below_push z s y in let q = below_push z t y in omega arith

  under_low : (m : ℕ) (t s : List ℕ) → More t s → (xs : List ℕ) → m ≤ below x s + below x xs → under m (ranks_from t xs) ≡ under m (ranks_from s xs)
  under_low m t s more [] h = refl
  under_low m t s more (y ∷ ys) h =
      let b = below_push x s y in
      let c = below_cons x y ys in
      let ih = under_low m (t ++ y ∷ []) (s ++ y ∷ []) (more_push t s y more) ys (omega arith) in
      let e = more (y + 1) in
      let i = at_most_is y t in
      let j = at_most_is y s in
      let u = leb_one (suc y) x in
      let v = leb_one (suc x) (y + 1) in
      let p = leb_one (suc (at_most y s + below y ys)) m in
      let q = leb_one (suc (at_most y t + below y ys)) m in
      let f : one (nat_lt (at_most y t + below y ys) m) ≡ one (nat_lt (at_most y s + below y ys) m) =
      elim (leb_one x y) [
        | inl l ↦ (let a = below_mono x (y + 1) (omega arith) s in let d = below_mono x y l.1 ys in omega arith)
        | inr l ↦ omega arith
      ] in
      below_cons m (at_most y t + below y ys) (ranks_from (t ++ y ∷ []) ys) ∙ ap₂ ◌+◌ f ih ∙ sym (below_cons m (at_most y s + below y ys) (ranks_from (s ++ y ∷ []) ys))

  under_high : (m : ℕ) (t s : List ℕ) → More t s → (xs : List ℕ) → below x s + below x xs ≤ m → under (suc m) (ranks_from t xs) ≡ under m (ranks_from s xs)
  under_high m t s more [] h = refl
  under_high m t s more (y ∷ ys) h =
      let b = below_push x s y in
      let c = below_cons x y ys in
      let ih = under_high m (t ++ y ∷ []) (s ++ y ∷ []) (more_push t s y more) ys (omega arith) in
      let e = more (y + 1) in
      let i = at_most_is y t in
      let j = at_most_is y s in
      let u = leb_one (suc y) x in
      let v = leb_one (suc x) (y + 1) in
      let p = leb_one (suc (at_most y s + below y ys)) m in
      let q = leb_one (suc (at_most y t + below y ys)) (suc m) in
      let f : one (nat_lt (at_most y t + below y ys) (suc m)) ≡ one (nat_lt (at_most y s + below y ys) m) =
      elim (leb_one x y) [
        | inl l ↦ omega arith
        | inr l ↦ (let a = below_mono (y + 1) x (omega arith) s in let d = below_mono y x (omega arith) ys in omega arith)
      ] in
      below_cons (suc m) (at_most y t + below y ys) (ranks_from (t ++ y ∷ []) ys) ∙ ap₂ ◌+◌ f ih ∙ sym (below_cons m (at_most y s + below y ys) (ranks_from (s ++ y ∷ []) ys))

-- m of the ranks are below m.
under_is : (m : ℕ) (xs : List ℕ) → under m (ranks_from [] xs) ≡ min m (length xs)
under_is m [] = omega arith
under_is zero (x ∷ xs) =
    let l = under_low x zero (x ∷ []) [] (λ z. below_cons z x []) xs (omega arith) in
    let ih = under_is zero xs in
    let t = leb_one (suc (0 + below x xs)) zero in
    let c = below_cons zero (0 + below x xs) (ranks_from (x ∷ []) xs) in
    omega arith
under_is (suc m) (x ∷ xs) =
    let n = below_most x xs in
    let t = leb_one (suc (0 + below x xs)) (suc m) in
    let c = below_cons (suc m) (0 + below x xs) (ranks_from (x ∷ []) xs) in
    let ih = under_is m xs in
    let jh = under_is (suc m) xs in
    elim (leb_one (below x xs) m) [
      | inl p ↦ (let l = under_high x m (x ∷ []) [] (λ z. below_cons z x []) xs (omega arith) in omega arith)
      | inr p ↦ (let l = under_low x (suc m) (x ∷ []) [] (λ z. below_cons z x []) xs (omega arith) in omega arith)
    ]

length_ranks : (seen xs : List ℕ) → length (ranks_from seen xs) ≡ length xs
length_ranks seen [] = refl
length_ranks seen (x ∷ xs) = ap suc (length_ranks (seen ++ x ∷ []) xs)

staying_cons : (t : Bool) (bs : List Bool) → staying (t ∷ bs) + one t ≡ 1 + staying bs
staying_cons true bs = omega arith
staying_cons false bs = omega arith

staying_under : (h : ℕ) (rs : List ℕ) → staying (map (nat_le h) rs) ≡ under h rs
staying_under h [] = refl
staying_under h (r ∷ rs) =
    let ih = staying_under h rs in
    let e = staying_cons (nat_le h r) (map (nat_le h) rs) in
    let p = leb_one h r in
    let q = leb_one (suc r) h in
    let c = below_cons h r rs in
    omega arith

staying_going : (bs : List Bool) → staying bs + going bs ≡ length bs
staying_going [] = refl
staying_going (true ∷ bs) = let ih = staying_going bs in omega arith
staying_going (false ∷ bs) = let ih = staying_going bs in omega arith

rank_shares : (xs : List ℕ) → 13 ≤ length xs → length xs ≤ 15 → Shares (length xs) (by_rank xs)
rank_shares xs low high =
    let l = length-map (ranks_from [] xs) (nat_le (length xs / 2)) in
    let m = length_ranks [] xs in
    let s = staying_under (length xs / 2) (ranks_from [] xs) in
    let u = under_is (length xs / 2) xs in
    let g = staying_going (by_rank xs) in
    record { each = omega arith; four_stay = omega arith; four_go = omega arith }

pub split_shares : (ks : List Interval) → 13 ≤ length ks → length ks ≤ 15 → Shares (length ks) (split ks)
split_shares ks h k =
    let l = length-map ks (λ (a : Interval). a.low) in
    subst (λ n. Shares n (split ks)) l (rank_shares (map (λ (a : Interval). a.low) ks) (omega arith) (omega arith))

-- What the loop of the split has done with the first words of the first i keys.
use Rattle.std.proofs.Common.{◌≡◌, ℕ, ◌+◌, ◌-◌, ◌<◌, Bool, List, [], ◌∷◌, ◌++◌, map, length, get_or, set, take, drop, count_by, if◌then◌else◌, nat_le, nat_lt, slice_index, slice_index_or, refl, sym, ap, ap₂, ◌∙◌, append-nil, arith}
use Rattle.std.proofs.lemmas.Simd.{map-map}
use Rattle.std.proofs.Math.Nat.{sub-zero}
use Rattle.std.proofs.lemmas.List.{take_more, take_more_set, get_or-map, at_drop_more, at_drop_all, append_assoc, take-map, drop-map, take_rest, length-map, take_all, take_at}
use Rattle.std.proofs.lemmas.List.Sums.{sum_by-cons}
use Rattle.key_class.specs.Class.{Squeezed}
use Rattle.intervals.specs.declared.interval.Interval.{Interval}
use Rattle.intervals.specs.Intervals.{squeeze, interval_growing}
use Rattle.intervals.specs.Ranks.{ranks_from, by_rank}
use Rattle.intervals.specs.Ranking.{below, at_most_is}

abbrev low : List ℕ → ℕ
low w = slice_index w 0

-- The first word of each key.
abbrev pub lows : List (List ℕ) → List ℕ
lows ws = map (λ w. slice_index w 0) ws

pub length_lows : (ws : List (List ℕ)) → length (lows ws) ≡ length ws
length_lows ws = length-map ws low

count_lows : (p : ℕ → Bool) (ws : List (List ℕ)) → count_by p (lows ws) ≡ count_by (λ w. p (low w)) ws
count_lows p [] = refl
count_lows p (w ∷ ws) =
    sum_by-cons (λ y. if p y then 1 else 0) (low w) (lows ws) ∙ ap (λ n. (if p (low w) then 1 else 0) + n) (count_lows p ws)
    ∙ sym (sum_by-cons (λ v. if p (low v) then 1 else 0) w ws)

-- The rank of the number x at i.
abbrev rank : List ℕ → ℕ → ℕ → ℕ
rank xs i x = count_by (λ y. nat_le y x) (take i xs) + count_by (λ y. nat_lt y x) (drop (i + 1) xs)

pub rank_below : (xs : List ℕ) (i x : ℕ) → rank xs i x ≡ below (x + 1) (take i xs) + below x (drop (i + 1) xs)
rank_below xs i x = ap (λ n. n + below x (drop (i + 1) xs)) (at_most_is x (take i xs))

pub rank_lows : (ws : List (List ℕ)) (i : ℕ) → i < length ws
    → let x = low (slice_index_or ws i []) in count_by (λ w. nat_le (low w) x) (take i ws) + count_by (λ w. nat_lt (low w) x) (drop (i + 1) ws) ≡ rank (lows ws) i (slice_index (lows ws) i)
rank_lows ws i h =
    let x = low (slice_index_or ws i []) in
    ap₂ ◌+◌ (sym (count_lows (λ y. nat_le y x) (take i ws)) ∙ ap (count_by (λ y. nat_le y x)) (sym (take-map low i ws)))
    (sym (count_lows (λ y. nat_lt y x) (drop (i + 1) ws)) ∙ ap (count_by (λ y. nat_lt y x)) (sym (drop-map low (i + 1) ws)))
    ∙ ap (rank (lows ws) i) (sym (get_or-map low ws i [] 0 h))

pub rank_parts : (ws : List (List ℕ)) (i x a b : ℕ) → i < length ws → x ≡ slice_index (slice_index_or ws i []) 0
    → a ≡ below (x + 1) (lows (take (i - 0) ws)) → b ≡ below x (lows (take (length ws - (i + 1)) (drop (i + 1) ws)))
    → a + b ≡ below (slice_index (lows ws) i + 1) (take i (lows ws)) + below (slice_index (lows ws) i) (drop (i + 1) (lows ws))
rank_parts ws i x a b h w e f =
    let g = get_or-map low ws i [] 0 h in
    let m = take-map low i ws in
    let d = drop-map low (i + 1) ws in
    let z = sub-zero i in
    let t = take_rest ws (i + 1) in
    cc

pub marks_more : (half : ℕ) (goes : List Bool) (xs : List ℕ) (i r : ℕ) → i < length xs → i < length goes → r ≡ rank xs i (slice_index xs i)
    → take (i + 1) (set goes i (nat_le half r)) ++ map (nat_le half) (ranks_from (take (i + 1) xs) (drop (i + 1) xs)) ≡ take i goes ++ map (nat_le half) (ranks_from (take i xs) (drop i xs))
marks_more half goes xs i r h g e =
    let x = get_or xs i 0 in
    let rest = map (nat_le half) (ranks_from (take i xs ++ x ∷ []) (drop (i + 1) xs)) in
    let d : map (nat_le half) (ranks_from (take i xs) (drop i xs)) ≡ nat_le half (rank xs i x) ∷ rest = at_drop_more (λ l. map (nat_le half) (ranks_from (take i xs) l)) xs i 0 h in
    rw (take_more_set goes i (nat_le half r) g, take_more xs i 0 h, append_assoc) (ap (λ l. take i goes ++ l) (ap (λ n. nat_le half n ∷ rest) e ∙ sym d))

pub all_ranked : (half : ℕ) (goes : List Bool) (xs : List ℕ) (i : ℕ) → length xs ≡ i
    → take i goes ++ map (nat_le half) (ranks_from (take i xs) (drop i xs)) ≡ by_rank xs → take i goes ≡ by_rank xs
all_ranked half goes xs i m e = sym (append-nil (take i goes)) ∙ sym (at_drop_all (λ r. take i goes ++ map (nat_le half) (ranks_from (take i xs) r)) xs i (omega arith)) ∙ e

pub all_marked : (half : ℕ) (goes more : List Bool) (xs : List ℕ) (n i : ℕ) → length goes ≡ n → length xs ≡ n → i ≡ n
    → take i goes ++ map (nat_le half) (ranks_from (take i xs) (drop i xs)) ≡ by_rank xs → take n (goes ++ more) ≡ by_rank xs
all_marked half goes more xs n i l m a e = take_at goes more n l ∙ sym (take_all i goes (omega arith)) ∙ all_ranked half goes xs i (omega arith) e

-- The low ends are the first words.
pub lows_squeezed : (ks : List Interval) (ws : List (List ℕ)) → Squeezed interval_growing ks ws → lows ws ≡ map (λ (k : Interval). k.low) ks
lows_squeezed ks ws e = ap lows (sym e) ∙ map-map low squeeze ks

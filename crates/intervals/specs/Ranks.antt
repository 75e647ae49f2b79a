-- The split by rank.
use Rattle.std.specs.Prelude.{ℕ, ◌+◌, ◌/◌, Bool, List, [], ◌∷◌, ◌++◌, map, length, count_by, nat_le, nat_lt}

-- The ranks of numbers that stand after those seen: how many are lower, or equal at an earlier place.
abbrev pub ranks_from : List ℕ → List ℕ → List ℕ
ranks_from seen [] = []
ranks_from seen (x ∷ xs) = (count_by (λ y. nat_le y x) seen + count_by (λ y. nat_lt y x) xs) ∷ ranks_from (seen ++ x ∷ []) xs

-- The lower half by rank stays, rounded down.
abbrev pub by_rank : List ℕ → List Bool
by_rank xs = map (nat_le (length xs / 2)) (ranks_from [] xs)

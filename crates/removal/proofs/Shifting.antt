-- Places of a list, once one is closed up and opened again.
use Rattle.std.proofs.Common.{◌≡◌, ℕ, zero, suc, ◌<◌, ◌≤◌, List, [], ◌∷◌, length, set, refl, ap, arith}
use Rattle.std.specs.List.{insert as with_at, remove as without}

module _ {A : Type 0} where
  pub back_in : (xs : List A) (i : ℕ) (b : A) → i < length xs → with_at (without xs i) i b ≡ set xs i b
  back_in [] i b l = absurd (omega arith)
  back_in (x ∷ xs) zero b l = refl
  back_in (x ∷ xs) (suc i) b l = ap {B = List A} (λ r. x ∷ r) (back_in xs i b (omega arith))

  -- Places before it stay,
  pub before : (xs : List A) (i j : ℕ) (a b : A) → i < length xs → j < i → with_at (set (without xs i) j a) i b ≡ set (set xs j a) i b
  before [] i j a b l m = absurd (omega arith)
  before (x ∷ xs) zero j a b l m = absurd (omega arith)
  before (x ∷ xs) (suc i) zero a b l m = ap {B = List A} (λ r. a ∷ r) (back_in xs i b (omega arith))
  before (x ∷ xs) (suc i) (suc j) a b l m = ap {B = List A} (λ r. x ∷ r) (before xs i j a b (omega arith) (omega arith))

  -- and those behind it move.
  pub behind : (xs : List A) (i j : ℕ) (a b : A) → i < length xs → i ≤ j → with_at (set (without xs i) j a) i b ≡ set (set xs (suc j) a) i b
  behind [] i j a b l m = absurd (omega arith)
  behind (x ∷ xs) zero j a b l m = refl
  behind (x ∷ xs) (suc i) zero a b l m = absurd (omega arith)
  behind (x ∷ xs) (suc i) (suc j) a b l m = ap {B = List A} (λ r. x ∷ r) (behind xs i j a b (omega arith) (omega arith))

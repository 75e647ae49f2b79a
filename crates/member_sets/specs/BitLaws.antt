-- What `&`, `|` and `!` do to a bit.
use Rattle.std.specs.Prelude.{◌≡◌, ℕ, ◌-◌, ◌/◌, ◌%◌, ◌^◌, ◌<◌, min, max, Bool, true, false, cond, not, ◌&&◌, ◌||◌, ◌==◌, nat_eq, refl}
use Rattle.std.proofs.Common.{sym, ap, subst, ◌∙◌, ⊎_elim, arith}
use Rattle.std.specs.Int.{bit_at, bit_not, w32}
use Rattle.std.specs.Int.Bits.{bit_and, bit_or, bit_xor}
use Rattle.std.proofs.lemmas.Nat.{xor_shr, xor_mod}
use Rattle.std.proofs.lemmas.Bool.{cases_eq}
use Rattle.std.proofs.lemmas.Bool.Decides.{nat_tests}
use Rattle.std.proofs.lemmas.Nat.Bits.{bit_at-lt, bit_at_and, bit_at_or, bit_at_not}
use Rattle.member_sets.specs.Members.{bit}

min_one : (x y : ℕ) → x < 2 → y < 2 → (min x y == 1) ≡ ((x == 1) && (y == 1))
min_one x y h k = grind (arith, nat_tests)

max_one : (x y : ℕ) → x < 2 → y < 2 → (max x y == 1) ≡ ((x == 1) || (y == 1))
max_one x y h k = grind (arith, nat_tests)

turned_one : (x : ℕ) → x < 2 → (1 - x == 1) ≡ not (x == 1)
turned_one x h = grind (arith, nat_tests)

-- A number's last bit is 0 or 1.
at_rest : (P : ℕ → Type 0) → P 0 → P 1 → (n : ℕ) → P (n % 2)
at_rest P p q n = ⊎_elim (λ e. subst P (sym e) p) (λ e. let f : 1 ≡ n % 2 = omega arith in subst P f q) (cases_eq (n % 2) 0)

-- An operation that goes bit by bit is told by what it does to 0 and 1.
module _ (op : ℕ → ℕ → ℕ) (on : Bool → Bool → Bool)
    (shr : (a b k : ℕ) → op a b / 2 ^ k ≡ op (a / 2 ^ k) (b / 2 ^ k))
    (rest : (a b k : ℕ) → op a b % 2 ^ k ≡ op (a % 2 ^ k) (b % 2 ^ k))
    (none : nat_eq (op 0 0) 1 ≡ on false false) (second : nat_eq (op 0 1) 1 ≡ on false true)
    (first : nat_eq (op 1 0) 1 ≡ on true false) (both : nat_eq (op 1 1) 1 ≡ on true true) where
  bit_op : (a b i : ℕ) → bit (op a b) i ≡ on (bit a i) (bit b i)
  bit_op a b i =
      ap (λ n. nat_eq (n % 2) 1) (shr a b i) ∙ ap (λ n. nat_eq n 1) (rest (a / 2 ^ i) (b / 2 ^ i) 1)
      ∙ at_rest (λ x. (op x (b / 2 ^ i % 2) == 1) ≡ on (x == 1) (bit b i))
      (at_rest (λ y. (op 0 y == 1) ≡ on false (y == 1)) none second (b / 2 ^ i))
      (at_rest (λ y. (op 1 y == 1) ≡ on true (y == 1)) first both (b / 2 ^ i)) (a / 2 ^ i)

pub bit-bit_and : (a b i : ℕ) → bit (bit_and a b) i ≡ (bit a i && bit b i)
bit-bit_and a b i = ap (λ n. n == 1) (bit_at_and a b i) ∙ min_one (bit_at a i) (bit_at b i) (bit_at-lt a i) (bit_at-lt b i)

pub bit-bit_or : (a b i : ℕ) → bit (bit_or a b) i ≡ (bit a i || bit b i)
bit-bit_or a b i = ap (λ n. n == 1) (bit_at_or a b i) ∙ max_one (bit_at a i) (bit_at b i) (bit_at-lt a i) (bit_at-lt b i)

pub bit-bit_xor : (a b i : ℕ) → bit (bit_xor a b) i ≡ cond (bit a i) (not (bit b i)) (bit b i)
bit-bit_xor = bit_op bit_xor (λ x y. cond x (not y) y) xor_shr xor_mod refl refl refl refl

pub bit-bit_not : (a i : ℕ) → a < 2 ^ 32 → i < 32 → bit (bit_not w32 a) i ≡ not (bit a i)
bit-bit_not a i h l = ap (λ n. n == 1) (bit_at_not w32 a i h l) ∙ turned_one (bit_at a i) (bit_at-lt a i)

-- Words by their bits: what `&`, `!`, a test for 0 and the count of ones say of the 32 bits.
use Rattle.std.proofs.Common.{◌≡◌, ℕ, zero, suc, ◌+◌, ◌/◌, ◌%◌, ◌^◌, ◌<◌, Bool, true, false, if◌then◌else◌, not, ◌&&◌, ◌||◌, eqb, sym, ap, ◌∙◌, ap₂, ⊎_elim, pow-suc, one-add, arith}
use lib.Bits.{bit_and, bit_xor, and_le_r, xor_lt}
use Rattle.std.specs.Int.{bit_not, w32}
use lib.Count.{ones, ones_step, ones-le}
use Rattle.std.proofs.lemmas.Nat.Bits.{bit_at-lt, bit_at-suc, bit_at-zero, bit_at_lowest, same_from_bits_below}
use Rattle.std.proofs.Math.Bool.{not-not}
use Rattle.std.proofs.lemmas.Bool.{cases_Bool, both_ways, and_parts}
use Rattle.std.proofs.lemmas.Bool.Decides.{same_from_decides, Decides-eqb, Decides-like, Decides-not, nat_tests}
use Rattle.member_sets.specs.declared.members.Members.{Members}
use Rattle.member_sets.specs.Members.{bit, all_below, some_below, count_below, has_member}
use Rattle.member_sets.specs.BitLaws.{bit-bit_and, bit-bit_xor, bit-bit_not}
use Rattle.member_sets.specs.Below.{within_tells, some_tells}
use Rattle.member_sets.proofs.ByWords.{some_joins, count_joins, same_below, below_add, by_words}

half_bit : (n i : ℕ) → bit n (1 + i) ≡ bit (n / 2) i
half_bit n i = rw one-add (ap (λ m. eqb m 1) (bit_at-suc n i))

low_bit : (n : ℕ) → (if bit n 0 then 1 else 0) ≡ n % 2
low_bit n = let e = bit_at_lowest n in grind (arith, nat_tests)

same_bits : (w a b : ℕ) → a < 2 ^ w → b < 2 ^ w → ((i : ℕ) → i < w → bit a i ≡ bit b i) → a ≡ b
same_bits w a b h l each = same_from_bits_below w a b h l (λ i m. let e = each i m in let c = bit_at-lt a i in let d = bit_at-lt b i in grind (arith, nat_tests))

no_bit : (i : ℕ) → bit 0 i ≡ false
no_bit i = ap (λ m. eqb m 1) (bit_at-zero i)

ones_bits : (w n : ℕ) → n < 2 ^ w → ones n ≡ count_below w (bit n)
unfolding count_below
ones_bits zero n h = let o = ones-le 0 n h in omega arith
ones_bits (suc w) n h =
    let p = pow-suc 2 w in
    let s = ones_step n in
    let ih = ones_bits w (n / 2) (omega arith) in
    let low = low_bit n in
    let a = ap (λ k. count_below k (bit n)) (sym (one-add w)) ∙ below_add count_joins 1 w (bit n) in
    let high = same_below count_joins w (λ i. bit n (1 + i)) (bit (n / 2)) (λ i l. half_bit n i) in
    omega arith

absorbs : (x y : Bool) → (y ≡ true → x ≡ true) → (x && y) ≡ y
absorbs x y h = grind arith

pub in_is : (a b : ℕ) → b < 2 ^ 32 → eqb (bit_and a b) b ≡ all_below 32 (λ i. not (bit b i) || bit a i)
in_is a b h =
    same_from_decides (eqb (bit_and a b) b) (all_below 32 (λ i. not (bit b i) || bit a i)) (Decides-eqb (bit_and a b) b)
    (Decides-like (all_below 32 (λ i. not (bit b i) || bit a i))
    (λ each. let l = and_le_r a b in same_bits 32 (bit_and a b) b (omega arith) h (λ i k. bit-bit_and a b i ∙ absorbs (bit a i) (bit b i) (each i k)))
    (λ e i k t. (and_parts (bit a i) (bit b i) (sym (bit-bit_and a b i) ∙ ap (λ n. bit n i) e ∙ t)).0)
    (within_tells 32 (bit a) (bit b)))

zero_is : (n : ℕ) → n < 2 ^ 32 → eqb n 0 ≡ not (some_below 32 (bit n))
zero_is n h =
    same_from_decides (eqb n 0) (not (some_below 32 (bit n))) (Decides-eqb n 0)
    (Decides-like (not (some_below 32 (bit n)))
    (λ no. same_bits 32 n 0 h (omega arith) (λ i l. ⊎_elim (λ e. absurd (no (i, l, e))) (λ e. e ∙ sym (no_bit i)) (cases_Bool (bit n i))))
    (λ e p. both_ways (bit n p.0) (ap (λ m. bit m p.0) e ∙ no_bit p.0) p.2)
    (Decides-not (some_below 32 (bit n)) (some_tells 32 (bit n))))

pub meet_is : (a b : ℕ) → b < 2 ^ 32 → not (eqb (bit_and a b) 0) ≡ some_below 32 (λ i. bit a i && bit b i)
meet_is a b h =
    let l = and_le_r a b in
    ap not (zero_is (bit_and a b) (omega arith)) ∙ not-not (some_below 32 (bit (bit_and a b)))
    ∙ same_below some_joins 32 (bit (bit_and a b)) (λ i. bit a i && bit b i) (λ i k. bit-bit_and a b i)

-- What is in y and not in both is in y and not in x.
lacks : (x y : Bool) → (if y then not (x && y) else x && y) ≡ (y && not x)
lacks x y = grind arith

pub lacking_by_xor : (a b : ℕ) → b < 2 ^ 32 → ones (bit_xor b (bit_and a b)) ≡ count_below 32 (λ i. bit b i && not (bit a i))
lacking_by_xor a b h =
    let l = and_le_r a b in
    ones_bits 32 (bit_xor b (bit_and a b)) (xor_lt 32 b (bit_and a b) h (omega arith))
    ∙ same_below count_joins 32 (bit (bit_xor b (bit_and a b))) (λ i. bit b i && not (bit a i))
    (λ i k. bit-bit_xor b (bit_and a b) i ∙ ap (λ x. if bit b i then not x else x) (bit-bit_and a b i) ∙ lacks (bit a i) (bit b i))

pub lacking_is : (a b : ℕ) → a < 2 ^ 32 → b < 2 ^ 32 → ones (bit_and b (bit_not w32 a)) ≡ count_below 32 (λ i. bit b i && not (bit a i))
lacking_is a b h k =
    let l = and_le_r b (bit_not w32 a) in
    ones_bits 32 (bit_and b (bit_not w32 a)) (omega arith)
    ∙ same_below count_joins 32 (bit (bit_and b (bit_not w32 a))) (λ i. bit b i && not (bit a i))
    (λ i m. bit-bit_and b (bit_not w32 a) i ∙ ap (λ x. bit b i && x) (bit-bit_not a i h m))

none_of : (x y z t : Bool) → (not x && (not y && (not z && not t))) ≡ not (x || (y || (z || t)))
none_of x y z t = grind arith

pub empty_is : (s : Members) → s.w0 < 2 ^ 32 → s.w1 < 2 ^ 32 → s.w2 < 2 ^ 32 → s.w3 < 2 ^ 32
    → (eqb s.w0 0 && (eqb s.w1 0 && (eqb s.w2 0 && eqb s.w3 0))) ≡ not (has_member s)
empty_is s p q r t =
    ap₂ ◌&&◌ (zero_is s.w0 p) (ap₂ ◌&&◌ (zero_is s.w1 q) (ap₂ ◌&&◌ (zero_is s.w2 r) (zero_is s.w3 t)))
    ∙ none_of (some_below 32 (bit s.w0)) (some_below 32 (bit s.w1)) (some_below 32 (bit s.w2)) (some_below 32 (bit s.w3))
    ∙ ap not (sym (by_words some_joins (λ x y. x) s s))

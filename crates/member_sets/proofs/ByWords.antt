-- Tests of 128 numbers as tests of four words.
use Rattle.std.specs.Prelude.{◌≡◌, ℕ, zero, suc, ◌+◌, ◌*◌, ◌/◌, ◌%◌, ◌<◌, ◌≤◌, Bool, true, false, if◌then◌else◌, ◌&&◌, ◌||◌, refl}
use Rattle.std.proofs.Common.{sym, ap, ap₂, ◌∙◌, add-zero, add-suc, arith}
use Rattle.std.proofs.Math.Bool.{and-true, or-false}
use Rattle.std.proofs.Math.Nat.{add_left_comm}
use Rattle.member_sets.specs.declared.members.Members.{Members}
use Rattle.member_sets.specs.Members.{bit, word, member, all_below, some_below, count_below}

one_at_most : (b : Bool) → (if b then 1 else 0) ≤ 1
one_at_most b = grind arith

pub count_le : (n : ℕ) (f : ℕ → Bool) → count_below n f ≤ n
unfolding count_below
count_le zero f = omega arith
count_le (suc n) f = let h = count_le n f in let one = one_at_most (f n) in omega arith

-- F joins by op what each number below n gives.
pub record Joins {X : Type 0} (op : X → X → X) (F : ℕ → (ℕ → Bool) → X) : Type 0 where
  pub none : X
  pub of : Bool → X
  pub keeps : (x : X) → op x none ≡ x
  pub swaps : (x y t : X) → op x (op y t) ≡ op y (op x t)
  pub start : (f : ℕ → Bool) → F 0 f ≡ none
  pub more : (n : ℕ) (f : ℕ → Bool) → F (suc n) f ≡ op (of (f n)) (F n f)

and_swaps : (x y t : Bool) → (x && (y && t)) ≡ (y && (x && t))
and_swaps x y t = grind arith

or_swaps : (x y t : Bool) → (x || (y || t)) ≡ (y || (x || t))
or_swaps x y t = grind arith

pub all_joins : Joins ◌&&◌ all_below
unfolding all_below
all_joins = record { none = true; of = λ b. b; keeps = and-true; swaps = and_swaps; start = λ f. refl; more = λ n f. refl }

pub some_joins : Joins ◌||◌ some_below
unfolding some_below
some_joins = record { none = false; of = λ b. b; keeps = or-false; swaps = or_swaps; start = λ f. refl; more = λ n f. refl }

pub count_joins : Joins ◌+◌ count_below
unfolding count_below
count_joins = record { none = 0; of = λ b. if b then 1 else 0; keeps = add-zero; swaps = add_left_comm; start = λ f. refl; more = λ n f. refl }

at_word : (s : Members) (j i k : ℕ) → i < 32 → k ≡ j * 32 + i → member s k ≡ bit (word s j) i
unfolding member
at_word s j i k l e =
    let p : k / 32 ≡ j = omega arith in
    let q : k % 32 ≡ i = omega arith in
    ap₂ (λ m n. bit (word s m) n) p q

module _ {X : Type 0} {op : X → X → X} {F : ℕ → (ℕ → Bool) → X} (J : Joins op F) where
  pub same_below : (n : ℕ) (f g : ℕ → Bool) → ((i : ℕ) → i < n → f i ≡ g i) → F n f ≡ F n g
  same_below zero f g e = J.start f ∙ sym (J.start g)
  same_below (suc n) f g e =
      J.more n f ∙ ap₂ (λ b x. op (J.of b) x) (e n (omega arith)) (same_below n f g (λ i l. e i (omega arith))) ∙ sym (J.more n g)

  pub below_add : (m n : ℕ) (f : ℕ → Bool) → F (m + n) f ≡ op (F m f) (F n (λ i. f (m + i)))
  below_add m zero f = ap (λ k. F k f) (add-zero m) ∙ sym (J.keeps (F m f)) ∙ ap (op (F m f)) (sym (J.start (λ i. f (m + i))))
  below_add m (suc n) f =
      ap (λ k. F k f) (add-suc m n) ∙ J.more (m + n) f ∙ ap (op (J.of (f (m + n)))) (below_add m n f)
      ∙ J.swaps (J.of (f (m + n))) (F m f) (F n (λ i. f (m + i))) ∙ ap (op (F m f)) (sym (J.more n (λ i. f (m + i))))

  -- A test of two sets' members, word by word.
  module _ (on : Bool → Bool → Bool) (a b : Members) where
    abbrev in_word : ℕ → X
    in_word j = F 32 (λ i. on (bit (word a j) i) (bit (word b j) i))

    part : (j : ℕ) (at : ℕ → ℕ) → ((i : ℕ) → at i ≡ j * 32 + i) → F 32 (λ i. on (member a (at i)) (member b (at i))) ≡ in_word j
    part j at e =
        same_below 32 (λ i. on (member a (at i)) (member b (at i))) (λ i. on (bit (word a j) i) (bit (word b j) i))
        (λ i l. ap₂ on (at_word a j i (at i) l (e i)) (at_word b j i (at i) l (e i)))

    pub by_words : F 128 (λ k. on (member a k) (member b k)) ≡ op (in_word 0) (op (in_word 1) (op (in_word 2) (in_word 3)))
    by_words =
        let f : ℕ → Bool = λ k. on (member a k) (member b k) in
        below_add 32 96 f
        ∙ ap₂ op (part 0 (λ i. i) (λ i. omega arith))
        (below_add 32 64 (λ i. f (32 + i))
        ∙ ap₂ op (part 1 (λ i. 32 + i) (λ i. omega arith))
        (below_add 32 32 (λ i. f (32 + (32 + i)))
        ∙ ap₂ op (part 2 (λ i. 32 + (32 + i)) (λ i. omega arith)) (part 3 (λ i. 32 + (32 + (32 + i))) (λ i. omega arith))))

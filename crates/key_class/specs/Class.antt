-- A key class: its functions, and the laws that tie them.
use Rattle.std.specs.Prelude.{◌≡◌, ℕ, ◌+◌, ◌≤◌, Bool, true, false, List, [], ◌∷◌, map, length, take, Some, Option}

-- How keys are joined, what it costs to put the second under the first, and the four words that stand for a key.
pub record Growing (K : Type 0) : Type 0 where
  pub union : K → K → K
  pub growth : K → K → ℕ
  pub squeeze : K → List ℕ
  pub unsqueeze : List ℕ → Option K

-- unsqueeze undoes squeeze, and gives none for words that no key squeezes to.
pub record Coded {K : Type 0} (G : Growing K) : Type 0 where
  pub four_words : (k : K) → length (G.squeeze k) ≡ 4
  pub round_trip : (k : K) → G.unsqueeze (G.squeeze k) ≡ Some k
  pub only_squeezed : (w : List ℕ) (k : K) → G.unsqueeze w ≡ Some k → G.squeeze k ≡ w

-- Q is the class's kind of question. A split says of each key whether it goes (true) or stays (false).
pub record Class (K Q : Type 0) : Type 0 where
  pub growing : Growing K
  pub covers : K → K → Bool
  pub matches : K → Q → Bool
  pub may_hold : K → Q → Bool
  pub split : List K → List Bool

abbrev pub going : List Bool → ℕ
going [] = 0
going (true ∷ bs) = 1 + going bs
going (false ∷ bs) = going bs

abbrev pub staying : List Bool → ℕ
staying [] = 0
staying (true ∷ bs) = staying bs
staying (false ∷ bs) = 1 + staying bs

-- Each of n keys is in one of the two groups, and each group has at least four.
pub record Shares (n : ℕ) (marks : List Bool) : Type 0 where
  pub each : length marks ≡ n
  pub four_stay : 4 ≤ staying marks
  pub four_go : 4 ≤ going marks

pub record Lawful {K Q : Type 0} (C : Class K Q) : Type 0 where
  pub covers_itself : (a : K) → C.covers a a ≡ true
  pub covers_through : (a b c : K) → C.covers a b ≡ true → C.covers b c ≡ true → C.covers a c ≡ true
  pub union_covers_first : (a b : K) → C.covers (C.growing.union a b) a ≡ true
  pub union_covers_second : (a b : K) → C.covers (C.growing.union a b) b ≡ true
  pub may_hold_a_match : (a b : K) (q : Q) → C.covers a b ≡ true → C.matches b q ≡ true → C.may_hold a q ≡ true
  pub may_hold_above : (a b : K) (q : Q) → C.covers a b ≡ true → C.may_hold b q ≡ true → C.may_hold a q ≡ true
  pub splits : (ks : List K) → 13 ≤ length ks → length ks ≤ 15 → Shares (length ks) (C.split ks)

-- The words are those of the keys, in their order.
abbrev pub Squeezed : {K : Type 0} → Growing K → List K → List (List ℕ) → Type 0
Squeezed G ks ws = map G.squeeze ks ≡ ws

-- The first marks are those of a split of the keys. Open are fewer than 13 or more than 15 words, and words of no key.
abbrev pub Picks : {K : Type 0} → Growing K → (List K → List Bool) → List (List ℕ) → List Bool → Type 0
Picks {K} G split ws marks = (ks : List K) → Squeezed G ks ws → 13 ≤ length ks → length ks ≤ 15 → take (length ks) marks ≡ split ks

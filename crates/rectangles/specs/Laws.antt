-- The laws of the class.
use Rattle.std.specs.Prelude.{◌≡◌, ℕ, ◌^◌, ◌<◌, Bool, true, false, if◌then◌else◌, ◌&&◌, T, [], ◌∷◌, ℤ, ◌≤ℤ◌, Some, None, Ok, int_le, refl}
use Rattle.std.proofs.Common.{ap, ◌∙◌, arith, of_z}
use mathlib.Core.HLevel.{is_prop→PathP}
use Rattle.std.proofs.Math.Bridge.{le_prop}
use Rattle.std.proofs.Math.Dec.{T_prop}
use Rattle.std.specs.Int.Signed.{mag}
use Rattle.std.specs.Int.{int_min, int_max, w32}
use Rattle.std.specs.Result.{result_ok}
use Rattle.std.proofs.lemmas.Int.{ints, clamps}
use Rattle.std.proofs.lemmas.Bool.{and_parts, and_from, cond-true}
use Rattle.std.proofs.lemmas.Bool.Decides.{nat_tests}
use Rattle.key_class.specs.Class.{Coded}
use Rattle.key_class.proofs.Coding.{four_only}
use Rattle.rectangles.specs.declared.rectangle.Rectangle.{Rectangle}
use Rattle.rectangles.specs.declared.rectangle.RectangleQuery.{RectangleQuery}
use Rattle.rectangles.specs.declared.rectangle.RectangleQuery.TheVariants.{Meets, Inside, HoldsPoint}
use Rattle.rectangles.specs.Signed.{signed, le_from, word_fits, signed_back, word_back}
use Rattle.rectangles.specs.Rectangles.{covers, meets, holds_point, union, squeeze, rectangle_if, read_rectangle, words_fit, key_of, matches, may_hold, rectangle_growing}
use Rattle.rectangles.specs.Points.{Holds}

-- Rectangles with the same corners are the same.
≤ℤ_prop : {a b : ℤ} → IsProp (a ≤ℤ b)
≤ℤ_prop {a} {b} p q = λ i. record { le = T_prop (int_le a b) p.le q.le i }

pub same_rectangle : (a b : Rectangle) → a.left ≡ b.left → a.bottom ≡ b.bottom → a.right ≡ b.right → a.top ≡ b.top → a ≡ b
same_rectangle a b e f g h = λ i. record {
  left = e i;
  bottom = f i;
  right = g i;
  top = h i;
  across = is_prop→PathP (λ j. e j ≤ℤ g j) (λ j. ≤ℤ_prop) a.across b.across i;
  upward = is_prop→PathP (λ j. f j ≤ℤ h j) (λ j. ≤ℤ_prop) a.upward b.upward i;
  west = is_prop→PathP (λ j. mag (e j) < 2 ^ 31) (λ j. le_prop) a.west b.west i;
  south = is_prop→PathP (λ j. mag (f j) < 2 ^ 31) (λ j. le_prop) a.south b.south i;
  east = is_prop→PathP (λ j. mag (g j) < 2 ^ 31) (λ j. le_prop) a.east b.east i;
  north = is_prop→PathP (λ j. mag (h j) < 2 ^ 31) (λ j. le_prop) a.north b.north i;
}

-- Tests and orders.
is_true : (b : Bool) → T b → b ≡ true
is_true true t = refl
is_true false t = absurd t

pub le_true : {a b : ℤ} → a ≤ℤ b → int_le a b ≡ true
le_true {a} {b} h = is_true (int_le a b) h.le

four_le : (a b c d e f g h : ℤ) → ((int_le a b && int_le c d) && (int_le e f && int_le g h)) ≡ true → (a ≤ℤ b) × (c ≤ℤ d) × (e ≤ℤ f) × (g ≤ℤ h)
four_le a b c d e f g h t =
    let p = and_parts (int_le a b && int_le c d) (int_le e f && int_le g h) t in
    let q = and_parts (int_le a b) (int_le c d) p.0 in
    let r = and_parts (int_le e f) (int_le g h) p.1 in
    (le_from q.0, le_from q.1, le_from r.0, le_from r.1)

le_four : (a b c d e f g h : ℤ) → a ≤ℤ b → c ≤ℤ d → e ≤ℤ f → g ≤ℤ h → ((int_le a b && int_le c d) && (int_le e f && int_le g h)) ≡ true
le_four a b c d e f g h p q r s = and_from _ _ (and_from _ _ (le_true p) (le_true q)) (and_from _ _ (le_true r) (le_true s))

-- From words and back.
pub made : (l b r t : ℕ) (k : Rectangle) (x y : Bool) (e : int_le (signed l) (signed r) ≡ x) (f : int_le (signed b) (signed t) ≡ y) → x ≡ true → y ≡ true
    → signed l ≡ k.left → signed b ≡ k.bottom → signed r ≡ k.right → signed t ≡ k.top → rectangle_if l b r t x y e f ≡ Ok k
made l b r t k true true e f u v e₁ e₂ e₃ e₄ = ap Ok (same_rectangle _ k e₁ e₂ e₃ e₄)
made l b r t k true false e f u v e₁ e₂ e₃ e₄ = cc
made l b r t k false y e f u v e₁ e₂ e₃ e₄ = cc

-- Words whose signed values are the corners of k.
pub read_corners : (l b r t : ℕ) (k : Rectangle) → signed l ≡ k.left → signed b ≡ k.bottom → signed r ≡ k.right → signed t ≡ k.top → read_rectangle l b r t ≡ Ok k
read_corners l b r t k e₁ e₂ e₃ e₄ =
    made l b r t k _ _ refl refl
    (ap (λ x. int_le x (signed r)) e₁ ∙ ap (int_le k.left) e₃ ∙ le_true k.across)
    (ap (λ x. int_le x (signed t)) e₂ ∙ ap (int_le k.bottom) e₄ ∙ le_true k.upward)
    e₁ e₂ e₃ e₄

pub all_fit : (a b c d : ℕ) → a < 2 ^ 32 → b < 2 ^ 32 → c < 2 ^ 32 → d < 2 ^ 32 → words_fit a b c d ≡ true
all_fit a b c d h i j k = grind (arith, nat_tests)

fit_all : (a b c d : ℕ) → words_fit a b c d ≡ true → (a < 2 ^ 32) × (b < 2 ^ 32) × (c < 2 ^ 32) × (d < 2 ^ 32)
fit_all a b c d t = grind (arith, nat_tests)

round_trip : (k : Rectangle) → key_of (of_z w32 k.left) (of_z w32 k.bottom) (of_z w32 k.right) (of_z w32 k.top) ≡ Some k
round_trip k =
    cond-true _ _ _ (all_fit _ _ _ _ (word_fits k.left k.west) (word_fits k.bottom k.south) (word_fits k.right k.east) (word_fits k.top k.north))
    ∙ ap result_ok (read_corners _ _ _ _ k (signed_back k.left k.west) (signed_back k.bottom k.south) (signed_back k.right k.east) (signed_back k.top k.north))

only_corners : (l b r t : ℕ) (k : Rectangle) (x y : Bool) (e : int_le (signed l) (signed r) ≡ x) (f : int_le (signed b) (signed t) ≡ y)
    → (l < 2 ^ 32) × (b < 2 ^ 32) × (r < 2 ^ 32) × (t < 2 ^ 32) → result_ok (rectangle_if l b r t x y e f) ≡ Some k → squeeze k ≡ l ∷ b ∷ r ∷ t ∷ []
only_corners l b r t k true true e f h g =
    let p = word_back l h.0 in
    let q = word_back b h.1 in
    let u = word_back r h.2 in
    let v = word_back t h.3 in
    cc
only_corners l b r t k true false e f h g = cc
only_corners l b r t k false y e f h g = cc

only_words : (a b c d : ℕ) (k : Rectangle) → key_of a b c d ≡ Some k → squeeze k ≡ a ∷ b ∷ c ∷ d ∷ []
only_words a b c d k = go (words_fit a b c d) (fit_all a b c d)
  where
    go : (x : Bool) → (x ≡ true → (a < 2 ^ 32) × (b < 2 ^ 32) × (c < 2 ^ 32) × (d < 2 ^ 32)) → (if x then result_ok (read_rectangle a b c d) else None) ≡ Some k → squeeze k ≡ a ∷ b ∷ c ∷ d ∷ []
    go true h e = only_corners a b c d k _ _ refl refl (h refl) e
    go false h e = cc

pub rectangle_coded : Coded rectangle_growing
rectangle_coded = record { four_words = λ k. refl; round_trip = round_trip; only_squeezed = four_only key_of squeeze only_words }

-- Covering, meeting and holding, corner by corner.
abbrev pub Inner : Rectangle → Rectangle → Type 0
Inner a b = (a.left ≤ℤ b.left) × (b.right ≤ℤ a.right) × (a.bottom ≤ℤ b.bottom) × (b.top ≤ℤ a.top)

pub inner : (a b : Rectangle) → covers a b ≡ true → Inner a b
inner a b h = grind (arith, ints)

pub covered : (a b : Rectangle) → Inner a b → covers a b ≡ true
covered a b h = grind (arith, ints)

abbrev pub Close : Rectangle → Rectangle → Type 0
Close a b = (a.left ≤ℤ b.right) × (b.left ≤ℤ a.right) × (a.bottom ≤ℤ b.top) × (b.bottom ≤ℤ a.top)

pub close : (a b : Rectangle) → meets a b ≡ true → Close a b
close a b h = grind (arith, ints)

pub meeting : (a b : Rectangle) → Close a b → meets a b ≡ true
meeting a b h = grind (arith, ints)

pub holding : (a : Rectangle) (x y : ℤ) → holds_point a x y ≡ true → Holds a x y
holding a x y = four_le a.left x x a.right a.bottom y y a.top

pub held : (a : Rectangle) (x y : ℤ) → Holds a x y → holds_point a x y ≡ true
held a x y h = le_four a.left x x a.right a.bottom y y a.top h.0 h.1 h.2 h.3

pub through : (a b c : ℤ) → a ≤ℤ b → b ≤ℤ c → a ≤ℤ c
through a b c h k = omega (arith, ints)

pub itself : (a : ℤ) → a ≤ℤ a
itself a = omega (arith, ints)

min_first : (a b : ℤ) → int_min a b ≤ℤ a
min_first a b = omega (arith, ints, clamps)

min_second : (a b : ℤ) → int_min a b ≤ℤ b
min_second a b = omega (arith, ints, clamps)

pub max_first : (a b : ℤ) → a ≤ℤ int_max a b
max_first a b = omega (arith, ints, clamps)

pub max_second : (a b : ℤ) → b ≤ℤ int_max a b
max_second a b = omega (arith, ints, clamps)

-- The laws.
pub covers_itself : (a : Rectangle) → covers a a ≡ true
covers_itself a = grind (arith, ints)

pub covers_through : (a b c : Rectangle) → covers a b ≡ true → covers b c ≡ true → covers a c ≡ true
covers_through a b c h k =
    let p = inner a b h in
    let q = inner b c k in
    covered a c (omega (arith, ints), omega (arith, ints), omega (arith, ints), omega (arith, ints))

pub union_first : (a b : Rectangle) → covers (union a b) a ≡ true
union_first a b = grind (arith, ints, clamps)

pub union_second : (a b : Rectangle) → covers (union a b) b ≡ true
union_second a b = grind (arith, ints, clamps)

meets_above : (a b q : Rectangle) → covers a b ≡ true → meets b q ≡ true → meets a q ≡ true
meets_above a b q h k =
    let p = inner a b h in
    let r = close b q k in
    meeting a q (omega (arith, ints), omega (arith, ints), omega (arith, ints), omega (arith, ints))

point_above : (a b : Rectangle) (x y : ℤ) → covers a b ≡ true → holds_point b x y ≡ true → holds_point a x y ≡ true
point_above a b x y h k = let p = inner a b h in grind (arith, ints)

inside_meets : (b q : Rectangle) → covers q b ≡ true → meets b q ≡ true
inside_meets b q k =
    let p = inner q b k in
    let o = b.across in
    let u = b.upward in
    meeting b q (omega (arith, ints), omega (arith, ints), omega (arith, ints), omega (arith, ints))

pub holds_match : (a b : Rectangle) (q : RectangleQuery) → covers a b ≡ true → matches b q ≡ true → may_hold a q ≡ true
holds_match a b (Meets q) h k = meets_above a b q h k
holds_match a b (Inside q) h k = meets_above a b q h (inside_meets b q k)
holds_match a b (HoldsPoint x y) h k = point_above a b x y h k

pub holds_above : (a b : Rectangle) (q : RectangleQuery) → covers a b ≡ true → may_hold b q ≡ true → may_hold a q ≡ true
holds_above a b (Meets q) h k = meets_above a b q h k
holds_above a b (Inside q) h k = meets_above a b q h k
holds_above a b (HoldsPoint x y) h k = point_above a b x y h k

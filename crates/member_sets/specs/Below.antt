-- What tests of the numbers below n tell.
use Rattle.std.specs.Prelude.{◌≡◌, ℕ, ◌<◌, Bool, true, false, not, ◌||◌, ◌↔◌, IsTrue, refl}
use Rattle.std.proofs.lemmas.Bool.{false≢true}
use Rattle.std.proofs.lemmas.Bool.Decides.{Decides-below_and, Decides-below_or}
use Rattle.member_sets.specs.Members.{all_below, some_below}

implies : (x y : Bool) → IsTrue (not x || y) ↔ (x ≡ true → y ≡ true)
implies true y = (λ e t. e, λ f. f refl)
implies false y = (λ e f. absurd (false≢true f), λ f. refl)

-- All that pass g pass f.
pub within_tells : (n : ℕ) (f g : ℕ → Bool) → IsTrue (all_below n (λ k. not (g k) || f k)) ↔ ((k : ℕ) → k < n → g k ≡ true → f k ≡ true)
unfolding all_below
within_tells n f g =
    Decides-below_and (λ k. not (g k) || f k) (λ k. g k ≡ true → f k ≡ true) (λ m. all_below m (λ k. not (g k) || f k))
    (λ k. implies (g k) (f k)) refl (λ m. refl) n

pub some_tells : (n : ℕ) (f : ℕ → Bool) → IsTrue (some_below n f) ↔ ((k : ℕ) × (k < n) × (f k ≡ true))
unfolding some_below
some_tells n f = Decides-below_or f (λ k. f k ≡ true) (λ m. some_below m f) (λ k. (λ e. e, λ e. e)) refl (λ m. refl) n

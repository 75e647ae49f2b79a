-- Four words, and the keys that lists of them stand for.
use Rattle.std.specs.Prelude.{◌≡◌, ℕ, true, List, [], ◌∷◌, is_some, None, Option, slice_index}
use Rattle.std.specs.List.{AllByRecursion, filter_map}
use Rattle.key_class.specs.Class.{Growing}

-- What four words give; any other number of words gives nothing.
abbrev pub four : {X : Type 0} → (ℕ → ℕ → ℕ → ℕ → Option X) → List ℕ → Option X
four f [] = None
four f (a ∷ []) = None
four f (a ∷ b ∷ []) = None
four f (a ∷ b ∷ c ∷ []) = None
four f (a ∷ b ∷ c ∷ d ∷ []) = f a b c d
four f (a ∷ b ∷ c ∷ d ∷ e ∷ more) = None

-- What the first four words give.
abbrev pub of_four : {X : Type 0} → (ℕ → ℕ → ℕ → ℕ → X) → List ℕ → X
of_four f ws = f (slice_index ws 0) (slice_index ws 1) (slice_index ws 2) (slice_index ws 3)

abbrev pub AllKeys : {K : Type 0} → Growing K → List (List ℕ) → Type 0
AllKeys G ws = AllByRecursion (λ w. is_some (G.unsqueeze w) ≡ true) ws

-- The keys of the words; words of no key are passed over.
abbrev pub keys_of : {K : Type 0} → Growing K → List (List ℕ) → List K
keys_of G ws = filter_map G.unsqueeze ws

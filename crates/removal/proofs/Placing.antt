-- The place of a record on a leaf.
use Rattle.std.proofs.Common.{◌≡◌, ◌≢◌, ℕ, zero, suc, ◌+◌, ◌<◌, ◌≤◌, Bool, true, false, cond, eqb, List, [], ◌∷◌, ◌++◌, length, take, drop, Some, None, Decides, Option, unwrap_or, refl, sym, ap, ◌∙◌, arith}
use Rattle.std.specs.Option.{option_map, MatchOption}
use Rattle.std.specs.List.{slice_get}
use Rattle.std.proofs.lemmas.Option.{slice_get_within, same_Some}
use Rattle.std.proofs.lemmas.Slice.Eq.{compares_Decides}
use Rattle.std.proofs.lemmas.List.{append_assoc, drop_all}
use Rattle.std.proofs.lemmas.Bool.{cond-true, cond-false, and_left, and_right, ne_eqb, false≢true}
use Rattle.std.proofs.lemmas.Bool.Decides.{Decides-and, Decides-eqb, same_from_decides}
use Rattle.key_class.specs.Class.{Growing}
use Rattle.node.specs.Nodes.{Entry, without}
use Rattle.node.proofs.Places.{Here, here}
use Rattle.gist.specs.Remove.{same_words, is_record, without_first}

same_words_decides : (xs ys : List ℕ) → Decides (same_words xs ys) (xs ≡ ys)
same_words_decides = compares_Decides same_words (record { empty = refl; shorter = λ y ys. refl; longer = λ x xs. refl; heads = λ x y xs ys. refl })

-- An entry with the number is the record where its key words are.
pub by_words : {K : Type 0} (G : Growing K) (k : K) (n : ℕ) (e : Entry K ℕ) (b : Bool) {v w : List ℕ} → e.link ≡ n → v ≡ G.squeeze e.key → w ≡ G.squeeze k → Decides b (v ≡ w) → b ≡ is_record G k n e
by_words G k n e b number own words same =
    same_from_decides b (is_record G k n e) (λ t. (number, sym own ∙ same.0 t ∙ words), λ p. same.1 (own ∙ p.1 ∙ sym words))
    (Decides-and _ _ (Decides-eqb e.link n) (same_words_decides _ _))

pub is_it : {K : Type 0} (G : Growing K) (k : K) (n : ℕ) (e : Entry K ℕ) → e.link ≡ n → G.squeeze e.key ≡ G.squeeze k → is_record G k n e ≡ true
is_it G k n e a b = sym (by_words G k n e true a refl refl (λ t. b, λ s. refl))

pub not_by_words : {K : Type 0} (G : Growing K) (k : K) (n : ℕ) (e : Entry K ℕ) → G.squeeze e.key ≢ G.squeeze k → is_record G k n e ≡ false
not_by_words G k n e a = and_right (eqb e.link n) _ (same_from_decides _ false (same_words_decides (G.squeeze e.key) (G.squeeze k)) (λ t. absurd (false≢true t), λ s. absurd (a s)))

pub not_by_link : {K : Type 0} (G : Growing K) (k : K) (n : ℕ) (e : Entry K ℕ) → e.link ≢ n → is_record G k n e ≡ false
not_by_link G k n e a = and_left _ _ (ne_eqb e.link n a)

module _ {A : Type 0} (p : A → Bool) where
  -- The places before i were passed: what is so of the rest is so of all.
  abbrev pub SoFar : List A → ℕ → Type 0
  SoFar es i = option_map (λ ys. take i es ++ ys) (without_first p (drop i es)) ≡ without_first p es

  module _ (es : List A) (i : ℕ) (h : Here es i) (so_far : SoFar es i) where
    -- What the test at place i says of all.
    stepped : (b : Bool) → p h.it ≡ b
        → option_map (λ ys. take i es ++ ys) (cond b (Some (drop (i + 1) es)) (option_map (λ ys. h.it ∷ ys) (without_first p (drop (i + 1) es)))) ≡ without_first p es
    stepped b e =
        ap (λ c. option_map (λ (ys : List A). take i es ++ ys) (cond c (Some (drop (i + 1) es)) (option_map (λ ys. h.it ∷ ys) (without_first p (drop (i + 1) es))))) (sym e)
        ∙ ap (λ xs. option_map (λ (ys : List A). take i es ++ ys) (without_first p xs)) (sym h.left) ∙ so_far

    pub found_there : p h.it ≡ true → Some (without es i) ≡ without_first p es
    found_there e =
        let up : suc i ≡ i + 1 = omega arith in
        ap (λ (m : ℕ). Some (take i es ++ drop m es)) up ∙ stepped true e

    pub passed : p h.it ≡ false → SoFar es (i + 1)
    passed e = behind (without_first p (drop (i + 1) es)) ∙ stepped false e
      where
        behind : (o : Option (List A)) → option_map (λ ys. take (i + 1) es ++ ys) o ≡ option_map (λ ys. take i es ++ ys) (option_map (λ ys. h.it ∷ ys) o)
        behind None = refl
        behind (Some ys) = ap (λ (xs : List A). Some (xs ++ ys)) h.so_far ∙ ap Some (append_assoc (take i es) (h.it ∷ []) ys)

  pub passed_all : (es : List A) (i : ℕ) → length es ≤ i → SoFar es i → None ≡ without_first p es
  passed_all es i l so_far = ap (λ xs. option_map (λ (ys : List A). take i es ++ ys) (without_first p xs)) (sym (drop_all i es l)) ∙ so_far

  -- Whether there is an element at place i that passes.
  abbrev pub passes : List A → ℕ → Bool
  passes es i = unwrap_or (option_map p (slice_get es i)) false

  at_first : (es : List A) (i : ℕ) → passes es i ≡ true → ((j : ℕ) → j < i → passes es j ≡ false) → Some (without es i) ≡ without_first p es
  at_first [] i here before = absurd (false≢true here)
  at_first (x ∷ es) zero here before = sym (cond-true _ _ _ here)
  at_first (x ∷ es) (suc i) here before =
      ap (option_map (λ ys. x ∷ ys)) (at_first es i here (λ j l. before (suc j) (omega arith))) ∙ sym (cond-false _ _ _ (before 0 (omega arith)))

  nowhere : (es : List A) → ((j : ℕ) → j < length es → passes es j ≡ false) → None ≡ without_first p es
  nowhere [] none = refl
  nowhere (x ∷ es) none = ap (option_map (λ ys. x ∷ ys)) (nowhere es (λ j l. none (suc j) (omega arith))) ∙ sym (cond-false _ _ _ (none 0 (omega arith)))

  -- What a search through the places finds.
  pub found : (es : List A) (r : Option ℕ) (end : ℕ) → end ≡ length es
      → MatchOption r ((j : ℕ) → 0 ≤ j → j < end → passes es j ≡ false) (λ i. (0 ≤ i) × (i < end) × (passes es i ≡ true) × ((j : ℕ) → 0 ≤ j → j < i → passes es j ≡ false))
      → option_map (without es) r ≡ without_first p es
  found es None end all none = nowhere es (λ j l. none j (omega arith) (omega arith))
  found es (Some i) end all (low, high, here, before) = at_first es i here (λ j l. before j (omega arith) l)

-- Entry i was read, and is the record or not.
module _ {K : Type 0} (G : Growing K) (k : K) (n : ℕ) (es : List (Entry K ℕ)) (i : ℕ) (e : Entry K ℕ) (there : slice_get es i ≡ Some e) (so_far : SoFar (is_record G k n) es i) where
  at_it : Here es i
  at_it = here es i (slice_get_within es i e there)

  is_entry : e ≡ at_it.it
  is_entry = same_Some e at_it.it (sym there ∙ at_it.there)

  pub found_at : e.link ≡ n → G.squeeze e.key ≡ G.squeeze k → Some (without es i) ≡ without_first (is_record G k n) es
  found_at a b = found_there (is_record G k n) es i at_it so_far (ap (is_record G k n) (sym is_entry) ∙ is_it G k n e a b)

  pub passed_by_link : e.link ≢ n → SoFar (is_record G k n) es (i + 1)
  passed_by_link a = passed (is_record G k n) es i at_it so_far (ap (is_record G k n) (sym is_entry) ∙ not_by_link G k n e a)

  pub passed_by_words : G.squeeze e.key ≢ G.squeeze k → SoFar (is_record G k n) es (i + 1)
  passed_by_words a = passed (is_record G k n) es i at_it so_far (ap (is_record G k n) (sym is_entry) ∙ not_by_words G k n e a)

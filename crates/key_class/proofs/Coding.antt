-- Words and the keys that they stand for, under the laws of the coding.
use Rattle.std.proofs.Common.{◌≡◌, ℕ, zero, suc, ◌+◌, slice_get, ◌<◌, true, List, [], ◌∷◌, map, length, get_or, drop, is_some, Some, None, Ok, Option, Result, sym, refl, ap, ◌∙◌, subst, arith}
use Rattle.std.specs.List.{cons_option}
use Rattle.std.specs.Result.{result_ok}
use Rattle.std.proofs.lemmas.Bool.{false≢true}
use lib.ListN.{length-map}
use Rattle.std.proofs.lemmas.List.{drop_more}
use Rattle.std.proofs.lemmas.Option.{slice_get_within, get_or_from_slice_get}
use Rattle.std.proofs.lemmas.Bool.Decides.{nat_tests}
use Rattle.key_class.specs.Class.{Growing, Coded, Squeezed}
use Rattle.key_class.specs.Refusals.{if_unused}
use Rattle.key_class.specs.declared.refusal.KeyRefusal.{KeyRefusal}
use Rattle.key_class.specs.Words.{four, of_four, AllKeys, keys_of}

-- The first of words that are all keys'.
keys_cons : {K : Type 0} (G : Growing K) (w : List ℕ) (ws : List (List ℕ)) → AllKeys G (w ∷ ws) → (k : K) × (G.unsqueeze w ≡ Some k) × (keys_of G (w ∷ ws) ≡ k ∷ keys_of G ws)
keys_cons {K} G w ws h = go (G.unsqueeze w) h.0
  where
    go : (o : Option K) → is_some o ≡ true → (k : K) × (o ≡ Some k) × (cons_option o (keys_of G ws) ≡ k ∷ keys_of G ws)
    go None e = absurd (false≢true e)
    go (Some k) e = (k, refl, refl)

-- The words of their keys are the words.
pub words_of_keys : {K : Type 0} {G : Growing K} (C : Coded G) (ws : List (List ℕ)) → AllKeys G ws → map G.squeeze (keys_of G ws) ≡ ws
words_of_keys C [] h = refl
words_of_keys {K} {G} C (w ∷ ws) h =
    let e = keys_cons G w ws h in
    ap (map G.squeeze) e.2 ∙ ap (λ v. v ∷ map G.squeeze (keys_of G ws)) (C.only_squeezed w e.0 e.1) ∙ ap (λ vs. w ∷ vs) (words_of_keys C ws h.1)

pub length_keys : {K : Type 0} (G : Growing K) (ws : List (List ℕ)) → AllKeys G ws → length (keys_of G ws) ≡ length ws
length_keys G [] h = refl
length_keys G (w ∷ ws) h = ap length (keys_cons G w ws h).2 ∙ ap suc (length_keys G ws h.1)

-- The words at a place are those of the key there.
pub record There {K : Type 0} (G : Growing K) (ks : List K) (ws : List (List ℕ)) (i : ℕ) : Type 0 where
  pub within : i < length ws
  pub key : K
  pub of_words : G.unsqueeze (get_or ws i []) ≡ Some key
  pub of_keys : slice_get ks i ≡ Some key

at_place : {K : Type 0} (G : Growing K) (ws : List (List ℕ)) (i : ℕ) → AllKeys G ws → i < length (keys_of G ws) → There G (keys_of G ws) ws i
at_place G [] i h l = absurd (omega arith)
at_place G (w ∷ ws) zero h l = let e = keys_cons G w ws h in record { within = omega arith; key = e.0; of_words = e.1; of_keys = ap (λ ks. slice_get ks 0) e.2 }
at_place G (w ∷ ws) (suc i) h l =
    let e = keys_cons G w ws h in
    let n = ap length e.2 in
    let t = at_place G ws i h.1 (omega arith) in
    record { within = omega arith; key = t.key; of_words = t.of_words; of_keys = ap (λ ks. slice_get ks (suc i)) e.2 ∙ t.of_keys }

pub there : {K : Type 0} (G : Growing K) (ks : List K) (ws : List (List ℕ)) (i : ℕ) → AllKeys G ws → keys_of G ws ≡ ks → i < length ks → There G ks ws i
there G ks ws i h e l = subst (λ xs. There G xs ws i) e (at_place G ws i h (rw e l))

pub drop_at : {X : Type 0} (xs : List X) (i : ℕ) (x : X) → slice_get xs i ≡ Some x → drop i xs ≡ x ∷ drop (i + 1) xs
drop_at xs i x e = drop_more xs i x (slice_get_within xs i x e) ∙ ap (λ y. y ∷ drop (i + 1) xs) (get_or_from_slice_get xs i x x e)

-- The words of keys are all keys', and those keys'.
pub squeezed_keys : {K : Type 0} {G : Growing K} (C : Coded G) (ks : List K) → AllKeys G (map G.squeeze ks)
squeezed_keys C [] = tt
squeezed_keys C (k ∷ ks) = (ap is_some (C.round_trip k), squeezed_keys C ks)

keys_squeezed : {K : Type 0} {G : Growing K} (C : Coded G) (ks : List K) → keys_of G (map G.squeeze ks) ≡ ks
keys_squeezed C [] = refl
keys_squeezed {K} {G} C (k ∷ ks) = ap (λ o. cons_option o (keys_of G (map G.squeeze ks))) (C.round_trip k) ∙ ap (λ l. k ∷ l) (keys_squeezed C ks)

pub record Read {K : Type 0} (G : Growing K) (ks : List K) (ws : List (List ℕ)) : Type 0 where
  pub all : AllKeys G ws
  pub keys : keys_of G ws ≡ ks
  pub many : length ks ≡ length ws

pub read : {K : Type 0} {G : Growing K} (C : Coded G) (ks : List K) (ws : List (List ℕ)) → Squeezed G ks ws → Read G ks ws
read {K} {G} C ks ws e = record {
  all = subst (AllKeys G) e (squeezed_keys C ks);
  keys = ap (keys_of G) (sym e) ∙ keys_squeezed C ks;
  many = sym (length-map ks G.squeeze) ∙ ap length e;
}

pub squeezed_at : {K : Type 0} {G : Growing K} (C : Coded G) (ks : List K) (ws : List (List ℕ)) → Squeezed G ks ws → (i : ℕ) → i < length ks → There G ks ws i
squeezed_at {K} {G} C ks ws e i l = let r = read C ks ws e in there G ks ws i r.all r.keys l

-- It is enough to see the words of keys that four words give.
pub four_only : {K : Type 0} (f : ℕ → ℕ → ℕ → ℕ → Option K) (s : K → List ℕ)
    → ((a b c d : ℕ) (k : K) → f a b c d ≡ Some k → s k ≡ a ∷ b ∷ c ∷ d ∷ [])
    → (w : List ℕ) (k : K) → four f w ≡ Some k → s k ≡ w
four_only f s h [] k e = cc
four_only f s h (a ∷ []) k e = cc
four_only f s h (a ∷ b ∷ []) k e = cc
four_only f s h (a ∷ b ∷ c ∷ []) k e = cc
four_only f s h (a ∷ b ∷ c ∷ d ∷ []) k e = h a b c d k e
four_only f s h (a ∷ b ∷ c ∷ d ∷ e₁ ∷ more) k e = cc

-- A list of four words gives what its first four give.
pub four_is : {X : Type 0} (f : ℕ → ℕ → ℕ → ℕ → Option X) (w : List ℕ) → length w ≡ 4 → four f w ≡ of_four f w
four_is f [] e = absurd (omega arith)
four_is f (a ∷ []) e = absurd (omega arith)
four_is f (a ∷ b ∷ []) e = absurd (omega arith)
four_is f (a ∷ b ∷ c ∷ []) e = absurd (omega arith)
four_is f (a ∷ b ∷ c ∷ d ∷ []) e = refl
four_is f (a ∷ b ∷ c ∷ d ∷ x ∷ more) e = absurd (omega arith)

-- An answer that is given although two words are not used: they are zero.
pub record Unused {X : Type 0} (c d : ℕ) (r : Result X KeyRefusal) (x : X) : Type 0 where
  pub third : c ≡ 0
  pub fourth : d ≡ 0
  pub answer : result_ok r ≡ Some x

pub unused_ok : {X : Type 0} (c d : ℕ) (r : Result X KeyRefusal) (x : X) → result_ok (if_unused c d r) ≡ Some x → Unused c d r x
unused_ok {X} c d r x e = record { third = grind (arith, nat_tests); fourth = grind (arith, nat_tests); answer = grind (arith, nat_tests) }

-- Words that were looked at and found zero change no answer.
pub unused_passed : {X : Type 0} (c d : ℕ) (r : Result X KeyRefusal) → ◌≡◌ {A = Result Unit KeyRefusal} (Ok tt) (if_unused c d (Ok tt)) → r ≡ if_unused c d r
unused_passed c d r e = grind (arith, nat_tests)

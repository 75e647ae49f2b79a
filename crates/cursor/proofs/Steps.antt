-- What becomes of the places of a way, and that the steps left grow fewer.
use Rattle.std.proofs.Common.{◌≡◌, ℕ, zero, suc, ◌+◌, ◌-◌, ◌*◌, ◌<◌, ◌≤◌, List, [], ◌∷◌, reverse, length, Some, None, Option, refl, ap, ◌∙◌, add-mul, one-mul, arith}
use Rattle.std.specs.List.{slice_get}
use Rattle.std.proofs.lemmas.List.{get_or-reverse, length-reverse}
use Rattle.std.proofs.lemmas.Option.{slice_get-get_or}
use Rattle.cursor.specs.Ways.{Here, Put, Pushed, Popped, ahead, first_of, after, entry_steps, steps_left, steps_ahead}
use Rattle.cursor.specs.declared.place.Place.{Place}
use Rattle.cursor.specs.declared.way.Way.{Way}

-- What is last in a list is first in its reverse.
last_first : {X : Type 0} (xs : List X) → slice_get xs (length xs - 1) ≡ slice_get (reverse xs) 0
last_first [] = refl
last_first (x ∷ xs) =
    let l = x ∷ xs in
    let e = get_or-reverse l 0 x (omega arith) in
    let a = slice_get-get_or l (length l - 1) x (omega arith) in
    let b = slice_get-get_or (reverse l) 0 x (omega (arith, length-reverse l)) in
    let z : length l - 1 - 0 ≡ length l - 1 = omega arith in
    cc

-- The last place of a way is in hand.
pub here_is : (w : Way) (r : Option Place) → r ≡ slice_get w.places.items (length w.places.items - 1) → Here w r
here_is w r e = first (ahead w) r refl (e ∙ last_first w.places.items)
  where
    first : (ps : List Place) (r : Option Place) → ahead w ≡ ps → r ≡ slice_get ps 0 → Here w r
    first [] None is f = is
    first [] (Some p) is f = cc
    first (p ∷ ps) None is f = cc
    first (p ∷ ps) (Some q) is f = (ps, cc)

some_steps : (h : ℕ) → 1 ≤ entry_steps h
some_steps zero = omega arith
some_steps (suc h) = omega arith

one_entry : (n c : ℕ) → n < 12 → (12 - n) * c ≡ (12 - (n + 1)) * c + c
one_entry n c l =
    let e : 12 - n ≡ (12 - (n + 1)) + 1 = omega arith in
    ap (λ m. m * c) e ∙ add-mul (12 - (n + 1)) 1 c ∙ ap (λ m. (12 - (n + 1)) * c + m) (one-mul c)

-- From w, which is at place p, a step leads to v.
module _ (w v : Way) (p : Place) (ps : List Place) (is : ahead w ≡ p ∷ ps) where
  pub fewer_after : p.next < 12 → v.height ≡ w.height → ahead v ≡ after p ∷ ps → steps_ahead v < steps_ahead w
  fewer_after l same to =
      let a : steps_ahead v ≡ steps_left w.height (after p ∷ ps) = cc in
      let b = one_entry p.next (entry_steps w.height) l in
      let c = some_steps w.height in
      omega (arith, ap (steps_left w.height) is)

  pub fewer_up : v.height ≡ w.height + 1 → ahead v ≡ ps → steps_ahead v < steps_ahead w
  fewer_up up to =
      let u : v.height ≡ suc w.height = omega arith in
      let a : steps_ahead v ≡ steps_left (suc w.height) ps = cc in
      omega (arith, ap (steps_left w.height) is)

  pub fewer_down : (page : ℕ) → p.next < 12 → v.height + 1 ≡ w.height → ahead v ≡ first_of page ∷ after p ∷ ps → steps_ahead v < steps_ahead w
  fewer_down page l down to =
      let u : w.height ≡ suc v.height = omega arith in
      let b : steps_left w.height (p ∷ ps) ≡ steps_left (suc v.height) (p ∷ ps) = ap (λ h. steps_left h (p ∷ ps)) u in
      let a : steps_ahead v ≡ steps_left v.height (first_of page ∷ after p ∷ ps) = ap (steps_left v.height) to in
      let c = one_entry p.next (entry_steps (suc v.height)) l in
      omega (arith, ap (steps_left w.height) is)

module _ {w : Way} {p : Place} {ps : List Place} (is : ahead w ≡ p ∷ ps) where
  pub fewer_on_page : {v : Way} → p.next < 12 → Put w v (after p) → steps_ahead v < steps_ahead w
  fewer_on_page {v = v} l put = fewer_after w v p ps is l put.height (put.places p ps is)

  pub fewer_above : {v : Way} → Popped w v → steps_ahead v < steps_ahead w
  fewer_above {v = v} pop = let up = pop.above p ps is in fewer_up w v p ps is up.0 up.1

  pub fewer_below : {u v : Way} {page : ℕ} → p.next < 12 → Put w u (after p) → Pushed u v page → steps_ahead v < steps_ahead w
  fewer_below {v = v} {page = page} l put push =
      fewer_down w v p ps is page l (omega (arith, put.height, push.height)) (push.places ∙ ap (λ r. first_of page ∷ r) (put.places p ps is))

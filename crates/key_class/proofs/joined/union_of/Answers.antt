use Rattle.std.proofs.Common.{◌≡◌, ℕ, suc, ◌+◌, ◌<◌, ◌≤◌, List, [], ◌∷◌, length, drop, get_or, slice_get, Some, None, Option, sym, ap, subst, ◌∙◌, arith, add-one}
use Rattle.std.proofs.lemmas.List.{get_or-drop, take_rest, length-drop, at_drop_all}
use Rattle.key_class.specs.Class.{Growing, Coded, Squeezed}
use Rattle.key_class.specs.Joined.{joined_onto}
use Rattle.key_class.proofs.Coding.{There, read, squeezed_at, drop_at}
use Rattle.key_class.proofs.joined.union_of.Goals as goal

-- The key of a word after the first.
after_first : {K : Type 0} {G : Growing K} (C : Coded G) (ks : List K) (ws rest : List (List ℕ)) (w : List ℕ) (i : ℕ) → ws ≡ w ∷ rest → i < length rest → Squeezed G ks ws
    → (k : K) × (G.unsqueeze (get_or rest i []) ≡ Some k) × (slice_get ks (i + 1) ≡ Some k)
after_first {K} {G} C ks ws rest w i e l s =
    let n = (read C ks ws s).many in
    let m = ap length e in
    let t : There G ks ws (suc i) = squeezed_at C ks ws s (suc i) (omega arith) in
    (t.key, sym (ap (λ (vs : List (List ℕ)). G.unsqueeze (get_or vs (suc i) [])) e) ∙ t.of_words, subst (λ m. slice_get ks m ≡ Some t.key) (sym (add-one i)) t.of_keys)

-- What was read at a place is read at the same one.
read_same : {K : Type 0} (G : Growing K) (ws : List (List ℕ)) (i j : ℕ) (o : Option K) → o ≡ G.unsqueeze (get_or ws j []) → j ≡ i → G.unsqueeze (get_or ws i []) ≡ o
read_same G ws i j o e f = sym (e ∙ ap (λ n. G.unsqueeze (get_or ws n [])) f)

-- One key more is joined.
onto-more : {K : Type 0} (G : Growing K) (a k b : K) (ks : List K) (i : ℕ) → slice_get ks i ≡ Some k → b ≡ G.union a k → joined_onto G b (drop (i + 1) ks) ≡ joined_onto G a (drop i ks)
onto-more G a k b ks i h e = ap (λ x. joined_onto G x (drop (i + 1) ks)) e ∙ sym (ap (joined_onto G a) (drop_at ks i k h))

pub loop-word-preserved : goal.loop-word-preserved
loop-word-preserved g c = λ ks e.
    let rest = c.in_ok-first.rest.now in
    let i = c.loop-word.word-index in
    let l : i < length rest = grind (arith, take_rest, length-drop) in
    let t = after_first g.met.K.Key.coded ks c.args.words.now rest c.in_ok-first.first.now i c.in_ok-first.ensures.cases.0 l e in
    let w = simp (c.in_ok-key.was, take_rest, get_or-drop) at c.unsqueeze-in-loop-word.ensures in
    let r = read_same g.K.Key.growing rest i _ (Some c.in_ok-key.key) w (omega arith) in
    ap Some (onto-more g.K.Key.growing c.loop-word.union c.in_ok-key.key c.union-union.result ks (i + 1) (cc (t.1, t.2, r)) c.union-union.ensures)
    ∙ c.loop-word.invariant ks e

pub returns-in_err-key : goal.returns-in_err-key
returns-in_err-key g c = λ ks e.
    let rest = c.in_ok-first.rest.now in
    let i = c.loop-word.word-index in
    let l : i < length rest = grind (arith, take_rest, length-drop) in
    let t = after_first g.met.K.Key.coded ks c.args.words.now rest c.in_ok-first.first.now i c.in_ok-first.ensures.cases.0 l e in
    let w = simp (c.in_err-key.was, take_rest, get_or-drop) at c.unsqueeze-in-loop-word.ensures in
    let r = read_same g.K.Key.growing rest i _ None w (omega arith) in
    cc (t.1, r)

pub returns : goal.returns
returns g c = λ ks e.
    let i = c.loop-word.word-index in
    let n = (read g.met.K.Key.coded ks c.args.words.now e).many in
    let m = ap length c.in_ok-first.ensures.cases.0 in
    let l : length ks ≤ i + 1 = grind (arith, take_rest, length-drop) in
    sym (at_drop_all (λ ms. Some (joined_onto g.K.Key.growing c.loop-word.union ms)) ks (i + 1) l) ∙ c.loop-word.invariant ks e

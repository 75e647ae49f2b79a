use Rattle.std.proofs.Common.{◌≡◌, ℕ, zero, suc, ◌+◌, List, [], ◌∷◌, drop, Some, sym, ap, ◌∙◌, arith}
use lib.ListN.{length-map}
use Rattle.std.specs.Option.{option_map}
use Rattle.std.specs.List.{slice_get}
use Rattle.std.proofs.lemmas.List.{at_drop_all}
use Rattle.key_class.specs.Class.{Growing}
use Rattle.key_class.specs.Joined.{joined, joined_onto}
use Rattle.node.specs.Nodes.{Entry, keys}
use Rattle.node.proofs.Places.{count_is, here}
use Rattle.node.proofs.memory.Node.union.Goals as goal

first : {K : Type 0} (G : Growing K) (es : List (Entry K ℕ)) (k : K) → Some k ≡ option_map (λ e. e.key) (slice_get es 0) → Some (joined_onto G k (drop 1 (keys es))) ≡ joined G (keys es)
first G [] k n = cc
first G (e ∷ es) k n = let same : k ≡ e.key = cc in ap (λ x. Some (joined_onto G x (keys es))) same

-- One key more is joined.
onto-more : {K : Type 0} (G : Growing K) (a k b : K) (es : List (Entry K ℕ)) (i : ℕ) → Some k ≡ option_map (λ e. e.key) (slice_get es i) → b ≡ G.union a k
    → joined_onto G b (drop (i + 1) (keys es)) ≡ joined_onto G a (drop i (keys es))
onto-more G a k b [] i n u = cc
onto-more G a k b (e ∷ es) zero n u = let same : k ≡ e.key = cc in ap (λ x. joined_onto G x (keys es)) (u ∙ ap (G.union a) same)
onto-more G a k b (e ∷ es) (suc i) n u =
    let s : suc i + 1 ≡ suc (i + 1) = omega arith in
    ap (λ (m : ℕ). joined_onto G b (drop m (keys (e ∷ es)))) s ∙ onto-more G a k b es i n u

pub loop-i-init : goal.loop-i-init
loop-i-init g c = λ level es is. first g.K.Key.growing es c.in_ok-union.union (c.in_ok-union.ensures level es is)

pub returns-in_err-key : goal.returns-in_err-key
returns-in_err-key g c = λ level es is.
    let n = count_is g.K.Key.growing level es c.args.self.now.words is in
    let there = ap (option_map (λ e. e.key)) (here es c.loop-i.i (omega arith)).there in
    let none = c.in_err-key.ensures level es is in
    cc

pub loop-i-preserved : goal.loop-i-preserved
loop-i-preserved g c = λ level es is.
    ap Some (onto-more g.K.Key.growing c.loop-i.union c.in_ok-key.key c.union-union.result es c.loop-i.i (c.in_ok-key.ensures level es is) c.union-union.ensures)
    ∙ c.loop-i.invariant level es is

pub returns : goal.returns
returns g c = λ level es is.
    let n = count_is g.K.Key.growing level es c.args.self.now.words is in
    let m = length-map es (λ e. e.key) in
    ap Some (sym (at_drop_all (joined_onto g.K.Key.growing c.loop-i.union) (keys es) c.loop-i.i (omega arith))) ∙ c.loop-i.invariant level es is

use Rattle.std.proofs.Common.{◌≡◌, ℕ, map, length, get_or, take, List, [], sym, ◌∙◌, arith, rules}
use denote.Param.Members.{Mut, Called}
use lib.ListN.{length-map}
use Rattle.std.specs.Array.{IsMapOf}
use Rattle.std.proofs.lemmas.List.{same_lists, get_or-map}
use Rattle.node.proofs.memory.Pool.keys.Goals as goal

-- An array's `map` by a function that answers v.
mapped : {F A B : Type 0} (g : Mut F (A × Unit {0}) B) (v : A → B) (d : A) (f : F) (xs : List A) (ys : List B) (n : ℕ) → length xs ≡ n
    → ((p q : F) (x : A) (y : B) → Called g p (x, tt) y q → y ≡ v x) → IsMapOf g f xs ys n → ys ≡ map v xs
mapped g v d f xs ys n long says m =
    let l = m.long in
    let k = length-map xs v in
    same_lists ys (map v xs) (omega arith) (λ i e b.
    let w = m.at i d e (omega arith) in
    says w.0 w.1 (get_or xs i d) (get_or ys i e) w.2 ∙ sym (get_or-map v xs i d e (omega arith)))

pub returns : goal.returns
returns c =
    mapped _ (take 4) [] _ c.args.self.now.rows c.map.result 15 (omega arith) (λ p q x y k. search rules) c.map.ensures.items

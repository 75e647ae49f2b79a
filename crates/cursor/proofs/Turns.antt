-- What a cursor awaits, from its start and from turn to turn of a search.
use Rattle.std.proofs.Common.{◌≡◌, ℕ, List, [], ◌∷◌, Some, None, Option, sym, refl, ap, ◌∙◌, subst, append-nil, arith}
use Rattle.std.specs.Option.{option_map}
use Rattle.page_store.specs.Pages.{Pages}
use Rattle.key_class.specs.Class.{Class}
use Rattle.node.specs.Nodes.{Entry}
use Rattle.node.specs.InMemory.{words_in}
use Rattle.node.specs.declared.memory.Node.{Node}
use Rattle.gist.specs.Tree.{Gist, empty, root, written}
use Rattle.gist.specs.Search.{found}
use Rattle.gist.specs.Rules.{PageRules}
use Rattle.gist.specs.Theorems.{StandsOn}
use Rattle.tree_pages.specs.OneNode.{loaded}
use Rattle.tree_pages.specs.Laid.{start_of}
use Rattle.tree_pages.specs.declared.root.Root.{Root}
use Rattle.tree_pages.proofs.Lying.{lies_root, lies_none}
use Rattle.cursor.specs.Ways.{ahead, first_of, Started}
use Rattle.cursor.specs.Awaits.{Gives, Pending, Holds, Awaits, Starts, Nexts, Falls, left_to_do}
use Rattle.cursor.specs.Looks.{Loads}
use Rattle.cursor.specs.declared.place.Place.{Place}
use Rattle.cursor.specs.declared.way.Way.{Way}
use Rattle.cursor.specs.declared.found.Found.{Found}
use Rattle.cursor.specs.declared.cursor.Cursor.{Cursor}
use Rattle.cursor.proofs.Looks.{awaits}

module _ {K Q : Type 0} (C : Class K Q) where
  pub starts : (r : Option Root) (v : Way) → Started r v → Starts C r (record { way = v; node = None })
  starts r v st = record { says = says }
    where
      says : (s : Pages) (q : Q) (w : Gist K) → PageRules C.growing w → StandsOn s (written C.growing w)
          → start_of w ≡ r → Awaits C s q (record { way = v; node = None }) (found C q w)
      says s q empty rules on is = awaits C s q v.height [] v None [] refl (subst (λ o. Started o v) (sym is) st) refl tt
      says s q (root h t) rules on is =
          let all = found C q (root h t) in
          let gives : Gives C s q h (first_of t.page) all = record { tree = t; lies = lies_root C.growing s h t rules on; on = refl; gives = refl } in
          let at = (subst (λ o. Started o v) (sym is) st).0 (omega arith) (omega (arith, rules.0)) in
          awaits C s q h (first_of t.page ∷ []) v None all (omega (arith, at.1)) at.0 (all, [], gives, refl, sym (append-nil all)) tt

  -- Over the pages s, and asked q, what x awaits y awaits.
  pub record Carried (s : Pages) (q : Q) (x y : Cursor) : Type 0 where
    pub says : (todo : List (Entry K ℕ)) → Awaits C s q x todo → Awaits C s q y todo

  -- And y has the node of the page in hand.
  pub record Ready (s : Pages) (q : Q) (x y : Cursor) : Type 0 where
    pub carried : Carried s q x y
    pub node : (todo : List (Entry K ℕ)) → Awaits C s q x todo → y.node ≡ None → ⊥

  module _ (s : Pages) (q : Q) (p : Place) (ps : List Place) where
    holds_still : (o m : Option Node) → Loads s p.page o m → Holds s (p ∷ ps) o → Holds s (p ∷ ps) m
    holds_still None None l h = tt
    holds_still None (Some n) l h = l
    holds_still (Some n) m l h = subst (Holds s (p ∷ ps)) (sym l) h

    holds_some : (h : ℕ) (todo : List (Entry K ℕ)) → Pending C s q h (p ∷ ps) todo → (o m : Option Node) → Loads s p.page o m → m ≡ None → ⊥
    holds_some h todo pend None m l e =
        let g = pend.2 in
        lies_none C.growing s h g.tree g.lies (ap (option_map words_in) (sym e) ∙ l ∙ ap (loaded s) (sym g.on))
    holds_some h todo pend (Some n) m l e = cc

    pub ready : (x y z : Cursor) → ahead y.way ≡ p ∷ ps → z.way ≡ y.way → Loads s p.page y.node z.node → Carried s q x y → Ready s q x z
    ready x y z is same load carried = record {
      carried = record {
        says = λ todo a.
            let b = carried.says todo a in
            awaits C s q y.way.height (p ∷ ps) z.way z.node todo (ap (λ v. v.height) same) (ap ahead same ∙ is)
            (subst (λ l. Pending C s q y.way.height l todo) is b.pending)
            (holds_still y.node z.node load (subst (λ l. Holds s l y.node) is b.holds));
      };
      node = λ todo a. holds_some y.way.height todo (subst (λ l. Pending C s q y.way.height l todo) is (carried.says todo a).pending) y.node z.node load;
    }

  -- Each page that is awaited can be read.
  pub not_unread : {s : Pages} {q : Q} {x y z : Cursor} → Ready s q x y → y.node ≡ None → Nexts C s q x z None
  not_unread r none = record { says = λ todo a. absurd (r.node todo a none) }

  pub unread : {s t : Pages} {q : Q} {x y z : Cursor} {p : Place} {ps : List Place} {o : Option Node} → Carried s q x y → ahead y.way ≡ p ∷ ps
      → t ≡ s → Loads t p.page y.node o → o ≡ None → Nexts C s q x z None
  unread {s = s} {q = q} {x = x} {y = y} {p = p} {ps = ps} {o = o} carried is same load none =
      not_unread {y = record { way = y.way; node = o }} (ready s q p ps x y (record { way = y.way; node = o }) is refl (subst (λ v. Loads v p.page y.node o) same load) carried) none

-- After none, none: a call that has nothing left to do gives none.
pub none_again : {K : Type 0} (x y : Cursor) (r : Option (Found K)) → left_to_do x ≡ 0 → Falls x y r → r ≡ None
none_again x y None z f = refl
none_again x y (Some v) z f = absurd (omega arith)

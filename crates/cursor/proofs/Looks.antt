-- What each look at an entry leads to.
use Rattle.std.proofs.Common.{◌≡◌, ℕ, suc, ◌-◌, ◌<◌, ◌≤◌, true, false, cond, List, [], ◌∷◌, ◌++◌, Some, None, Option, sym, refl, ap, ◌∙◌, subst, arith}
use Rattle.page_store.specs.Pages.{Pages}
use Rattle.key_class.specs.Class.{Growing, Class}
use Rattle.node.specs.Nodes.{Entry}
use Rattle.node.specs.Reading.{count_in}
use Rattle.node.specs.InMemory.{words_in}
use Rattle.node.specs.declared.memory.Node.{Node}
use Rattle.tree_pages.specs.OneNode.{loaded}
use Rattle.cursor.specs.Ways.{ahead, first_of, after, Put, Pushed, Popped}
use Rattle.cursor.specs.Awaits.{Pending, Holds, Awaits}
use Rattle.cursor.specs.Looks.{Looked}
use Rattle.cursor.specs.declared.place.Place.{Place}
use Rattle.cursor.specs.declared.way.Way.{Way}
use Rattle.cursor.specs.declared.looking.Outcome.TheVariants.{Match, SamePage, OtherPage}
use Rattle.cursor.proofs.Steps.{fewer_on_page, fewer_above, fewer_below}
use Rattle.cursor.proofs.Finding.{EntryRead, leaves, no_entry, on_leaf, on_branch}

-- Of a cursor with the way v, by the places that are ahead on it.
pub awaits : {K Q : Type 0} (C : Class K Q) (s : Pages) (q : Q) (h : ℕ) (ps : List Place) (v : Way) (o : Option Node) (todo : List (Entry K ℕ))
    → v.height ≡ h → ahead v ≡ ps → Pending C s q h ps todo → Holds s ps o → Awaits C s q (record { way = v; node = o }) todo
awaits C s q h ps v o todo high is pend holds = record {
  pending = subst (λ g. Pending C s q g (ahead v) todo) (sym high) (subst (λ l. Pending C s q h l todo) (sym is) pend);
  holds = subst (λ l. Holds s l o) (sym is) holds;
}

-- At place p of the node n, on the way w.
module _ {K Q : Type 0} {C : Class K Q} {q : Q} {n : Node} {w : Way} {p : Place} {ps : List Place} (is : ahead w ≡ p ∷ ps) where
  module _ {s : Pages} {todo : List (Entry K ℕ)} (a : Awaits C s q (record { way = w; node = Some n }) todo) where
    pending : Pending C s q w.height (p ∷ ps) todo
    pending = subst (λ l. Pending C s q w.height l todo) is a.pending

    held : Some (words_in n) ≡ loaded s p.page
    held = subst (λ l. Holds s l (Some n)) is a.holds

    after_it : {u : Way} {rest : List (Entry K ℕ)} → Put w u (after p) → Pending C s q w.height (after p ∷ ps) rest → Awaits C s q (record { way = u; node = Some n }) rest
    after_it {u = u} {rest = rest} put pend = awaits C s q w.height (after p ∷ ps) u (Some n) rest put.height (put.places p ps is) pend held

  pub look_past : {v : Way} → count_in (words_in n) ≤ p.next → Popped w v → Looked C q n w v OtherPage
  look_past {v = v} l pop =
      let up = pop.above p ps is in
      record {
        less = fewer_above is pop;
        says = λ s todo a. awaits C s q (suc w.height) ps v None todo (omega (arith, up.0)) up.1 (leaves n (held a) ps l (pending a)) tt;
      }

  module _ {u : Way} (within : p.next < count_in (words_in n)) (put : Put w u (after p)) {G : Growing K} (tied : C.growing ≡ G) where
    pub look_no_entry : EntryRead G n p.next None → Looked C q n w u SamePage
    look_no_entry read = record {
      less = fewer_on_page is (omega (arith, n.few)) put;
      says = λ s todo a. absurd (no_entry n (held a) within tied ps read (pending a));
    }

    module _ {e : Entry K ℕ} (read : EntryRead G n p.next (Some e)) where
      pub look_match : u.height ≡ 0 → C.matches e.key q ≡ true → Looked C q n w u (Match (record { number = e.link; key = e.key }))
      look_match low b = record {
        less = fewer_on_page is (omega (arith, n.few)) put;
        says = λ s todo a.
            let r = on_leaf n (held a) within tied read ps (sym put.height ∙ low) (pending a) in
            (r.0, r.1 ∙ ap (λ v. cond v (e ∷ []) [] ++ r.0) b, after_it a put r.2);
      }

      pub look_no_match : u.height ≡ 0 → C.matches e.key q ≡ false → Looked C q n w u SamePage
      look_no_match low b = record {
        less = fewer_on_page is (omega (arith, n.few)) put;
        says = λ s todo a.
            let r = on_leaf n (held a) within tied read ps (sym put.height ∙ low) (pending a) in
            subst (Awaits C s q (record { way = u; node = Some n })) (sym (r.1 ∙ ap (λ v. cond v (e ∷ []) [] ++ r.0) b)) (after_it a put r.2);
      }

      pub look_closed : 1 ≤ u.height → C.may_hold e.key q ≡ false → Looked C q n w u SamePage
      look_closed high b = record {
        less = fewer_on_page is (omega (arith, n.few)) put;
        says = λ s todo a.
            let r = on_branch n (held a) within tied read (w.height - 1) ps (omega (arith, put.height)) (pending a) in
            subst (Awaits C s q (record { way = u; node = Some n })) (sym (r.3 ∙ ap (λ v. cond v r.0 [] ++ r.1) b)) (after_it a put r.4);
      }

      pub look_below : {v : Way} → Pushed u v e.link → C.may_hold e.key q ≡ true → Looked C q n w v OtherPage
      look_below {v = v} push b =
          let up : w.height ≡ suc v.height = omega (arith, put.height, push.height) in
          let at : ahead v ≡ first_of e.link ∷ after p ∷ ps = push.places ∙ ap (λ l. first_of e.link ∷ l) (put.places p ps is) in
          record {
            less = fewer_below is (omega (arith, n.few)) put push;
            says = λ s todo a.
                let r = on_branch n (held a) within tied read v.height ps (omega (arith, up)) (pending a) in
                let above = subst (λ h. Pending C s q h (after p ∷ ps) r.1) up r.4 in
                awaits C s q v.height (first_of e.link ∷ after p ∷ ps) v None todo refl at
                (r.0, r.1, r.2, above, r.3 ∙ ap (λ h. cond h r.0 [] ++ r.1) b) tt;
          }

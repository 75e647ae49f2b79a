-- What places give, before and after a look at one entry.
use Rattle.std.proofs.Common.{◌≡◌, ℕ, zero, suc, ◌+◌, ◌<◌, ◌≤◌, cond, List, [], ◌∷◌, ◌++◌, length, drop, Some, None, Option, sym, refl, ap, ◌∙◌, subst, append_assoc, arith}
use Rattle.std.specs.Option.{option_map}
use Rattle.std.specs.List.{flat_map, slice_get}
use Rattle.std.proofs.lemmas.List.{drop_all}
use Rattle.std.proofs.lemmas.Option.{slice_get-map}
use Rattle.page_store.specs.Pages.{Pages}
use Rattle.key_class.specs.Class.{Growing, Class}
use Rattle.node.specs.Nodes.{Entry}
use Rattle.node.specs.Reading.{count_in}
use Rattle.node.specs.InMemory.{words_in, Stands}
use Rattle.node.specs.declared.memory.Node.{Node}
use Rattle.node.proofs.Places.{here, count_is}
use Rattle.gist.specs.Tree.{Link, Tree, link_number}
use Rattle.gist.specs.Search.{found_at}
use Rattle.tree_pages.specs.OneNode.{loaded}
use Rattle.tree_pages.specs.Laid.{on_page, Lies}
use Rattle.tree_pages.proofs.Lying.{length_on_page, lies_below, lies_node}
use Rattle.cursor.specs.Ways.{first_of, after}
use Rattle.cursor.specs.Awaits.{Gives, Pending}
use Rattle.cursor.specs.declared.place.Place.{Place}

-- What is read of the node n at place i.
abbrev pub EntryRead : {K : Type 0} → Growing K → Node → ℕ → Option (Entry K ℕ) → Type 0
EntryRead {K} G n i r = (level : ℕ) (es : List (Entry K ℕ)) → Stands G n level es → r ≡ slice_get es i

-- The entry at place i, which stands as e on its page.
pub record Seen {K : Type 0} (h : ℕ) (es : List (Entry K (Link K h))) (i : ℕ) (e : Entry K ℕ) : Type 0 where
  pub it : Entry K (Link K h)
  pub there : slice_get es i ≡ Some it
  pub left : drop i es ≡ it ∷ drop (i + 1) es
  pub stands : record { key = it.key; link = link_number K h it.link } ≡ e

-- The entry at place p stands as e on its page: what p gives is what this entry gives, and what the places after it give.
pub record Passed {K Q : Type 0} (C : Class K Q) (s : Pages) (q : Q) (e : Entry K ℕ) (h : ℕ) (p : Place) (ps : List Place) (todo : List (Entry K ℕ)) : Type 0 where
  pub tree : Tree K h
  pub lies : Lies C.growing s h tree
  pub at : Seen h tree.entries p.next e
  pub rest : List (Entry K ℕ)
  pub is : todo ≡ found_at C q h at.it ++ rest
  pub pending : Pending C s q h (after p ∷ ps) rest

-- The node n is held for place p.
module _ {K Q : Type 0} {C : Class K Q} {s : Pages} {q : Q} (n : Node) {p : Place} (held : Some (words_in n) ≡ loaded s p.page) where
  stands : {h : ℕ} {l : List (Entry K ℕ)} (gv : Gives C s q h p l) → Stands C.growing n (suc h) (on_page h gv.tree.entries)
  stands {h = h} gv = lies_node C.growing s h gv.tree n gv.lies (held ∙ ap (loaded s) (sym gv.on))

  many : {h : ℕ} {l : List (Entry K ℕ)} (gv : Gives C s q h p l) → count_in (words_in n) ≡ length gv.tree.entries
  many {h = h} gv = count_is C.growing (suc h) (on_page h gv.tree.entries) (words_in n) (stands gv) ∙ length_on_page h gv.tree.entries

  -- Past the last entry the page gives nothing more.
  pub leaves : {h : ℕ} (ps : List Place) {todo : List (Entry K ℕ)} → count_in (words_in n) ≤ p.next → Pending C s q h (p ∷ ps) todo → Pending C s q (suc h) ps todo
  leaves {h = h} ps {todo = todo} l pend =
      let gv = pend.2 in
      let m = many gv in
      let none : pend.0 ≡ [] = gv.gives ∙ ap (flat_map (found_at C q h)) (drop_all p.next gv.tree.entries (omega arith)) in
      let same : pend.1 ≡ todo = sym (pend.4 ∙ ap (λ v. v ++ pend.1) none) in
      subst (Pending C s q (suc h) ps) same pend.3

  module _ (within : p.next < count_in (words_in n)) {G : Growing K} (tied : C.growing ≡ G) where
    -- The entry at p can be read.
    pub no_entry : {h : ℕ} (ps : List Place) {todo : List (Entry K ℕ)} → EntryRead G n p.next None → Pending C s q h (p ∷ ps) todo → ⊥
    no_entry {h = h} ps read pend =
        let gv = pend.2 in
        let m = many gv in
        let es = on_page h gv.tree.entries in
        let none = read (suc h) es (subst (λ H. Stands H n (suc h) es) tied (stands gv)) in
        let some = (here es p.next (omega (arith, length_on_page h gv.tree.entries))).there in
        cc

    module _ {e : Entry K ℕ} (read : EntryRead G n p.next (Some e)) where
      seen : (h : ℕ) (l : List (Entry K ℕ)) (gv : Gives C s q h p l) → Seen h gv.tree.entries p.next e
      seen h l gv =
          let es : List (Entry K (Link K h)) = gv.tree.entries in
          let at = here es p.next (omega (arith, many gv)) in
          let on : Entry K (Link K h) → Entry K ℕ = λ v. record { key = v.key; link = link_number K h v.link } in
          let st = subst (λ H. Stands H n (suc h) (on_page h es)) tied (stands gv) in
          let same : Some e ≡ Some (on at.it) = read (suc h) (on_page h es) st ∙ slice_get-map on es p.next ∙ ap (option_map on) at.there in
          record { it = at.it; there = at.there; left = at.left; stands = cc }

      passed : (h : ℕ) (ps : List Place) (todo : List (Entry K ℕ)) → Pending C s q h (p ∷ ps) todo → Passed C s q e h p ps todo
      passed h ps todo pend =
          let gv = pend.2 in
          let at = seen h pend.0 gv in
          let f = found_at C q h at.it in
          let l : List (Entry K ℕ) = flat_map (found_at C q h) (drop (p.next + 1) gv.tree.entries) in
          record {
            tree = gv.tree;
            lies = gv.lies;
            at = at;
            rest = l ++ pend.1;
            is = pend.4 ∙ ap (λ v. v ++ pend.1) (gv.gives ∙ ap (flat_map (found_at C q h)) at.left) ∙ append_assoc f l pend.1;
            pending = (l, pend.1, record { tree = gv.tree; lies = gv.lies; on = gv.on; gives = refl }, pend.3, refl);
          }

      -- On a leaf the entry gives itself, where it matches.
      pub on_leaf : {h : ℕ} (ps : List Place) {todo : List (Entry K ℕ)} → h ≡ 0 → Pending C s q h (p ∷ ps) todo
          → (rest : List (Entry K ℕ)) × (todo ≡ cond (C.matches e.key q) (e ∷ []) [] ++ rest) × Pending C s q h (after p ∷ ps) rest
      on_leaf {h = zero} ps {todo = todo} z pend =
          let x = passed zero ps todo pend in
          (x.rest, x.is ∙ ap (λ v. cond (C.matches v.key q) (v ∷ []) [] ++ x.rest) x.at.stands, x.pending)
      on_leaf {h = suc h} ps z pend = absurd (omega arith)

      -- Above the leaves it gives what its child gives, where that may hold a match.
      pub on_branch : {h : ℕ} (g : ℕ) (ps : List Place) {todo : List (Entry K ℕ)} → g + 1 ≡ h → Pending C s q h (p ∷ ps) todo
          → (l rest : List (Entry K ℕ)) × Gives C s q g (first_of e.link) l × (todo ≡ cond (C.may_hold e.key q) l [] ++ rest) × Pending C s q h (after p ∷ ps) rest
      on_branch {h = zero} g ps z pend = absurd (omega arith)
      on_branch {h = suc h} g ps {todo = todo} z pend =
          let x = passed (suc h) ps todo pend in
          let l : List (Entry K ℕ) = flat_map (found_at C q h) x.at.it.link.entries in
          let child : Gives C s q h (first_of e.link) l =
          record { tree = x.at.it.link; lies = lies_below C.growing s h x.tree p.next x.at.it x.lies x.at.there; on = ap (λ u. u.link) x.at.stands; gives = refl } in
          let same : h ≡ g = omega arith in
          (l, x.rest, subst (λ j. Gives C s q j (first_of e.link) l) same child, x.is ∙ ap (λ u. cond (C.may_hold u.key q) l [] ++ x.rest) x.at.stands, x.pending)

-- What is known of a node that lies on pages: its own page, and the nodes below it.
use Rattle.std.proofs.Common.{◌≡◌, ℕ, zero, suc, List, length, Some, None, refl, ap, ◌∙◌, arith}
use lib.ListN.{length-map}
use Rattle.std.specs.List.{slice_get}
use Rattle.std.proofs.lemmas.Bool.{cond-true, le-leb}
use Rattle.page_store.specs.Pages.{Pages, at}
use Rattle.key_class.specs.Class.{Growing}
use Rattle.node.specs.Nodes.{Entry}
use Rattle.node.specs.Reading.{count_in}
use Rattle.node.specs.InMemory.{words_in, Stands}
use Rattle.node.specs.declared.memory.Node.{Node}
use Rattle.node.proofs.Places.{count_is}
use Rattle.gist.specs.Tree.{Link, Tree, root, link_number, words_of, written_at, written}
use Rattle.gist.specs.Rules.{Ruled, PageRules}
use Rattle.gist.specs.Theorems.{StandsOn}
use Rattle.gist.proofs.Lists.{all_nth, joined_all}
use Rattle.tree_pages.specs.OneNode.{adopted, loaded}
use Rattle.tree_pages.specs.Laid.{on_page, Lies}

pub length_on_page : {K : Type 0} (h : ℕ) (es : List (Entry K (Link K h))) → length (on_page h es) ≡ length es
length_on_page {K} h es = length-map es (λ (e : Entry K (Link K h)). record { key = e.key; link = link_number K h e.link })

module _ {K : Type 0} (G : Growing K) (s : Pages) where
  -- The root.
  pub lies_root : (h : ℕ) (t : Tree K h) → PageRules G (root h t) → StandsOn s (written G (root h t)) → Lies G s h t
  lies_root zero t rules on = record { size = rules.1; below = rules.2; words = on }
  lies_root (suc h) t rules on = record { size = omega (arith, rules.1); below = rules.2; words = on }

  -- The node at a place below.
  pub lies_below : (h : ℕ) (t : Tree K (suc h)) (i : ℕ) (e : Entry K (Tree K h)) → Lies G s (suc h) t → slice_get t.entries i ≡ Some e → Lies G s h e.link
  lies_below h t i e l at =
      let rule : Ruled G (suc h) e = all_nth (Ruled G (suc h)) t.entries i e l.below at in
      record {
        size = omega (arith, rule.1);
        below = rule.2;
        words = all_nth (λ x. StandsOn s (written_at G (suc h) x)) t.entries i e (joined_all _ (written_at G (suc h)) t.entries l.words.1) at;
      }

  -- Its page can be read.
  pub lies_loaded : (h : ℕ) (t : Tree K h) → Lies G s h t → loaded s t.page ≡ Some (words_of G h t)
  lies_loaded h t l =
      let n = count_is G (suc h) (on_page h t.entries) (words_of G h t) refl in
      let m = length_on_page h t.entries in
      ap adopted l.words.0 ∙ cond-true _ _ _ (le-leb (count_in (words_of G h t)) 12 (omega (arith, l.size)))

  -- What is read from there.
  pub lies_none : (h : ℕ) (t : Tree K h) → Lies G s h t → None ≡ loaded s t.page → ⊥
  lies_none h t l e = let f = lies_loaded h t l in let z : ◌≡◌ {A = ℕ} 0 1 = cc in omega arith

  pub lies_node : (h : ℕ) (t : Tree K h) (n : Node) → Lies G s h t → Some (words_in n) ≡ loaded s t.page → Stands G n (suc h) (on_page h t.entries)
  lies_node h t n l e = let f = lies_loaded h t l in cc

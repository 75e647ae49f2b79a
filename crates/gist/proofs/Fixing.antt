-- The words on pages fix the tree.
use Rattle.std.proofs.Common.{◌≡◌, ℕ, zero, suc, List, [], ◌∷◌, map, length, sym, refl, ap, ◌∙◌, arith}
use Rattle.std.specs.List.{flat_map}
use Rattle.std.proofs.lemmas.Option.{same_Some}
use Rattle.page_store.specs.Pages.{Pages, at}
use Rattle.key_class.specs.Class.{Growing, Coded}
use Rattle.node.specs.Nodes.{Entry, node_words}
use Rattle.node.specs.Reading.{rows, entries_in}
use Rattle.node.proofs.Rows.{rows_of}
use Rattle.node.proofs.Questions.{entries_back}
use Rattle.gist.specs.Tree.{Link, Tree, link_number, words_of, written_at, written_of}
use Rattle.gist.specs.Theorems.{StandsOn, WordsFix}
use Rattle.gist.proofs.Lists.{all_left, all_right}

module _ {K : Type 0} {G : Growing K} (C : Coded G) (s : Pages) where
  -- An entry as it lies on a page.
  abbrev lying : (h : ℕ) → Entry K (Link K h) → Entry K ℕ
  lying h e = record { key = e.key; link = link_number K h e.link }

  words_same : (level : ℕ) (es fs : List (Entry K ℕ)) → node_words G level es ≡ node_words G level fs → es ≡ fs
  words_same level es fs w = sym (back es) ∙ ap (λ v. entries_in G (rows v)) w ∙ back fs
    where
      back : (gs : List (Entry K ℕ)) → entries_in G (rows (node_words G level gs)) ≡ gs
      back gs = ap (entries_in G) (rows_of C level gs) ∙ entries_back C gs

  -- Entries that lie alike, with what they lead to on the same pages, are the same.
  abbrev Alike : (h : ℕ) → Type 0
  Alike h = (e f : Entry K (Link K h)) → lying h e ≡ lying h f → StandsOn s (written_at G h e) → StandsOn s (written_at G h f) → e ≡ f

  same_entries : (h : ℕ) → Alike h → (es fs : List (Entry K (Link K h))) → map (lying h) es ≡ map (lying h) fs →
      StandsOn s (flat_map (written_at G h) es) → StandsOn s (flat_map (written_at G h) fs) → es ≡ fs
  same_entries h one [] [] w a b = refl
  same_entries h one [] (f ∷ fs) w a b = let n = ap length w in absurd (omega arith)
  same_entries h one (e ∷ es) [] w a b = let n = ap length w in absurd (omega arith)
  same_entries h one (e ∷ es) (f ∷ fs) w a b =
      let first : lying h e ≡ lying h f = cc in
      let rest : map (lying h) es ≡ map (lying h) fs = cc in
      let x : e ≡ f = one e f first (all_left _ (written_at G h e) _ a) (all_left _ (written_at G h f) _ b) in
      let y : es ≡ fs = same_entries h one es fs rest (all_right _ (written_at G h e) _ a) (all_right _ (written_at G h f) _ b) in
      cc

  same_node : (h : ℕ) → Alike h → (t u : Tree K h) → StandsOn s (written_of G h t) → StandsOn s (written_of G h u) → t.page ≡ u.page → t ≡ u
  same_node h one t u a b p =
      let w : words_of G h t ≡ words_of G h u = same_Some _ _ (sym a.0 ∙ ap (at s) p ∙ b.0) in
      let es : t.entries ≡ u.entries = same_entries h one t.entries u.entries (words_same (suc h) _ _ w) a.1 b.1 in
      λ i. record { page = p i; entries = es i }

  alike : (h : ℕ) → Alike h
  alike zero e f w a b = w
  alike (suc h) e f w a b =
      let k : e.key ≡ f.key = ap (λ (x : Entry K ℕ). x.key) w in
      let l : e.link ≡ f.link = same_node h (alike h) e.link f.link a b (ap (λ (x : Entry K ℕ). x.link) w) in
      λ i. record { key = k i; link = l i }

  pub same_tree : (h : ℕ) (t u : Tree K h) → StandsOn s (written_of G h t) → StandsOn s (written_of G h u) → t.page ≡ u.page → t ≡ u
  same_tree h = same_node h (alike h)

pub words_fix : {K : Type 0} {G : Growing K} → Coded G → WordsFix G
words_fix C s = same_tree C s

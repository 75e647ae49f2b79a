-- Nodes written to their pages: one, two put together on one page, and two shared out anew.
use Rattle.std.proofs.Common.{◌≡◌, ℕ, ◌+◌, ◌≤◌, Bool, cond, leb, List, [], ◌∷◌, ◌++◌, length, set, Some, None, Option, sym, ap, ◌∙◌, subst, arith, length-append}
use Rattle.std.specs.Option.{option_map}
use Rattle.std.proofs.lemmas.Bool.{le-leb, both_ways}
use Rattle.std.proofs.lemmas.Option.{none-some}
use Rattle.page_store.specs.Pages.{Pages, Words}
use Rattle.page_store.proofs.Calling.{Held, ChangeOk, Refused, changed_held}
use Rattle.key_class.specs.Class.{Growing, Class, Lawful}
use Rattle.node.specs.Nodes.{Entry, keys, node_words, stay, go}
use Rattle.node.specs.Reading.{level_in}
use Rattle.node.specs.InMemory.{words_in, Stands, Pooled}
use Rattle.node.specs.declared.memory.Node.{Node}
use Rattle.node.specs.declared.memory.Pool.{Pool}
use Rattle.node.proofs.Places.{level_is}
use Rattle.gist.proofs.Nodes.{split_sizes}
use Rattle.tree_pages.specs.OneNode.{Saves}
use Rattle.tree_pages.proofs.Over.{set_held}
use Rattle.removal.specs.Mending.{entry_to, SavesNode, Merges, Shares}
use Rattle.removal.specs.declared.paged.PagedNode.{PagedNode}

-- What holds where there is room for m of n.
fits : {A : Type 0} (P : A → Type 0) (m n : ℕ) {b : Bool} {x : A} (y : A) → m ≤ n → (b ≡ leb m n) × P (cond b x y) → P x
fits P m n {b} {x} y l h = subst (λ (c : Bool). P (cond c x y)) (h.0 ∙ le-leb m n l) h.1

module _ {K : Type 0} (G : Growing K) where
  -- An entry to a node is missing only where the node has none.
  pub no_entry : (p : ℕ) (es : List (Entry K ℕ)) → 1 ≤ length es → None ≡ entry_to G p es → ⊥
  no_entry p [] l e = omega arith
  no_entry p (x ∷ es) l e = none-some _ e

module _ {K : Type 0} {G : Growing K} where
  -- One node is written.
  pub saved : {s t : Pages} {x : PagedNode} {k : Option K} {r : Option (Entry K ℕ)} → r ≡ option_map (λ k. record { key = k; link = x.page }) k → Saves G s t x.page x.node k → SavesNode G s t x r
  saved {s} {t} {x} {k} {r} is v = record {
    says = λ level xs st held. (
      is ∙ ap (option_map (λ (a : K). record { key = a; link = x.page })) (v.union level xs held st),
      v.pages ∙ changed_held s x.page _ held ∙ ap (λ (w : Words). set s x.page (Some w)) st,
    );
  }

  -- What is held stays held.
  still_held : {s t : Pages} {x : PagedNode} {r : Option (Entry K ℕ)} → SavesNode G s t x r → (level : ℕ) (xs : List (Entry K ℕ)) → Stands G x.node level xs → Held s x.page → (p : ℕ) → Held s p → Held t p
  still_held {s} {t} {x} v level xs st held p h = subst (λ (z : Pages). Held z p) (sym (v.says level xs st held).1) (set_held s x.page _ p h)

-- Two are put together on the page of one of them, and the page of the other is given back.
module _ {K : Type 0} {G : Growing K} {s m : Pages} {y x : PagedNode} {z : Node} {b : Bool}
    (append : (level other : ℕ) (ys xs : List (Entry K ℕ)) → Stands G y.node level ys → Stands G x.node other xs → (b ≡ leb (length ys + length xs) 12) × Stands G z level (cond b (ys ++ xs) ys)) where
  pub not_saved : {r : Option (Entry K ℕ)} → SavesNode G s m (record { page = y.page; node = z }) None → Merges G s m y x r
  not_saved v = record {
    says = λ level ys xs sy sx some few hy hx.
        absurd (no_entry G y.page (ys ++ xs) (omega (arith, length-append ys xs)) (v.says level _ (fits (Stands G z level) (length ys + length xs) 12 ys few (append level level ys xs sy sx)) hy).0);
  }

  module _ {t : Pages} {a : Entry K ℕ} (v : SavesNode G s m (record { page = y.page; node = z }) (Some a)) where
    pub not_given : {r : Option (Entry K ℕ)} → Refused m t x.page → Merges G s t y x r
    not_given refused = record {
      says = λ level ys xs sy sx some few hy hx.
          absurd (both_ways _ refused.free (still_held v level _ (fits (Stands G z level) (length ys + length xs) 12 ys few (append level level ys xs sy sx)) hy x.page hx));
    }

    pub merged : ChangeOk m t x.page None → Merges G s t y x (Some a)
    merged given = record {
      says = λ level ys xs sy sx some few hy hx.
          let k = v.says level _ (fits (Stands G z level) (length ys + length xs) 12 ys few (append level level ys xs sy sx)) hy in
          (k.0, given.pages ∙ ap (λ (u : Pages). set u x.page None) k.1);
    }

-- Two are shared out anew: one has those that stay, and the other those that go, and both have some.
pub record Splits {K Q : Type 0} (G : Growing K) (C : Class K Q) (y x : PagedNode) (both : Node × Node) : Type 0 where
  stands : (level : ℕ) (ys xs : List (Entry K ℕ)) → Stands G y.node level ys → Stands G x.node level xs → 13 ≤ length ys + length xs → length ys + length xs ≤ 15
      → Stands G both.0 level (stay (C.split (keys (ys ++ xs))) (ys ++ xs)) × Stands G both.1 level (go (C.split (keys (ys ++ xs))) (ys ++ xs))
  sizes : (ys xs : List (Entry K ℕ)) → 13 ≤ length ys + length xs → length ys + length xs ≤ 15
      → (1 ≤ length (stay (C.split (keys (ys ++ xs))) (ys ++ xs))) × (1 ≤ length (go (C.split (keys (ys ++ xs))) (ys ++ xs)))

module _ {K Q : Type 0} {G : Growing K} {C : Class K Q} {y x : PagedNode} where
  pub splits : {none some all : Pool} {b c : Bool} {lv : ℕ} → Lawful C → Pooled G none []
      → ((level : ℕ) (es fs : List (Entry K ℕ)) → Pooled G none es → Stands G y.node level fs → (b ≡ leb (length es + length fs) 15) × Pooled G some (cond b (es ++ fs) es))
      → ((level : ℕ) (es fs : List (Entry K ℕ)) → Pooled G some es → Stands G x.node level fs → (c ≡ leb (length es + length fs) 15) × Pooled G all (cond c (es ++ fs) es))
      → lv ≡ level_in (words_in x.node) → (both : Node × Node)
      → ((es : List (Entry K ℕ)) → Pooled G all es → 13 ≤ length es → length es ≤ 15 → Stands G both.0 lv (stay (C.split (keys es)) es) × Stands G both.1 lv (go (C.split (keys es)) es))
      → Splits G C y x both
  splits {none} {some} {all} {b} {c} {lv} law new push push_more lev both split = record {
    stands = λ level ys xs sy sx many few.
        let p = fits (Pooled G some) (0 + length ys) 15 [] (omega arith) (push level [] ys new sy) in
        let q = fits (Pooled G all) (length ys + length xs) 15 ys few (push_more level ys xs p sx) in
        let e : lv ≡ level = lev ∙ level_is G level xs (words_in x.node) sx in
        subst (λ (l : ℕ). Stands G both.0 l (stay (C.split (keys (ys ++ xs))) (ys ++ xs)) × Stands G both.1 l (go (C.split (keys (ys ++ xs))) (ys ++ xs))) e
        (split (ys ++ xs) q (omega (arith, length-append ys xs)) (omega (arith, length-append ys xs)));
    sizes = λ ys xs many few.
        let m = split_sizes C law (ys ++ xs) (omega (arith, length-append ys xs)) (omega (arith, length-append ys xs)) in
        (omega (arith, m.0), omega (arith, m.1));
  }

  module _ {both : Node × Node} (parts : Splits G C y x both) {s m : Pages} where
    pub not_stayed : {r : Option (Entry K ℕ × Entry K ℕ)} → SavesNode G s m (record { page = y.page; node = both.0 }) None → Shares G C s m y x r
    not_stayed v = record {
      says = λ level ys xs sy sx many few hy hx.
          absurd (no_entry G y.page _ (parts.sizes ys xs many few).0 (v.says level _ (parts.stands level ys xs sy sx many few).0 hy).0);
    }

    module _ {t : Pages} {a : Entry K ℕ} (v : SavesNode G s m (record { page = y.page; node = both.0 }) (Some a)) where
      pub not_gone : {r : Option (Entry K ℕ × Entry K ℕ)} → SavesNode G m t (record { page = x.page; node = both.1 }) None → Shares G C s t y x r
      not_gone w = record {
        says = λ level ys xs sy sx many few hy hx.
            let st = parts.stands level ys xs sy sx many few in
            absurd (no_entry G x.page _ (parts.sizes ys xs many few).1 (w.says level _ st.1 (still_held v level _ st.0 hy x.page hx)).0);
      }

      pub shared : {b : Entry K ℕ} → SavesNode G m t (record { page = x.page; node = both.1 }) (Some b) → Shares G C s t y x (Some (a, b))
      shared {b} w = record {
        says = λ level ys xs sy sx many few hy hx.
            let st = parts.stands level ys xs sy sx many few in
            let k = v.says level _ st.0 hy in
            let l = w.says level _ st.1 (still_held v level _ st.0 hy x.page hx) in
            (k.0, l.0, l.1 ∙ ap (λ (u : Pages). set u x.page (Some (node_words G level (go (C.split (keys (ys ++ xs))) (ys ++ xs))))) k.1);
      }

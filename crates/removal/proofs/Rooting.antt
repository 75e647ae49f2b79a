-- A removal from a whole tree: the root is written, or given back.
use Rattle.std.proofs.Common.{◌≡◌, ℕ, zero, suc, ◌+◌, ◌-◌, ◌<◌, ◌≤◌, ◌≢◌, List, [], ◌∷◌, length, set, is_some, Some, None, Ok, Err, Option, Result, sym, refl, ap, ◌∙◌, subst, arith}
use mathlib.Core.List.{Nodup}
use Rattle.std.specs.Option.{option_map}
use Rattle.std.specs.List.{flat_map, slice_get}
use Rattle.std.proofs.lemmas.Option.{same_Some, none-some}
use Rattle.page_store.specs.Pages.{Pages, Words, at}
use Rattle.page_store.proofs.Calling.{ChangeOk}
use Rattle.key_class.specs.Class.{Growing, Class}
use Rattle.node.specs.Nodes.{Entry}
use Rattle.node.specs.declared.memory.Node.{Node}
use Rattle.gist.specs.Tree.{Link, Tree, Gist, empty, root, pages_at, pages, words_of, written}
use Rattle.gist.specs.Remove.{lowered}
use Rattle.gist.specs.Rules.{root_least, PageRules}
use Rattle.gist.specs.Theorems.{StandsOn}
use Rattle.gist.specs.Writes.{edits_under, root_edits, edits_of}
use Rattle.tree_pages.specs.Laid.{on_page, start_of, edited}
use Rattle.tree_pages.specs.declared.root.Root.{Root}
use Rattle.tree_pages.proofs.Lying.{lies_root}
use Rattle.tree_pages.proofs.Entries.{link_on_page}
use Rattle.tree_pages.proofs.Once.{first_apart}
use Rattle.tree_pages.proofs.Sets.{sets-++}
use Rattle.removal.specs.Under.{Sound, Removed, RemovesUnder}
use Rattle.removal.specs.Whole.{Settled, Settles, From, RemovesFrom}
use Rattle.removal.specs.declared.refusal.RemoveRefusal.{RemoveRefusal}
use Rattle.removal.specs.declared.refusal.RemoveRefusal.TheVariants.{NoSuchRecord}
use Rattle.removal.proofs.Framing.{edited_other, same_page, one_fewer, edits_below}

-- Where a tree with a root starts.
module _ {K : Type 0} {start : Root} (h : ℕ) (u : Tree K h) (is : Some start ≡ start_of (root h u)) where
  starts : start ≡ record { page = u.page; levels = suc h }
  starts = same_Some _ _ is

  pub page_is : start.page ≡ u.page
  page_is = ap (λ (r : Root). r.page) starts

  pub levels_are : start.levels ≡ suc h
  levels_are = ap (λ (r : Root). r.levels) starts

module _ {K : Type 0} (G : Growing K) where
  kept : (h : ℕ) (u : Tree K h) (es : List (Entry K (Link K h))) → root_least h ≤ length es → (lowered h u es ≡ root h u) × (root_edits G h u es ≡ (u.page, Some (words_of G h u)) ∷ [])
  kept zero u [] l = absurd (omega arith)
  kept zero u (e ∷ es) l = (refl, refl)
  kept (suc h) u [] l = absurd (omega arith)
  kept (suc h) u (e ∷ []) l = absurd (omega arith)
  kept (suc h) u (e ∷ f ∷ es) l = (refl, refl)

  -- A root with enough entries is written,
  pub stays : {s t : Pages} {start : Root} {w : Words} (h : ℕ) (u : Tree K h) → Some start ≡ start_of (root h u) → w ≡ words_of G h u → root_least h ≤ length u.entries → ChangeOk s t start.page (Some w)
      → Settled G s t h u (Ok (Some start))
  stays {s} {t} {start} {w} h u is st enough change =
      let k = kept h u u.entries enough in (
        change.pages ∙ ap (λ (x : Words). set s start.page (Some x)) st ∙ ap (λ (p : ℕ). set s p (Some (words_of G h u))) (page_is h u is) ∙ ap (edited s) (sym k.1),
        is ∙ ap start_of (sym k.0),
      )

  -- a leaf with none is given back,
  pub goes : {s t : Pages} {start : Root} (h : ℕ) (u : Tree K h) → Some start ≡ start_of (root h u) → start.levels ≤ 1 → length u.entries < root_least h → ChangeOk s t start.page None
      → Settled G s t h u (Ok None)
  goes {s} {t} {start} (suc h) u is low few change = absurd (omega (arith, levels_are (suc h) u is))
  goes {s} {t} {start} zero u is low few change = leaf u.entries few
    where
      leaf : (es : List (Entry K ℕ)) → length es < 1 → (t ≡ edited s (root_edits G zero u es)) × (None ≡ start_of (lowered zero u es))
      leaf [] l = (change.pages ∙ ap (λ (p : ℕ). set s p None) (page_is zero u is), refl)
      leaf (e ∷ es) l = absurd (omega arith)

  -- and so is a root above with one, which leads to its child.
  pub gives_way : {s t : Pages} {start : Root} {page : ℕ} (h : ℕ) (u : Tree K h) → Some start ≡ start_of (root h u) → 1 < start.levels
      → root_least h ≤ length u.entries + 1 → length u.entries < root_least h → Some page ≡ option_map (λ e. e.link) (slice_get (on_page h u.entries) 0) → ChangeOk s t start.page None
      → Settled G s t h u (Ok (Some (record { page = page; levels = start.levels - 1 })))
  gives_way {s} {t} {start} {page} zero u is high some few link change = absurd (omega (arith, levels_are zero u is))
  gives_way {s} {t} {start} {page} (suc h) u is high some few link change = child u.entries (omega arith) (link ∙ link_on_page (suc h) u.entries 0)
    where
      child : (es : List (Entry K (Tree K h))) → length es ≡ 1 → Some page ≡ option_map (λ e. e.link.page) (slice_get es 0)
          → (t ≡ edited s (root_edits G (suc h) u es)) × (Some (record { page = page; levels = start.levels - 1 }) ≡ start_of (lowered (suc h) u es))
      child [] l e = absurd (omega arith)
      child (x ∷ []) l e =
          let m : start.levels - 1 ≡ suc h = omega (arith, levels_are (suc h) u is) in
          (change.pages ∙ ap (λ (p : ℕ). set s p None) (page_is (suc h) u is), cc)
      child (x ∷ y ∷ es) l e = absurd (omega arith)

-- Above the leaves, one that lacks at most one entry has another.
pub no_child : {K : Type 0} {start : Root} (h : ℕ) (u : Tree K h) → Some start ≡ start_of (root h u) → 1 < start.levels → root_least h ≤ length u.entries + 1
    → None ≡ option_map (λ e. e.link) (slice_get (on_page h u.entries) 0) → ⊥
no_child zero u is high some e = omega (arith, levels_are zero u is)
no_child {K} (suc h) u is high some e = none u.entries (omega arith) (e ∙ link_on_page (suc h) u.entries 0)
  where
    none : (es : List (Entry K (Tree K h))) → 1 ≤ length es → None ≡ option_map (λ x. x.link.page) (slice_get es 0) → ⊥
    none [] l e = omega arith
    none (x ∷ es) l e = none-some _ e

module _ {K Q : Type 0} {C : Class K Q} {s : Pages} {k : K} {n : ℕ} where
  -- The empty tree has no record.
  pub none_there : RemovesFrom C s s None k n (Err NoSuchRecord)
  none_there = record { says = by }
    where
      by : (w : Gist K) → PageRules C.growing w → StandsOn s (written C.growing w) → Nodup (pages w) → None ≡ start_of w → From C s s w k n (Err NoSuchRecord)
      by empty rules on once is = (refl, refl, refl)
      by (root h u) rules on once is = absurd (none-some _ is)

  module _ {start : Root} {t : Pages} where
    -- What is shown of every root.
    by_root : (r : Result (Option Root) RemoveRefusal) → ((h : ℕ) (u : Tree K h) → Sound C.growing s h u → Some start ≡ start_of (root h u) → From C s t (root h u) k n r) → RemovesFrom C s t (Some start) k n r
    by_root r f = record { says = by }
      where
        by : (w : Gist K) → PageRules C.growing w → StandsOn s (written C.growing w) → Nodup (pages w) → Some start ≡ start_of w → From C s t w k n r
        by empty rules on once is = absurd (none-some _ (sym is))
        by (root h u) rules on once is = f h u (record { lies = lies_root C.growing s h u rules on; least = rules.1.0; once = once }) is

    pub refused : {e : RemoveRefusal} → RemovesUnder C s t start.page start.levels k n (Err e) → RemovesFrom C s t (Some start) k n (Err e)
    refused {e} under = by_root (Err e) (λ h u so is.
        let o = under.says h u so (sym (page_is h u is)) (levels_are h u is) in
        (o.0, ap (option_map (λ (v : Tree K h). lowered h v v.entries)) o.1, o.2))

    pub settled : {X : Growing K} {m : Pages} {x : Node} {r : Result (Option Root) RemoveRefusal} → C.growing ≡ X → RemovesUnder C s m start.page start.levels k n (Ok x) → Settles X m t start x r
        → RemovesFrom C s t (Some start) k n r
    settled {X} {m} {x} {r} tied under settles = by_root r (λ h u so is.
        let a : Removed C s m k n h u x = under.says h u so (sym (page_is h u is)) (levels_are h u is) in
        let here : Settles C.growing m t start x r = subst (λ (Y : Growing K). Settles Y m t start x r) (sym tied) settles in
        let kept : at m u.page ≡ at s u.page =
        ap (λ (z : Pages). at z u.page) a.pages
        ∙ edited_other s (edits_under C k n h u) u.page (edits_below C k n (λ q. u.page ≢ q) h u (first_apart u.page (flat_map (pages_at h) u.entries) so.once)) in
        done h u a r (here.says h a.node
        (is ∙ ap (λ (p : ℕ). Some (record { page = p; levels = suc h })) (sym (same_page C k n h u a.node a.is))) a.stands
        (omega (arith, one_fewer C k n h u a.node a.is, so.least))
        (ap (λ (p : ℕ). is_some (at m p)) (page_is h u is) ∙ ap is_some (kept ∙ so.lies.words.0))))
      where
        done : (h : ℕ) (u : Tree K h) (a : Removed C s m k n h u x) (r : Result (Option Root) RemoveRefusal) → Settled C.growing m t h a.node r → From C s t (root h u) k n r
        done h u a (Err e) f = absurd f
        done h u a (Ok r) f = (
          lowered h a.node a.node.entries,
          ap (option_map (λ (v : Tree K h). lowered h v v.entries)) a.is,
          f.0 ∙ ap (λ (z : Pages). edited z (root_edits C.growing h a.node a.node.entries)) a.pages
              ∙ sym (sets-++ s (root_edits C.growing h a.node a.node.entries) (edits_under C k n h u))
              ∙ ap (λ (o : Option (Tree K h)). edited s (edits_of C k n h u o)) (sym a.is),
          f.1,
        )

-- What an insert under a node comes to on pages: at a leaf, and one level up.
use Rattle.std.proofs.Common.{◌≡◌, ℕ, zero, suc, ◌+◌, List, [], ◌∷◌, ◌++◌, map, length, set, is_some, Some, None, Option, sym, refl, ap, ◌∙◌, subst, arith, length-append, option_to_list}
use mathlib.Core.List.{Nodup-nil, Nodup-cons, not-mem-nil}
use Rattle.std.specs.List.{AllByRecursion, slice_get}
use Rattle.std.proofs.lemmas.List.{append_assoc, get_or-set_same}
use Rattle.std.proofs.lemmas.Bool.{both_ways, cond-true, cond-false, le-leb, lt-leb}
use Rattle.page_store.specs.Pages.{Pages, at, free_pages}
use Rattle.page_store.proofs.Calling.{Held}
use Rattle.page_store.proofs.Counting.{written_free, taken_free}
use Rattle.key_class.specs.Class.{Growing, Class}
use Rattle.node.specs.Nodes.{Entry, keys, node_words, stay, go}
use Rattle.gist.specs.Tree.{Link, Tree, Written, entry_for}
use Rattle.gist.specs.Insert.{Grown, fill, regrown, insert_under, least_growth}
use Rattle.gist.specs.Writes.{own_pages, writes_under, below_by}
use Rattle.gist.proofs.Lists.{all_map, all-++}
use Rattle.tree_pages.specs.Laid.{on_page, over, Free, Fresh}
use Rattle.tree_pages.proofs.Entries.{numbered, keys_on_page, same_key, set_on_page, append_on_page, stay_on_page, go_on_page}
use Rattle.tree_pages.proofs.Lying.{length_on_page}
use Rattle.tree_pages.proofs.Once.{once_both}
use Rattle.tree_pages.proofs.Over.{over-++, over_held, over_none, length_over, set_held}
use Rattle.insertion.specs.Filling.{OnePage, TwoPages, Split, FilledBy}
use Rattle.insertion.specs.Under.{entries_told, Inserted}
use Rattle.insertion.specs.declared.change.Change.{Change}

pub fresh_one : (s : Pages) (p : ℕ) → Free s p → Fresh s (p ∷ [])
fresh_one s p f = record { free = (f, tt); once = Nodup-cons.1 (not-mem-nil, Nodup-nil) }

module _ {K Q : Type 0} (C : Class K Q) where
  abbrev G : Growing K
  G = C.growing

  -- What the entries es of page p came to.
  pub record Fit (s t : Pages) (k : K) (h p : ℕ) (es : List (Entry K (Link K h))) (c : Change K) : Type 0 where
    pub taken : List ℕ
    pub node : Tree K h
    pub split_off : List (Tree K h)
    pub is : (more : List ℕ) → fill C h (taken ++ more) p es ≡ record { node = node; split_off = split_off; unused = more }
    pub pages : t ≡ over s (own_pages G h (record { node = node; split_off = split_off; unused = [] }))
    pub fresh : Fresh s taken
    pub held : AllByRecursion (Held t) taken
    pub left : free_pages t + length taken ≡ free_pages s
    pub told : entries_told p c ≡ on_page (suc h) (map (entry_for G h k) (node ∷ split_off))

  module _ (s t : Pages) (k : K) (h p : ℕ) (es : List (Entry K (Link K h))) (held : Held s p) where
    fit_one : (x : K) → OnePage G s t p (suc h) (on_page h es) x → Fit s t k h p es (record { key = x; split_off = None })
    fit_one x o = record {
      taken = [];
      node = record { page = p; entries = es };
      split_off = [];
      is = λ more. cond-true _ _ _ (le-leb (length es) 12 (omega (arith, o.few, length_on_page h es)));
      pages = o.pages;
      fresh = record { free = tt; once = Nodup-nil };
      held = tt;
      left = omega (arith, written_free s t p _ held o.pages);
      told = ap (λ (y : K). record { key = y; link = p } ∷ []) (same_key G h k x es (sym o.key));
    }

    fit_two : (x : K) (new : Entry K ℕ) → Split G C s t p (suc h) (on_page h es) x new → Fit s t k h p es (record { key = x; split_off = Some new })
    fit_two x new o = record {
      taken = new.link ∷ [];
      node = record { page = p; entries = stay (C.split (keys es)) es };
      split_off = record { page = new.link; entries = go (C.split (keys es)) es } ∷ [];
      is = λ more. cond-false _ _ _ (lt-leb (length es) 12 (omega (arith, o.many, length_on_page h es)));
      pages = two.pages;
      fresh = fresh_one s new.link two.free;
      held = (rw two.pages (set_held _ p _ new.link (ap is_some (get_or-set_same s new.link _ None two.free.0))), tt);
      left = omega (arith, taken_free s taken new.link _ two.free.0 two.free.1 refl, written_free taken t p _ (set_held s new.link _ p held) two.pages);
      told = rw (same_key G h k x (stay (C.split (keys es)) es) (sym two.key), same_key G h k new.key (go (C.split (keys es)) es) (sym two.new_key)) refl;
    }
      where
        two : TwoPages G s t p (suc h) (on_page h (stay (C.split (keys es)) es)) (on_page h (go (C.split (keys es)) es)) x new
        two = rw (keys_on_page h es, stay_on_page h, go_on_page h) at o.two

        taken : Pages
        taken = set s new.link (Some (node_words G (suc h) (on_page h (go (C.split (keys es)) es))))

    pub fits : (c : Change K) → FilledBy G C s t p (suc h) (on_page h es) c.key c.split_off → Fit s t k h p es c
    fits c f = by c.split_off f
      where
        by : (o : Option (Entry K ℕ)) → FilledBy G C s t p (suc h) (on_page h es) c.key o → Fit s t k h p es (record { key = c.key; split_off = o })
        by None f = fit_one c.key f
        by (Some d) f = fit_two c.key d f

  -- A leaf with the record at its end.
  pub at_leaf : (s t : Pages) (k : K) (n : ℕ) (u : Tree K zero) (c : Change K) → Held s u.page
      → FilledBy G C s t u.page 1 (on_page zero u.entries ++ record { key = k; link = n } ∷ []) c.key c.split_off → Inserted C s t k n zero u c
  at_leaf s t k n u c held f = record {
    taken = x.taken;
    node = x.node;
    split_off = x.split_off;
    is = x.is;
    pages = λ more. rw (x.is more) x.pages;
    fresh = x.fresh;
    held = x.held;
    left = x.left;
    told = x.told;
  }
    where
      new : Entry K ℕ
      new = record { key = k; link = n }

      x : Fit s t k zero u.page (u.entries ++ new ∷ []) c
      x = fits s t k zero u.page (u.entries ++ new ∷ []) held c (rw (append_on_page zero u.entries (new ∷ [])) at f)

  -- Pages taken one after the other.
  pub fresh_both : (s m : Pages) (ws : Written) (xs ys : List ℕ) → m ≡ over s ws → Fresh s xs → AllByRecursion (Held m) xs → Fresh m ys → Fresh s (xs ++ ys)
  fresh_both s m ws xs ys is f h g = record {
    free = all-++ (Free s) xs ys f.free (all_map (λ p x. (omega (arith, length_over s ws, x.0, ap length is), over_none s ws p (rw is at x.1))) ys g.free);
    once = once_both (Held m) (Free m) (λ p x y. both_ways (is_some (at m p)) (ap is_some y.1) x) xs ys h g.free f.once g.once;
  }

  -- One level up: the child at place i has changed as c tells, and the node's entries with it as d tells.
  module _ (s m t : Pages) (k : K) (n h : ℕ) (u : Tree K (suc h)) (i : ℕ) (e : Entry K (Tree K h)) (c d : Change K)
      (least : i ≡ least_growth G k u.entries) (there : slice_get u.entries i ≡ Some e) where
    place : slice_get u.entries (least_growth G k u.entries) ≡ Some e
    place = rw least at there

    -- The definition, with the child's part known.
    one_up : (fs : List ℕ) (r : Grown K h) → insert_under C k n h fs e.link ≡ r → insert_under C k n (suc h) fs u ≡ fill C (suc h) r.unused u.page (regrown G h k i r u.entries)
    one_up fs r is = rw (place, is, ← least) refl

    pages_up : (fs : List ℕ) (r : Grown K (suc h)) → insert_under C k n (suc h) fs u ≡ r → m ≡ over s (writes_under C k n h fs e.link) → over m (own_pages G (suc h) r) ≡ over s (writes_under C k n (suc h) fs u)
    pages_up fs r is at =
        ap (λ (p : Pages). over p (own_pages G (suc h) r)) at ∙ sym (over-++ s (own_pages G (suc h) r) (writes_under C k n h fs e.link))
        ∙ rw (← is) (ap (λ (o : Option (Entry K (Tree K h))). over s (own_pages G (suc h) (insert_under C k n (suc h) fs u) ++ below_by h (writes_under C k n h fs) o)) (sym place))

    module _ (below : Inserted C s m k n h e.link c) where
      abbrev child : Grown K h
      child = record { node = below.node; split_off = below.split_off; unused = [] }

      -- What the child's change makes of the entries on the page.
      entries_are : set (on_page (suc h) u.entries) i (record { key = c.key; link = e.link.page }) ++ option_to_list c.split_off
          ≡ on_page (suc h) (regrown G h k i child u.entries)
      entries_are =
          let told = below.told in
          let first : record { key = c.key; link = e.link.page } ≡ numbered (suc h) (entry_for G h k below.node) = cc in
          let rest : option_to_list c.split_off ≡ on_page (suc h) (map (entry_for G h k) below.split_off) = cc in
          rw (first, rest, set_on_page (suc h) u.entries i (entry_for G h k below.node))
          (append_on_page (suc h) (set u.entries i (entry_for G h k below.node)) (map (entry_for G h k) below.split_off))

      joins : Fit m t k (suc h) u.page (regrown G h k i child u.entries) d → Inserted C s t k n (suc h) u d
      joins x = record {
        taken = below.taken ++ x.taken;
        node = x.node;
        split_off = x.split_off;
        is = λ more. rw append_assoc (is more);
        pages = λ more. subst (λ (fs : List ℕ). t ≡ over s (writes_under C k n (suc h) fs u)) (sym (append_assoc below.taken x.taken more))
            (x.pages ∙ pages_up (below.taken ++ (x.taken ++ more)) _ (is more) (below.pages (x.taken ++ more)));
        fresh = fresh_both s m (writes_under C k n h (below.taken ++ []) e.link) below.taken x.taken (below.pages []) below.fresh below.held x.fresh;
        held = all-++ (Held t) below.taken x.taken
            (all_map (λ p y. rw x.pages (over_held m (own_pages G (suc h) (record { node = x.node; split_off = x.split_off; unused = [] })) p y)) below.taken below.held) x.held;
        left = omega (arith, x.left, below.left, length-append below.taken x.taken);
        told = x.told;
      }
        where
          is : (more : List ℕ) → insert_under C k n (suc h) (below.taken ++ (x.taken ++ more)) u ≡ record { node = x.node; split_off = x.split_off; unused = more }
          is more = one_up (below.taken ++ (x.taken ++ more)) _ (below.is (x.taken ++ more)) ∙ x.is more

      pub above_leaf : Held m u.page
          → FilledBy G C m t u.page (suc (suc h)) (set (on_page (suc h) u.entries) i (record { key = c.key; link = e.link.page }) ++ option_to_list c.split_off) d.key d.split_off
          → Inserted C s t k n (suc h) u d
      above_leaf held f = joins (fits m t k (suc h) u.page (regrown G h k i child u.entries) held d (rw entries_are at f))

-- What each way out of an insert under a node shows.
use Rattle.std.proofs.Common.{◌≡◌, ℕ, zero, suc, ◌+◌, ◌-◌, ◌^◌, ◌<◌, ◌≤◌, cond, true, false, leb, List, [], ◌∷◌, ◌++◌, length, set, is_some, Some, None, Ok, Err, Option, Result, sym, refl, ap, ◌∙◌, arith, option_to_list}
use Rattle.std.specs.Option.{option_map, ok_or}
use Rattle.std.specs.List.{slice_get}
use Rattle.std.proofs.lemmas.List.{append_assoc}
use Rattle.std.proofs.lemmas.Option.{none-some}
use Rattle.page_store.specs.Pages.{Pages, free_pages}
use Rattle.page_store.proofs.Calling.{Held}
use Rattle.key_class.specs.Class.{Growing, Class, Lawful}
use Rattle.node.specs.Nodes.{Entry}
use Rattle.node.specs.Reading.{count_in}
use Rattle.node.specs.InMemory.{words_in, Stands}
use Rattle.node.specs.declared.memory.Node.{Node}
use Rattle.node.proofs.Places.{count_is}
use Rattle.gist.specs.Tree.{Link, Tree, link_number}
use Rattle.gist.specs.Insert.{Step, step, way_by, way_under, splits, least_growth}
use Rattle.gist.proofs.Lists.{nth_there}
use Rattle.gist.proofs.Nodes.{within}
use Rattle.gist.proofs.Inserting.{splits_within}
use Rattle.tree_pages.specs.OneNode.{loaded, least_place}
use Rattle.tree_pages.specs.Laid.{on_page, Lies}
use Rattle.tree_pages.proofs.Entries.{link_on_page, growth_on_page, place_some}
use Rattle.tree_pages.proofs.Lying.{length_on_page, lies_below, lies_none, lies_node}
use Rattle.insertion.specs.Refusals.{asked}
use Rattle.insertion.specs.Way.{Knows, FullLeaf}
use Rattle.insertion.specs.Filling.{Filled, Room, Adds, Regrows}
use Rattle.insertion.specs.Under.{Inserted, Outcome, InsertsUnder}
use Rattle.insertion.specs.declared.above.Above.{Above}
use Rattle.insertion.specs.declared.change.Change.{Change}
use Rattle.insertion.specs.declared.refusal.InsertRefusal.{InsertRefusal}
use Rattle.insertion.specs.declared.refusal.InsertRefusal.TheVariants.{NotATree}
use Rattle.insertion.proofs.Asking.{not_full, enough_free, splits_next}
use Rattle.insertion.proofs.Growing.{at_leaf, above_leaf}
use Rattle.insertion.proofs.Counting.{room_for}

-- The questions were asked of a full leaf, or it is not full.
pub data Asked (a : Above) (s : Pages) (n : Node) : Type 0 where
  of_full : leb 12 (count_in (words_in n)) ≡ true → FullLeaf a s (Ok tt) → Asked a s n
  of_none : leb 12 (count_in (words_in n)) ≡ false → Asked a s n

link_at : {K : Type 0} (h : ℕ) (es : List (Entry K (Link K h))) (i : ℕ) (e : Entry K (Link K h)) → slice_get es i ≡ Some e → option_map (λ x. x.link) (slice_get (on_page h es) i) ≡ Some (link_number K h e.link)
link_at {K} h es i e n = link_on_page h es i ∙ ap (option_map (λ x. link_number K h x.link)) n

-- A node, as it was read from its page.
module _ {K : Type 0} (G : Growing K) (s : Pages) (node : Node) (h : ℕ) (u : Tree K h) (lies : Lies G s h u) (read : Some (words_in node) ≡ loaded s u.page) where
  stands : Stands G node (suc h) (on_page h u.entries)
  stands = lies_node G s h u node lies read

  count : count_in (words_in node) ≡ length u.entries
  count = count_is G (suc h) (on_page h u.entries) (words_in node) stands ∙ length_on_page h u.entries

  -- Above the leaves there is an entry at the place of the least growth.
  module _ (k : K) (i : ℕ) (least_is : (level : ℕ) (es : List (Entry K ℕ)) → Stands G node level es → Some i ≡ least_place G k es) where
    place_is : i ≡ least_growth G k u.entries
    place_is = place_some G k (on_page h u.entries) i (least_is (suc h) (on_page h u.entries) stands) ∙ growth_on_page h G k u.entries

    entry_at : (e : Entry K (Link K h)) × (slice_get u.entries i ≡ Some e)
    entry_at = nth_there u.entries i (rw place_is (within G k u.entries (omega (arith, lies.size))))

-- The child there, and the way of the key above it.
module _ {K Q : Type 0} (C : Class K Q) (s : Pages) (node : Node) (h : ℕ) (u : Tree K (suc h)) (lies : Lies C.growing s (suc h) u) (read : Some (words_in node) ≡ loaded s u.page)
    (k : K) (i : ℕ) (least_is : (level : ℕ) (es : List (Entry K ℕ)) → Stands C.growing node level es → Some i ≡ least_place C.growing k es)
    (child : ℕ) (link_is : (level : ℕ) (es : List (Entry K ℕ)) → Stands C.growing node level es → Some child ≡ option_map (λ e. e.link) (slice_get es i))
    (e : Entry K (Tree K h)) (there : slice_get u.entries i ≡ Some e) where
  abbrev G : Growing K
  G = C.growing

  child_is : child ≡ e.link.page
  child_is =
      let x : Some child ≡ Some e.link.page = link_is (suc (suc h)) (on_page (suc h) u.entries) (stands G s node (suc h) u lies read) ∙ link_at (suc h) u.entries i e there in
      cc

  -- The way of the key goes on in the child.
  way_is : (steps : List Step) → way_under G k (suc h) u ++ steps ≡ way_under G k h e.link ++ step u ∷ steps
  way_is steps =
      ap (λ (o : Option (Entry K (Tree K h))). (way_by h (way_under G k h) o ++ step u ∷ []) ++ steps) (ap (slice_get u.entries) (sym (place_is G s node (suc h) u lies read k i least_is)) ∙ there)
      ∙ append_assoc (way_under G k h e.link) (step u ∷ []) steps

  -- What is known of the way above the child, and what came of it.
  module _ (level : ℕ) (a b : Above) (below_is : (r : ℕ) → a.run ≡ r → r + 1 < 2 ^ 32 → b ≡ record { run = cond (leb 12 (count_in (words_in node))) (1 + r) 0; levels = a.levels })
      (steps : List Step) (lev : level ≡ suc (suc h)) (kn : Knows a level steps) where
    knows_below : Knows b (level - 1) (step u ∷ steps)
    knows_below =
        let is = below_is (splits steps) kn.run (omega (arith, splits_within steps, kn.levels, kn.low)) in
        record {
          run = ap (λ (x : Above). x.run) is ∙ ap (λ (m : ℕ). cond (leb 12 m) (1 + splits steps) 0) (count G s node (suc h) u lies read);
          levels = ap (λ (x : Above). x.levels) is ∙ omega (arith, kn.levels);
          low = omega (arith, kn.low, ap (λ (x : Above). x.levels) is);
        }

    outcome_below : (n : ℕ) (m : Pages) (q : Result (Change K) InsertRefusal) → InsertsUnder C s m child (level - 1) b k n q → Outcome C s m k n h e.link (way_under G k h e.link ++ step u ∷ steps) q
    outcome_below n m q under = under.says h e.link (step u ∷ steps) (lies_below G s h u i e lies there) (sym child_is) (omega arith) knows_below

module _ {K Q : Type 0} {C : Class K Q} {s t : Pages} {p level : ℕ} {a : Above} {k : K} {n : ℕ} where
  -- The page is always read.
  pub unread : {r : Result (Change K) InsertRefusal} → None ≡ loaded s p → InsertsUnder C s t p level a k n r
  unread e = record { says = λ h u steps lies on lev kn. absurd (lies_none C.growing s h u lies (rw on e)) }

  -- It is enough to look at the leaves, or at the nodes above them.
  on_leaf : {r : Result (Change K) InsertRefusal} → level ≤ 1
      → ((u : Tree K zero) (steps : List Step) → Lies C.growing s zero u → u.page ≡ p → Knows a 1 steps → Outcome C s t k n zero u (step u ∷ steps) r) → InsertsUnder C s t p level a k n r
  on_leaf {r} low f = record { says = by }
    where
      by : (h : ℕ) (u : Tree K h) (steps : List Step) → Lies C.growing s h u → u.page ≡ p → level ≡ suc h → Knows a level steps → Outcome C s t k n h u (way_under C.growing k h u ++ steps) r
      by zero u steps lies on lev kn = f u steps lies on (rw lev at kn)
      by (suc h) u steps lies on lev kn = absurd (omega arith)

  above_leaves : {r : Result (Change K) InsertRefusal} → 1 < level
      → ((h : ℕ) (u : Tree K (suc h)) (steps : List Step) → Lies C.growing s (suc h) u → u.page ≡ p → level ≡ suc (suc h) → Knows a level steps → Outcome C s t k n (suc h) u (way_under C.growing k (suc h) u ++ steps) r)
      → InsertsUnder C s t p level a k n r
  above_leaves {r} deep f = record { says = by }
    where
      by : (h : ℕ) (u : Tree K h) (steps : List Step) → Lies C.growing s h u → u.page ≡ p → level ≡ suc h → Knows a level steps → Outcome C s t k n h u (way_under C.growing k h u ++ steps) r
      by zero u steps lies on lev kn = absurd (omega arith)
      by (suc h) u steps lies on lev kn = f h u steps lies on lev kn

  module _ (node : Node) (read : Some (words_in node) ≡ loaded s p) where
    -- A full leaf, and a question with a no.
    pub refused_leaf : {e : InsertRefusal} → level ≤ 1 → leb 12 (count_in (words_in node)) ≡ true → FullLeaf a s (Err e) → t ≡ s → InsertsUnder C s t p level a k n (Err e)
    refused_leaf low full asks same =
        on_leaf low (λ u steps lies on kn. (sym (asks.says steps (step u) kn (rw (count C.growing s node zero u lies (rw on read)) at full)), same))

    -- The record is put on a leaf.
    pub done_leaf : (r : Option (Change K)) → level ≤ 1 → Asked a s node → Adds C.growing C s t p node (record { key = k; link = n }) r → InsertsUnder C s t p level a k n (ok_or r NotATree)
    done_leaf r low asks adds = on_leaf low (λ u steps lies on kn.
        let here : Some (words_in node) ≡ loaded s u.page = rw on read in
        let z = none u steps (count C.growing s node zero u lies here) kn asks in
        done u steps r lies z (rw on (adds.says 1 (on_page zero u.entries) (stands C.growing s node zero u lies here) (rw on at (room u steps lies z)))))
      where
        none : (u : Tree K zero) (steps : List Step) → count_in (words_in node) ≡ length u.entries → Knows a 1 steps → Asked a s node → asked (step u ∷ steps) (free_pages s) ≡ None
        none u steps many kn (of_full l f) = sym (f.says steps (step u) kn (rw many at l))
        none u steps many kn (of_none l) = not_full steps (step u) (free_pages s) (rw many at l)

        room : (u : Tree K zero) (steps : List Step) → Lies C.growing s zero u → asked (step u ∷ steps) (free_pages s) ≡ None → Room s u.page (length (on_page zero u.entries) + 1)
        room u steps lies z =
            let size = length_on_page zero u.entries in
            record {
              held = ap is_some lies.words.0;
              some = omega arith;
              few = omega (arith, lies.size);
              spare = λ e. grind (arith, enough_free (step u ∷ steps) (free_pages s) z, splits_next [] steps (step u));
            }

        done : (u : Tree K zero) (steps : List Step) (o : Option (Change K)) → Lies C.growing s zero u → asked (step u ∷ steps) (free_pages s) ≡ None
            → Filled C.growing C s t u.page 1 (on_page zero u.entries ++ record { key = k; link = n } ∷ []) o → Outcome C s t k n zero u (step u ∷ steps) (ok_or o NotATree)
        done u steps None lies z f = absurd f
        done u steps (Some c) lies z f = (z, at_leaf C s t k n u c (ap is_some lies.words.0) f)

    module _ (i : ℕ) (least_is : (lv : ℕ) (es : List (Entry K ℕ)) → Stands C.growing node lv es → Some i ≡ least_place C.growing k es) where
      -- A node above the leaves has the child of least growth.
      pub no_child : {r : Result (Change K) InsertRefusal} → ((lv : ℕ) (es : List (Entry K ℕ)) → Stands C.growing node lv es → None ≡ option_map (λ e. e.link) (slice_get es i)) → InsertsUnder C s t p level a k n r
      no_child f = record {
        says = λ h u steps lies on lev kn.
            let here : Some (words_in node) ≡ loaded s u.page = rw on read in
            let x = entry_at C.growing s node h u lies here k i least_is in
            absurd (none-some _ (f (suc h) (on_page h u.entries) (stands C.growing s node h u lies here) ∙ link_at h u.entries i x.0 x.1));
      }

      module _ (child : ℕ) (b : Above) (deep : 1 < level)
          (link_is : (lv : ℕ) (es : List (Entry K ℕ)) → Stands C.growing node lv es → Some child ≡ option_map (λ e. e.link) (slice_get es i))
          (below_is : (m : ℕ) → a.run ≡ m → m + 1 < 2 ^ 32 → b ≡ record { run = cond (leb 12 (count_in (words_in node))) (1 + m) 0; levels = a.levels }) where
        pub refused_below : {e : InsertRefusal} → InsertsUnder C s t child (level - 1) b k n (Err e) → InsertsUnder C s t p level a k n (Err e)
        refused_below {e} under = above_leaves deep (λ h u steps lies on lev kn.
            let here : Some (words_in node) ≡ loaded s u.page = rw on read in
            let x = entry_at C.growing s node (suc h) u lies here k i least_is in
            rw (way_is C s node h u lies here k i least_is child link_is x.0 x.1 steps)
            (outcome_below C s node h u lies here k i least_is child link_is x.0 x.1 level a b below_is steps lev kn n t (Err e) under))

        pub done_below : Lawful C → {m : Pages} {c : Change K} (r : Option (Change K)) → InsertsUnder C s m child (level - 1) b k n (Ok c) → Regrows C.growing C m t p node i child c r → InsertsUnder C s t p level a k n (ok_or r NotATree)
        done_below law {m} {c} r under regrows = above_leaves deep (λ h u steps lies on lev kn.
            let here : Some (words_in node) ≡ loaded s u.page = rw on read in
            let x = entry_at C.growing s node (suc h) u lies here k i least_is in
            let o = outcome_below C s node h u lies here k i least_is child link_is x.0 x.1 level a b below_is steps lev kn n m (Ok c) under in
            let size = length_on_page (suc h) u.entries in
            let least = place_is C.growing s node (suc h) u lies here k i least_is in
            let room = room_for C law s m k n h x.0.link c (lies_below C.growing s h u i x.0 lies x.1) o.1 u.page (step u) steps (length u.entries) (ap is_some lies.words.0) refl lies.size.0 lies.size.1 o.0 in
            let inside : i < length (on_page (suc h) u.entries) = rw least (omega (arith, within C.growing k u.entries lies.size.0)) in
            rw (way_is C s node h u lies here k i least_is child link_is x.0 x.1 steps)
            (done h u x.0 (way_under C.growing k h x.0.link ++ step u ∷ steps) r on (child_is C s node h u lies here k i least_is child link_is x.0 x.1) least x.1 o.1 room.held o.0
            (regrows.says (suc (suc h)) (on_page (suc h) u.entries) (stands C.growing s node (suc h) u lies here) inside (rw (size, ← on) room))))
          where
            done : (h : ℕ) (u : Tree K (suc h)) (e : Entry K (Tree K h)) (steps : List Step) (o : Option (Change K)) → u.page ≡ p → child ≡ e.link.page → i ≡ least_growth C.growing k u.entries → slice_get u.entries i ≡ Some e
                → Inserted C s m k n h e.link c → Held m u.page → asked steps (free_pages s) ≡ None
                → Filled C.growing C m t p (suc (suc h)) (set (on_page (suc h) u.entries) i (record { key = c.key; link = child }) ++ option_to_list c.split_off) o → Outcome C s t k n (suc h) u steps (ok_or o NotATree)
            done h u e steps None on is least there x held z f = absurd f
            done h u e steps (Some d) on is least there x held z f = (z, above_leaf C s m t k n h u i e c d least there x held (rw (on, ← is) f))

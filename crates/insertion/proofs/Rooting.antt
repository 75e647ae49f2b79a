-- An insert into a whole tree: the first leaf, a root that stays, a root that is split.
use Rattle.std.proofs.Common.{◌≡◌, ℕ, suc, ◌+◌, ◌≤◌, min, cond, List, [], ◌∷◌, ◌++◌, map, length, set, Some, None, Ok, Err, Option, Result, sym, refl, ap, ◌∙◌, arith, length-append}
use Rattle.std.specs.Option.{ok_or}
use Rattle.std.proofs.lemmas.List.{append-nil, nil_from_length}
use Rattle.std.proofs.lemmas.Option.{none-some, same_Some}
use Rattle.std.proofs.lemmas.Bool.{cond-true, le-leb}
use Rattle.page_store.specs.Pages.{Pages, Words, free_pages}
use Rattle.page_store.specs.Calls.{Took}
use Rattle.page_store.proofs.Counting.{some_free}
use Rattle.key_class.specs.Class.{Growing, Class, Lawful}
use Rattle.node.specs.Nodes.{Entry, node_words}
use Rattle.gist.specs.Tree.{Tree, Gist, empty, root, levels, words_of, entry_for}
use Rattle.gist.specs.Insert.{Grown, Step, way_under, new_root, needed, rooted, inserted}
use Rattle.gist.specs.Writes.{above_all, root_writes, writes_under}
use Rattle.gist.proofs.Inserting.{writes_adding}
use Rattle.tree_pages.specs.Laid.{on_page, start_of, Lies, over, Fresh, OnPages}
use Rattle.tree_pages.proofs.Entries.{numbered}
use Rattle.tree_pages.proofs.Lying.{lies_root}
use Rattle.tree_pages.proofs.Standing.{stands, inserted_on}
use Rattle.insertion.specs.Refusals.{asked}
use Rattle.insertion.specs.Under.{Inserted, Outcome, InsertsUnder}
use Rattle.insertion.specs.Whole.{Plants, Raises, Done, Into, InsertsInto}
use Rattle.insertion.specs.declared.change.Change.{Change}
use Rattle.insertion.specs.declared.refusal.InsertRefusal.{InsertRefusal}
use Rattle.insertion.specs.declared.refusal.InsertRefusal.TheVariants.{NotATree}
use Rattle.tree_pages.specs.declared.root.Root.{Root}
use Rattle.insertion.proofs.Asking.{enough_free}
use Rattle.insertion.proofs.Growing.{fresh_one, fresh_both}
use Rattle.insertion.proofs.Counting.{rest_is, taken_is, split_is, long_is}

-- Where nothing is refused, an eighth level is not made.
low_enough : (steps : List Step) (free : ℕ) → asked steps free ≡ None → length steps ≤ 7 → length steps + cond (new_root steps) 1 0 ≤ 7
low_enough steps free e l = grind arith

module _ {K Q : Type 0} (C : Class K Q) (law : Lawful C) (before s : Pages) (k : K) (n : ℕ) where
  abbrev G : Growing K
  G = C.growing

  -- The empty tree needs one page.
  into_empty : (t : Pages) → OnPages G before s empty → (r : Result Root InsertRefusal) → Plants G s t (record { key = k; link = n }) r → Into C before s t empty k n r
  into_empty t on (Ok x) (took, one) = (
    cond-true _ _ _ (le-leb 1 (free_pages s) (some_free s x.page took.within took.was_free)),
    record {
      taken = x.page ∷ [];
      many = refl;
      fresh = fresh;
      on = inserted_on C law before s t empty k n (x.page ∷ []) on refl fresh took.pages (omega arith);
      starts = ap (λ (l : ℕ). Some (record { page = x.page; levels = l })) one;
    },
  )
    where
      fresh : Fresh s (x.page ∷ [])
      fresh = fresh_one s x.page (took.within, took.was_free)
  into_empty t on (Err e) (is, none, same) = (rw (none, is) refl, same)

  -- What came of the root of a tree.
  module _ (h : ℕ) (u : Tree K h) (on : OnPages G before s (root h u)) where
    abbrev steps : List Step
    steps = way_under G k h u

    lies : Lies G s h u
    lies = lies_root G s h u on.rules (stands G before s (root h u) on)

    outcome : (t : Pages) (r : Result (Change K) InsertRefusal) → InsertsUnder C s t u.page (suc h) (record { run = 0; levels = suc h }) k n r → Outcome C s t k n h u steps r
    outcome t r under = rw append-nil at (under.says h u [] lies refl refl (record { run = refl; levels = omega arith; low = omega (arith, on.rules.0) }))

    module _ (none : asked steps (free_pages s) ≡ None) (m : Pages) (c : Change K) (x : Inserted C s m k n h u c) where
      abbrev came : List ℕ → Grown K h
      came more = record { node = x.node; split_off = x.split_off; unused = more }

      finish : (t : Pages) (r : Root) (more : List ℕ) → length more ≡ length x.split_off → Fresh s (x.taken ++ more)
          → t ≡ over s (root_writes G k h (came more) more x.split_off ++ writes_under C k n h (x.taken ++ more) u)
          → Some r ≡ start_of (rooted G k h x.node x.split_off more) → Done C before s t (root h u) k n r
      finish t r more extra fresh pages starts = record {
        taken = x.taken ++ more;
        many = many;
        fresh = fresh;
        on = inserted_on C law before s t (root h u) k n (x.taken ++ more) on many fresh (rw (x.is more) pages) low;
        starts = rw (x.is more) starts;
      }
        where
          many : length (x.taken ++ more) ≡ needed steps
          many = omega (arith, length-append x.taken more, taken_is C law s m k n h u c lies x, split_is C law s m k n h u c lies x)

          low : levels (inserted C k n (x.taken ++ more) (root h u)) ≤ 7
          low =
              let long = long_is C law s m k n h u c lies x in
              omega (arith, (writes_adding C law (root h u) k n (x.taken ++ more) on.rules many).adds.height, low_enough steps (free_pages s) none (omega (arith, long, on.rules.0)), long)

      -- The root is not split, and its page stays.
      keep : c.split_off ≡ None → Done C before s m (root h u) k n (record { page = u.page; levels = suc h })
      keep one =
          finish m _ [] (ap length (sym off)) (rw append-nil x.fresh) (rw off (x.pages []))
          (rw off (ap (λ (e : Entry K ℕ). Some (record { page = e.link; levels = suc h })) first))
        where
          off : x.split_off ≡ []
          off = nil_from_length x.split_off (rw one at (rest_is C law s m k n h u c lies x))

          first : record { key = c.key; link = u.page } ≡ numbered (suc h) (entry_for G h k x.node)
          first = let told = x.told in cc

      -- The root is split, and a new one is put above on page q.
      grow : (r : Root) (t : Pages) (new : Entry K ℕ) → c.split_off ≡ Some new → Took m t (node_words G (suc (suc h)) (record { key = c.key; link = u.page } ∷ new ∷ [])) r.page
          → r.levels ≡ suc (suc h) → Done C before s t (root h u) k n r
      grow r t new two took higher = by x.split_off refl
        where
          q : ℕ
          q = r.page

          one_told : length x.split_off ≡ 1
          one_told = rw two at (rest_is C law s m k n h u c lies x)

          fresh : Fresh s (x.taken ++ q ∷ [])
          fresh = fresh_both C s m (writes_under C k n h (x.taken ++ []) u) x.taken (q ∷ []) (x.pages []) x.fresh x.held (fresh_one m q (took.within, took.was_free))

          by : (us : List (Tree K h)) → x.split_off ≡ us → Done C before s t (root h u) k n r
          by [] e = absurd (omega (arith, one_told, ap length e))
          by (v ∷ (v₁ ∷ us)) e = absurd (omega (arith, one_told, ap length e))
          by (v ∷ []) e =
              finish t r (q ∷ []) (sym (ap length e)) fresh
              (rw e (took.pages ∙ ap (λ (y : Words). set m q (Some y)) words ∙ ap (λ (p : Pages). set p q (Some (words_of G (suc h) (above_all G k h q (x.node ∷ v ∷ []))))) (x.pages (q ∷ []))))
              (rw e (ap (λ (l : ℕ). Some (record { page = q; levels = l })) higher))
            where
              entries : record { key = c.key; link = u.page } ∷ new ∷ [] ≡ on_page (suc h) (map (entry_for G h k) (x.node ∷ v ∷ []))
              entries = rw (two, e) at x.told

              words : node_words G (suc (suc h)) (record { key = c.key; link = u.page } ∷ new ∷ []) ≡ words_of G (suc h) (above_all G k h q (x.node ∷ v ∷ []))
              words = ap (node_words G (suc (suc h))) entries

      -- A page is free for it.
      one_free : (new : Entry K ℕ) → c.split_off ≡ Some new → free_pages m ≡ 0 → ⊥
      one_free new two z =
          let one : length x.split_off ≡ 1 = rw two at (rest_is C law s m k n h u c lies x) in
          omega (arith, enough_free steps (free_pages s) none, taken_is C law s m k n h u c lies x, x.left, split_is C law s m k n h u c lies x)

module _ {K Q : Type 0} {C : Class K Q} {s t : Pages} {k : K} {n : ℕ} where
  pub planted : Lawful C → (r : Result Root InsertRefusal) → Plants C.growing s t (record { key = k; link = n }) r → InsertsInto C s t None k n r
  planted law r plants = record { says = by }
    where
      by : (before : Pages) (w : Gist K) → OnPages C.growing before s w → None ≡ start_of w → Into C before s t w k n r
      by before empty on st = into_empty C law before s k n t on r plants
      by before (root h u) on st = absurd (none-some _ st)

  module _ (start : Root) where
    -- It is enough to look at trees with a root.
    at_root : {r : Result Root InsertRefusal}
        → ((before : Pages) (h : ℕ) (u : Tree K h) → OnPages C.growing before s (root h u) → start ≡ record { page = u.page; levels = suc h } → Into C before s t (root h u) k n r)
        → InsertsInto C s t (Some start) k n r
    at_root {r} f = record { says = by }
      where
        by : (before : Pages) (w : Gist K) → OnPages C.growing before s w → Some start ≡ start_of w → Into C before s t w k n r
        by before empty on st = absurd (none-some _ (sym st))
        by before (root h u) on st = f before h u on (same_Some _ _ st)

    pub under_refused : Lawful C → {e : InsertRefusal} → InsertsUnder C s t start.page start.levels (record { run = 0; levels = start.levels }) k n (Err e) → InsertsInto C s t (Some start) k n (Err e)
    under_refused law {e} under = at_root (λ before h u on is. outcome C law before s k n h u on t (Err e) (rw is at under))

    pub kept_root : Lawful C → (c : Change K) → InsertsUnder C s t start.page start.levels (record { run = 0; levels = start.levels }) k n (Ok c)
        → c.split_off ≡ None → InsertsInto C s t (Some start) k n (Ok start)
    kept_root law c under one = at_root (λ before h u on is.
        let o = outcome C law before s k n h u on t (Ok c) (rw is at under) in
        rw is (o.0, keep C law before s k n h u on o.0 t c o.1 one))

    pub grown_root : Lawful C → (m : Pages) (c : Change K) (new : Entry K ℕ) (o : Option Root) (higher : ℕ) → higher ≡ min (start.levels + 1) 4294967295
        → InsertsUnder C s m start.page start.levels (record { run = 0; levels = start.levels }) k n (Ok c)
        → c.split_off ≡ Some new → Raises C.growing m t higher (record { key = c.key; link = start.page }) new o → InsertsInto C s t (Some start) k n (ok_or o NotATree)
    grown_root law m c new o higher up under two raises = at_root (λ before h u on is.
        let x = outcome C law before s k n h u on m (Ok c) (rw is at under) in
        done before h u on (omega (arith, rw is at up, on.rules.0)) x.0 x.1 o (rw is at raises))
      where
        done : (before : Pages) (h : ℕ) (u : Tree K h) → OnPages C.growing before s (root h u) → higher ≡ suc (suc h) → asked (way_under C.growing k h u) (free_pages s) ≡ None → Inserted C s m k n h u c
            → (o : Option Root) → Raises C.growing m t higher (record { key = c.key; link = u.page }) new o → Into C before s t (root h u) k n (ok_or o NotATree)
        done before h u on high none x None z = absurd (one_free C law before s k n h u on none m c x new two z)
        done before h u on high none x (Some r) f = let g = rw high at f in (none, grow C law before s k n h u on none m c x r t new two g.0 g.1)

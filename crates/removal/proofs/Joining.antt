-- A node whose child has changed: the child is written, or joined to a partner.
use Rattle.std.proofs.Common.{◌≡◌, ℕ, suc, ◌+◌, ◌<◌, ◌≤◌, Bool, ltb, ◌⊎◌, List, [], ◌∷◌, ◌++◌, length, set, is_some, Some, None, Option, sym, refl, ap, ◌∙◌, subst, inl, inr, arith, length-append}
use Rattle.std.specs.Option.{option_map}
use Rattle.std.specs.List.{insert as with_at, slice_get}
use Rattle.std.proofs.lemmas.List.Edits.{length-remove}
use Rattle.std.proofs.lemmas.Bool.{cond-true, cond-false, le-leb, lt-leb}
use Rattle.std.proofs.lemmas.Option.{none-some, same_Some}
use Rattle.page_store.specs.Pages.{Pages, Words, at}
use Rattle.page_store.proofs.Calling.{Held}
use Rattle.key_class.specs.Class.{Growing, Class}
use Rattle.key_class.specs.Joined.{joined}
use Rattle.node.specs.Nodes.{Entry, keys, node_words, stay, go, without}
use Rattle.node.specs.Reading.{count_in}
use Rattle.node.specs.InMemory.{words_in, Stands}
use Rattle.node.specs.declared.memory.Node.{Node}
use Rattle.node.proofs.Places.{count_is}
use Rattle.gist.specs.Tree.{Link, Tree, words_of, union_of, entry_for}
use Rattle.gist.specs.Insert.{least_growth}
use Rattle.gist.specs.Remove.{joined_to, mended}
use Rattle.gist.specs.Writes.{join_edits, mend_edits}
use Rattle.gist.proofs.Lists.{all_nth, nth_there}
use Rattle.gist.proofs.Nodes.{within}
use Rattle.tree_pages.specs.OneNode.{adopted, loaded, least_place}
use Rattle.tree_pages.specs.Laid.{on_page, edited}
use Rattle.tree_pages.proofs.Lying.{length_on_page}
use Rattle.tree_pages.proofs.Entries.{numbered, keys_on_page, stay_on_page, go_on_page, without_on_page, set_on_page, append_on_page, link_on_page, growth_on_page, place_none, place_some, same_key}
use Rattle.removal.specs.Mending.{entry_to, SavesNode, Merges, Shared, Shares, Changed, Became}
use Rattle.removal.specs.declared.paged.PagedNode.{PagedNode}
use Rattle.removal.proofs.Shifting.{before, behind}
use Rattle.removal.proofs.Sharing.{no_entry}

-- What the calls on nodes say of their words, over any growing.
module _ {K : Type 0} (X : Growing K) where
  abbrev pub TakesOut : Words → Words → ℕ → Bool → Type 0
  TakesOut n o i b = (level : ℕ) (es : List (Entry K ℕ)) → n ≡ node_words X level es → (b ≡ ltb i (length es)) × (o ≡ node_words X level (without es i))

  abbrev pub Replaces : Words → Words → ℕ → Entry K ℕ → Bool → Type 0
  Replaces n o i e b = (level : ℕ) (es : List (Entry K ℕ)) → n ≡ node_words X level es → (b ≡ ltb i (length es)) × (o ≡ node_words X level (set es i e))

  abbrev pub Unites : Words → Option K → Type 0
  Unites n r = (level : ℕ) (es : List (Entry K ℕ)) → n ≡ node_words X level es → r ≡ joined X (keys es)

  abbrev pub Chooses : Words → K → Option ℕ → Type 0
  Chooses n k r = (level : ℕ) (es : List (Entry K ℕ)) → n ≡ node_words X level es → r ≡ least_place X k es

  abbrev pub Leads : Words → ℕ → Option ℕ → Type 0
  Leads n i r = (level : ℕ) (es : List (Entry K ℕ)) → n ≡ node_words X level es → r ≡ option_map (λ e. e.link) (slice_get es i)

-- The growing of a class is that of its keys.
pub at_class : {K : Type 0} {G X : Growing K} → G ≡ X → (P : Growing K → Type 0) → P X → P G
at_class tied P p = subst P (sym tied) p

-- How many entries a node has.
pub many_in : {K : Type 0} (G : Growing K) (level h : ℕ) (es : List (Entry K (Link K h))) {w : Words} → w ≡ node_words G level (on_page h es) → count_in w ≡ length es
many_in G level h es {w} st = count_is G level (on_page h es) w st ∙ length_on_page h es

-- The entry of a node on a page.
pub entry_is : {K : Type 0} (G : Growing K) (h : ℕ) (k : K) (es : List (Entry K (Link K h))) {a : Entry K ℕ} {p q : ℕ} → Some a ≡ entry_to G p (on_page h es) → p ≡ q → a ≡ record { key = union_of G k es; link = q }
entry_is G h k [] e f = absurd (none-some _ (sym e))
entry_is G h k (x ∷ es) e f = let s = same_Some _ _ e in let m = ap (joined G) (keys_on_page h (x ∷ es)) in cc

-- An entry replaced by one of a node on a page.
replaced : {K : Type 0} {G X : Growing K} (tied : G ≡ X) {n w : Words} (i : ℕ) {a : Entry K ℕ} {b : Bool} → Replaces X n w i a b
    → (level h : ℕ) (es : List (Entry K (Link K h))) (f : Entry K (Link K h)) → a ≡ numbered h f → n ≡ node_words G level (on_page h es)
    → w ≡ node_words G level (on_page h (set es i f))
replaced {K} {G} {X} tied {n} {w} i {a} {b} re level h es f is st =
    (at_class tied (λ Y. Replaces Y n w i a b) re level (on_page h es) st).1 ∙ ap (node_words G level) (ap (set (on_page h es) i) is ∙ set_on_page h es i f)

-- The partner of the child of u at place i, which has become v: it stands at place j of the others, and in y.
pub record Partner {K : Type 0} (G : Growing K) (s : Pages) (h : ℕ) (u : Tree K (suc h)) (v : Tree K h) (k : K) (i : ℕ) (o : Words) (j : ℕ) (y : PagedNode) : Type 0 where
  pub others : o ≡ node_words G (suc (suc h)) (on_page (suc h) (without u.entries i))
  pub inside : j < length (without u.entries i)
  pub least : j ≡ least_growth G (union_of G k v.entries) (without u.entries i)
  pub entry : Entry K (Tree K h)
  pub there : slice_get (without u.entries i) j ≡ Some entry
  pub page : y.page ≡ entry.link.page
  pub stands : Stands G y.node (suc h) (on_page h entry.link.entries)
  pub few : length entry.link.entries ≤ 12
  pub held : Held s y.page

-- What a join finds, step by step.
module _ {K : Type 0} {G X : Growing K} (tied : G ≡ X) {s : Pages} {n : Node} {i : ℕ} {x : PagedNode} where
  -- The others, and the key formed anew.
  module _ {o : Words} {b : Bool} {key : K} (out : TakesOut X (words_in n) o i b) (unites : Unites X (words_in x.node) (Some key)) {h : ℕ} {u : Tree K (suc h)} {v : Tree K h} (k : K) (ch : Changed G s n i x h u v) where
    abbrev others : List (Entry K (Tree K h))
    others = without u.entries i

    o_stands : o ≡ node_words G (suc (suc h)) (on_page (suc h) others)
    o_stands = (at_class tied (λ Y. TakesOut Y (words_in n) o i b) out (suc (suc h)) (on_page (suc h) u.entries) ch.above).1 ∙ ap (node_words G (suc (suc h))) (without_on_page (suc h) u.entries i)

    o_some : 1 ≤ length others
    o_some = omega (arith, length-remove u.entries i ch.within, ch.more)

    key_is : key ≡ union_of G k v.entries
    key_is = same_key G h k key v.entries (at_class tied (λ Y. Unites Y (words_in x.node) (Some key)) unites (suc h) (on_page h v.entries) ch.child)

    pub no_place : Chooses X o key None → ⊥
    no_place f =
        place_none G key (on_page (suc h) others) (omega (arith, length_on_page (suc h) others, o_some)) (at_class tied (λ Y. Chooses Y o key None) f (suc (suc h)) (on_page (suc h) others) o_stands)

    -- The partner's place.
    module _ {j : ℕ} (chooses : Chooses X o key (Some j)) where
      least : j ≡ least_growth G (union_of G k v.entries) others
      least =
          place_some G key (on_page (suc h) others) j (at_class tied (λ Y. Chooses Y o key (Some j)) chooses (suc (suc h)) (on_page (suc h) others) o_stands)
          ∙ growth_on_page (suc h) G key others ∙ ap (λ (y : K). least_growth G y others) key_is

      pub inside : j < length others
      inside = subst (λ (m : ℕ). m < length others) (sym least) (within G (union_of G k v.entries) others o_some)

      partner : Entry K (Tree K h)
      partner = (nth_there others j inside).0

      there : slice_get others j ≡ Some partner
      unfolding partner
      there = (nth_there others j inside).1

      links : option_map (λ (e : Entry K ℕ). e.link) (slice_get (on_page (suc h) others) j) ≡ Some partner.link.page
      links = link_on_page (suc h) others j ∙ ap (option_map (λ (e : Entry K (Tree K h)). e.link.page)) there

      pub no_link : Leads X o j None → ⊥
      no_link f = none-some _ (at_class tied (λ Y. Leads Y o j None) f (suc (suc h)) (on_page (suc h) others) o_stands ∙ links)

      -- Its page.
      module _ {q : ℕ} (leads : Leads X o j (Some q)) where
        page_is : q ≡ partner.link.page
        page_is = same_Some _ _ (at_class tied (λ Y. Leads Y o j (Some q)) leads (suc (suc h)) (on_page (suc h) others) o_stands ∙ links)

        stands_there : (at s partner.link.page ≡ Some (words_of G h partner.link)) × (length partner.link.entries ≤ 12)
        stands_there = all_nth _ others j partner ch.stand there

        loads : loaded s q ≡ Some (words_of G h partner.link)
        loads =
            let m = many_in G (suc h) h partner.link.entries {w = words_of G h partner.link} refl in
            ap (loaded s) page_is ∙ ap adopted stands_there.0 ∙ cond-true _ _ _ (le-leb (count_in (words_of G h partner.link)) 12 (omega (arith, stands_there.1)))

        pub not_loaded : None ≡ loaded s q → ⊥
        not_loaded e = none-some _ (e ∙ loads)

        pub found : {y : Node} → Some (words_in y) ≡ loaded s q → Partner G s h u v k i o j (record { page = q; node = y })
        found {y} read = record {
          others = o_stands;
          inside = inside;
          least = least;
          entry = partner;
          there = there;
          page = page_is;
          stands = same_Some _ _ (read ∙ loads);
          few = stands_there.1;
          held = ap (λ (m : ℕ). is_some (at s m)) page_is ∙ ap is_some stands_there.0;
        }

-- The two places of a child and its partner, which stands at place j of the others.
abbrev pub Place : ℕ → ℕ → ℕ → Type 0
Place i j place = ((j < i) × (place ≡ j)) ⊎ ((i ≤ j) × (j < 12 → place ≡ j + 1))

module _ {K Q : Type 0} (C : Class K Q) {s : Pages} {n : Node} {i : ℕ} {x : PagedNode} {h : ℕ} {u : Tree K (suc h)} {v : Tree K h} (ch : Changed C.growing s n i x h u v) where
  x_some : 1 ≤ length (on_page h v.entries)
  x_some = omega (arith, length_on_page h v.entries, ch.some)

  -- Four entries or more: the child is written.
  module _ {X : Growing K} (tied : C.growing ≡ X) (thick : 4 ≤ length v.entries) {t : Pages} where
    pub written : (k : K) (o : Node) {a : Entry K ℕ} {b : Bool} → SavesNode X s t x (Some a) → Replaces X (words_in n) (words_in o) i a b
        → Became C.growing s t (suc h) (mended C h k u.entries i v) (mend_edits C h k u.entries i v) (Some o)
    written k o {a} {b} w re =
        let f = (at_class tied (λ Y. SavesNode Y s t x (Some a)) w).says (suc h) _ ch.child ch.held in
        let e : a ≡ numbered (suc h) (entry_for C.growing h k v) = entry_is C.growing h k v.entries f.0 (sym ch.page) in
        let all = le-leb 4 (length v.entries) thick in
        (replaced tied i re (suc (suc h)) (suc h) u.entries _ e ch.above ∙ ap (λ es. node_words C.growing (suc (suc h)) (on_page (suc h) es)) (sym (cond-true _ _ _ all)), cc)

  -- Fewer: it is joined to its partner.
  module _ (thin : length v.entries < 4) {k : K} {o : Words} {j : ℕ} {y : PagedNode} (p : Partner C.growing s h u v k i o j y) where
    abbrev both : List (Entry K (Link K h))
    both = p.entry.link.entries ++ v.entries

    many : length both ≡ count_in (words_in y.node) + count_in (words_in x.node)
    many = omega (arith, length-append p.entry.link.entries v.entries, many_in C.growing (suc h) h p.entry.link.entries p.stands, many_in C.growing (suc h) h v.entries ch.child)

    counts : length (on_page h p.entry.link.entries) + length (on_page h v.entries) ≡ length both
    counts = omega (arith, length-append p.entry.link.entries v.entries, length_on_page h p.entry.link.entries, length_on_page h v.entries)

    -- The definitions, with the partner known.
    mended_is : mended C h k u.entries i v ≡ joined_to C h k (without u.entries i) i v j (Some p.entry)
    mended_is =
        cond-false _ _ _ (lt-leb 4 (length v.entries) thin)
        ∙ ap (λ (m : ℕ). joined_to C h k (without u.entries i) i v m (slice_get (without u.entries i) m)) (sym p.least)
        ∙ ap (joined_to C h k (without u.entries i) i v j) p.there

    edits_is : mend_edits C h k u.entries i v ≡ join_edits C h v (Some p.entry)
    edits_is =
        cond-false _ _ _ (lt-leb 4 (length v.entries) thin)
        ∙ ap (λ (m : ℕ). join_edits C h v (slice_get (without u.entries i) m)) (sym p.least)
        ∙ ap (join_edits C h v) p.there

    abbrev stays : List (Entry K (Link K h))
    stays = stay (C.split (keys both)) both

    abbrev goes : List (Entry K (Link K h))
    goes = go (C.split (keys both)) both

    low : j < 12
    low = omega (arith, p.inside, length-remove u.entries i ch.within, n.few, many_in C.growing (suc (suc h)) (suc h) u.entries ch.above)

    -- Both places replaced in the node as it was.
    places : (place : ℕ) → Place i j place → (a b : Entry K (Tree K h)) → set (set u.entries place a) i b ≡ with_at (set (without u.entries i) j a) i b
    places place (inl (l, e)) a b = ap (λ (m : ℕ). set (set u.entries m a) i b) e ∙ sym (before u.entries i j a b ch.within l)
    places place (inr (l, e)) a b = ap (λ (m : ℕ). set (set u.entries m a) i b) (omega (arith, l, low, e low)) ∙ sym (behind u.entries i j a b ch.within l)

    -- After a call that leaves the pages as they are.
    module _ {X : Growing K} (tied : C.growing ≡ X) {m t : Pages} (same : m ≡ s) where
      -- Twelve hold both.
      module _ (few : count_in (words_in y.node) + count_in (words_in x.node) ≤ 12) where
        merges : {r : Option (Entry K ℕ)} → Merges X m t y x r
            → (r ≡ entry_to C.growing y.page (on_page h both)) × (t ≡ edited s ((x.page, None) ∷ (y.page, Some (node_words C.growing (suc h) (on_page h both))) ∷ []))
        merges {r} me =
            let f : Merges C.growing s t y x r = at_class tied (λ Y. Merges Y s t y x r) (subst (λ (z : Pages). Merges X z t y x r) same me) in
            let e = f.says (suc h) _ _ p.stands ch.child x_some (omega (arith, counts, many)) p.held ch.held in
            rw (append_on_page h p.entry.link.entries v.entries) at e

        pub not_merged : Merges X m t y x None → ⊥
        not_merged me = no_entry C.growing y.page _ (omega (arith, length_on_page h both, counts, x_some)) (merges me).0

        pub merged : (w : Node) {a : Entry K ℕ} {b : Bool} → Merges X m t y x (Some a) → Replaces X o (words_in w) j a b
            → Became C.growing s t (suc h) (mended C h k u.entries i v) (mend_edits C h k u.entries i v) (Some w)
        merged w {a} {b} me re =
            let one : Tree K h = record { page = p.entry.link.page; entries = both } in
            let all = le-leb (length both) 12 (omega (arith, many)) in
            let f = merges me in
            let e : a ≡ numbered (suc h) (entry_for C.growing h k one) = entry_is C.growing h k both f.0 p.page in
            let is = edits_is ∙ cond-true _ _ _ all in
            (replaced tied j re (suc (suc h)) (suc h) (without u.entries i) _ e p.others ∙ ap (λ es. node_words C.growing (suc (suc h)) (on_page (suc h) es)) (sym (mended_is ∙ cond-true _ _ _ all)), cc)

      -- They do not.
      module _ (lots : 12 < count_in (words_in y.node) + count_in (words_in x.node)) where
        shares : {r : Option (Entry K ℕ × Entry K ℕ)} → Shares X C m t y x r → Shared C.growing s t y.page x.page (suc h) (on_page h stays) (on_page h goes) r
        shares {r} sh =
            let f : Shares C.growing C s t y x r = at_class tied (λ Y. Shares Y C s t y x r) (subst (λ (z : Pages). Shares X C z t y x r) same sh) in
            let e = f.says (suc h) _ _ p.stands ch.child (omega (arith, counts, many)) (omega (arith, counts, length-append p.entry.link.entries v.entries, p.few, thin)) p.held ch.held in
            rw (append_on_page h p.entry.link.entries v.entries, keys_on_page h both, stay_on_page h (C.split (keys both)) both, go_on_page h (C.split (keys both)) both) at e

        pub not_shared : Shares X C m t y x None → ⊥
        not_shared sh = shares sh

        pub shared : (place : ℕ) (w z : Node) {r : Entry K ℕ × Entry K ℕ} {b c : Bool} → Place i j place → Shares X C m t y x (Some r)
            → Replaces X (words_in n) (words_in w) place r.0 b → Replaces X (words_in w) (words_in z) i r.1 c
            → Became C.growing s t (suc h) (mended C h k u.entries i v) (mend_edits C h k u.entries i v) (Some z)
        shared place w z {r} {b} {c} at_place sh re₁ re₂ =
            let stayed : Tree K h = record { page = p.entry.link.page; entries = stays } in
            let went : Tree K h = record { page = v.page; entries = goes } in
            let not = lt-leb (length both) 12 (omega (arith, many)) in
            let f = shares sh in
            let e : r.0 ≡ numbered (suc h) (entry_for C.growing h k stayed) = entry_is C.growing h k stays f.0 p.page in
            let e₂ : r.1 ≡ numbered (suc h) (entry_for C.growing h k went) = entry_is C.growing h k goes f.1 (sym ch.page) in
            let first = replaced tied place re₁ (suc (suc h)) (suc h) u.entries _ e ch.above in
            let is = edits_is ∙ cond-false _ _ _ not in (
              replaced tied i re₂ (suc (suc h)) (suc h) (set u.entries place _) _ e₂ first
                  ∙ ap (λ es. node_words C.growing (suc (suc h)) (on_page (suc h) es)) (places place at_place _ _ ∙ sym (mended_is ∙ cond-false _ _ _ not)),
              cc,
            )

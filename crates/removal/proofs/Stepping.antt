-- What each way out of a removal under a node shows.
use Rattle.std.proofs.Common.{◌≡◌, ℕ, zero, suc, ◌+◌, ◌-◌, ◌<◌, ◌≤◌, true, false, cond, ◌≢◌, List, [], ◌∷◌, ◌++◌, length, drop, is_some, Some, None, Ok, Err, Option, Result, sym, refl, ap, ◌∙◌, subst, arith}
use mathlib.Core.List.Memᴰ
use mathlib.Core.List.Perm
use mathlib.Core.List.{Mem, mem-cons_of_mem, mem-append_right, Nodup, Nodup-cons, Nodup-append}
use Rattle.std.specs.Option.{option_map, ok_or, option_or}
use Rattle.std.specs.List.{flat_map, AllByRecursion, slice_get}
use Rattle.std.proofs.lemmas.List.{drop_all}
use Rattle.std.proofs.lemmas.Option.{none-some, same_Some, slice_get-map, slice_get_within}
use Rattle.page_store.specs.Pages.{Pages, at}
use Rattle.key_class.specs.Class.{Growing, Class}
use Rattle.node.specs.Nodes.{Entry, node_words, without}
use Rattle.node.specs.Reading.{count_in}
use Rattle.node.specs.InMemory.{words_in, Stands}
use Rattle.node.specs.declared.memory.Node.{Node}
use Rattle.node.proofs.Places.{here, count_is}
use Rattle.gist.specs.Tree.{Tree, pages_at, pages_of, words_of, written_at}
use Rattle.gist.specs.Remove.{is_record, without_first, mended, first_removed, remove_under}
use Rattle.gist.specs.Rules.{Ruled, root_least}
use Rattle.gist.specs.Theorems.{StandsOn}
use Rattle.gist.specs.Writes.{below_by, mend_edits, edits_by, edits_under}
use Rattle.gist.proofs.Lists.{all_nth, all_map₂, joined_all}
use Rattle.gist.proofs.Perms.{nth_first, joined_perm}
use Rattle.tree_pages.specs.OneNode.{loaded}
use Rattle.tree_pages.specs.Laid.{on_page, edited}
use Rattle.tree_pages.proofs.Lying.{length_on_page, lies_below, lies_none, lies_node}
use Rattle.tree_pages.proofs.Entries.{numbered}
use Rattle.tree_pages.proofs.Once.{first_apart}
use Rattle.tree_pages.proofs.Laying.{all_from_mem}
use Rattle.tree_pages.proofs.Sets.{sets-++}
use Rattle.removal.specs.Mending.{Changed, Became, Mends}
use Rattle.removal.specs.Under.{Sound, Removed, Outcome, RemovesUnder}
use Rattle.removal.specs.declared.refusal.RemoveRefusal.{RemoveRefusal}
use Rattle.removal.specs.declared.refusal.RemoveRefusal.TheVariants.{NoSuchRecord, NotATree}
use Rattle.removal.proofs.Framing.{all_without, edited_other, same_page, one_fewer, edits_below}
use Rattle.removal.proofs.Joining.{at_class, many_in}

-- Entries of a leaf stand on its page as they are.
on_leaf : {K : Type 0} (es : List (Entry K ℕ)) → on_page {K = K} zero es ≡ es
on_leaf [] = refl
on_leaf {K} (e ∷ es) = ap {B = List (Entry K ℕ)} (λ r. e ∷ r) (on_leaf es)

-- Pages that stand once: those of a node, and those of its others.
module _ {K : Type 0} (h : ℕ) where
  apart_from : (below : List ℕ) (fs : List (Entry K (Tree K h))) → ((a : ℕ) → Mem a below → Mem a (flat_map (pages_at (suc h)) fs) → ⊥)
      → AllByRecursion (λ f. AllByRecursion (λ p. f.link.page ≢ p) below) fs
  apart_from below [] none = tt
  apart_from below (f ∷ fs) none = (
    all_from_mem _ below (λ a m e. none a m ∣ Memᴰ.head (sym e) ∣₁),
    apart_from below fs (λ a m l. none a m (mem-append_right (pages_at (suc h) f) l)),
  )

  -- The child at place i, with what is below it, and the others.
  module _ (u : Tree K (suc h)) (i : ℕ) (e : Entry K (Tree K h)) (there : slice_get u.entries i ≡ Some e) (once : Nodup (pages_of (suc h) u)) where
    beside : Nodup (pages_at (suc h) e ++ flat_map (pages_at (suc h)) (without u.entries i))
    beside = Perm.nodup (joined_perm (pages_at (suc h)) (nth_first u.entries i e there)) (Nodup-cons.0 once).1

    pub once_below : Nodup (pages_of h e.link)
    once_below = (Nodup-append.0 beside).0

    pub own_apart : AllByRecursion (λ p. e.link.page ≢ p) (flat_map (pages_at h) e.link.entries)
    own_apart = first_apart e.link.page (flat_map (pages_at h) e.link.entries) once_below

    pub others_apart : AllByRecursion (λ f. AllByRecursion (λ p. f.link.page ≢ p) (flat_map (pages_at h) e.link.entries)) (without u.entries i)
    others_apart = apart_from (flat_map (pages_at h) e.link.entries) (without u.entries i) (λ a m l. (Nodup-append.0 beside).2 a (mem-cons_of_mem e.link.page m) l)

four_least : (h m : ℕ) → 4 ≤ m → root_least h ≤ m
four_least zero m l = omega arith
four_least (suc h) m l = omega arith

pub sound_below : {K : Type 0} (G : Growing K) (s : Pages) (h : ℕ) (u : Tree K (suc h)) (i : ℕ) (e : Entry K (Tree K h)) → Sound G s (suc h) u → slice_get u.entries i ≡ Some e → Sound G s h e.link
sound_below G s h u i e so there = record {
  lies = lies_below G s h u i e so.lies there;
  least = four_least h (length e.link.entries) (all_nth (Ruled G (suc h)) u.entries i e so.lies.below there).1.0;
  once = once_below h u i e there so.once;
}

-- A node above the leaves, of a tree on pages, that stands in memory.
pub record Above {K : Type 0} (G : Growing K) (s : Pages) (node : Node) (level h : ℕ) (u : Tree K (suc h)) : Type 0 where
  sound : Sound G s (suc h) u
  stands : Stands G node (suc (suc h)) (on_page (suc h) u.entries)
  level_is : level ≡ suc (suc h)

-- What is known of it at the end of a removal,
pub record Finds {K Q : Type 0} (C : Class K Q) (s t : Pages) (node : Node) (level : ℕ) (k : K) (n : ℕ) (r : Result Node RemoveRefusal) : Type 0 where
  pub says : {h : ℕ} {u : Tree K (suc h)} → Above C.growing s node level h u → Outcome C s t k n (suc h) u r

-- and while nothing is found before place i, and nothing is changed.
pub record Looking {K Q : Type 0} (C : Class K Q) (s t : Pages) (node : Node) (level : ℕ) (k : K) (n i : ℕ) : Type 0 where
  pub kept : {h : ℕ} {u : Tree K (suc h)} → Above C.growing s node level h u → t ≡ s
  pub first : {h : ℕ} {u : Tree K (suc h)} → Above C.growing s node level h u
      → first_removed C k h (remove_under C k n h) 0 u.entries ≡ first_removed C k h (remove_under C k n h) i (drop i u.entries)

-- The entry e at that place.
pub record Turn {K Q : Type 0} (C : Class K Q) (s t : Pages) (node : Node) (level : ℕ) (k : K) (n i : ℕ) (e : Entry K ℕ) : Type 0 where
  pub so_far : Looking C s t node level k n i
  pub there : (lv : ℕ) (es : List (Entry K ℕ)) → Stands C.growing node lv es → Some e ≡ slice_get es i

-- The node that a page holds.
stands_in : {K : Type 0} (G : Growing K) {s : Pages} {p : ℕ} {o : Option Node} {node : Node} (h : ℕ) (u : Tree K h) → Sound G s h u → u.page ≡ p → option_map words_in o ≡ loaded s p → o ≡ Some node
    → Stands G node (suc h) (on_page h u.entries)
stands_in G {s} {p} {o} {node} h u so on load read = lies_node G s h u node so.lies (sym (ap (option_map words_in) read) ∙ load ∙ ap (loaded s) (sym on))

module _ {K Q : Type 0} {C : Class K Q} {s t : Pages} {p level : ℕ} {k : K} {n : ℕ} where
  -- It is always there.
  pub unread : {o : Option Node} {r : Result Node RemoveRefusal} → option_map words_in o ≡ loaded s p → o ≡ None → RemovesUnder C s t p level k n r
  unread load none = record { says = λ h u so on lev. absurd (lies_none C.growing s h u so.lies (sym (ap (option_map words_in) none) ∙ load ∙ ap (loaded s) (sym on))) }

  pub by_node : {o : Option Node} {node : Node} {r : Result Node RemoveRefusal} → option_map words_in o ≡ loaded s p → o ≡ Some node → 1 < level → Finds C s t node level k n r → RemovesUnder C s t p level k n r
  by_node {r = r} load read deep finds = record { says = by }
    where
      by : (h : ℕ) (u : Tree K h) → Sound C.growing s h u → u.page ≡ p → level ≡ suc h → Outcome C s t k n h u r
      by zero u so on lev = absurd (omega arith)
      by (suc h) u so on lev = finds.says (record { sound = so; stands = stands_in C.growing (suc h) u so on load read; level_is = lev })

  -- The record is taken out of a leaf.
  pub done_leaf : {X : Growing K} {o : Option Node} {node : Node} {r : Result Node RemoveRefusal} (a : Option Node) → C.growing ≡ X → option_map words_in o ≡ loaded s p → o ≡ Some node → t ≡ s → level ≤ 1
      → ((lv : ℕ) (es : List (Entry K ℕ)) → Stands X node lv es → option_map words_in a ≡ option_map (node_words X lv) (without_first (is_record X k n) es)) → r ≡ ok_or a NoSuchRecord
      → RemovesUnder C s t p level k n r
  done_leaf {X} {o} {node} {r} a tied load read same low out is = record { says = by }
    where
      leaf : (u : Tree K zero) (a : Option Node) (b : Option (List (Entry K ℕ))) → without_first (is_record C.growing k n) u.entries ≡ b → option_map words_in a ≡ option_map (node_words C.growing 1) b
          → Outcome C s t k n zero u (ok_or a NoSuchRecord)
      leaf u None None q f = (refl, ap (option_map (λ (es : List (Entry K ℕ)). record { page = u.page; entries = es })) q, same)
      leaf u None (Some es) q f = absurd (none-some _ f)
      leaf u (Some x) None q f = absurd (none-some _ (sym f))
      leaf u (Some x) (Some es) q f = record {
        node = record { page = u.page; entries = es };
        is = ap (option_map (λ (es : List (Entry K ℕ)). record { page = u.page; entries = es })) q;
        stands = same_Some _ _ f ∙ ap (node_words C.growing 1) (sym (on_leaf es));
        pages = same;
      }

      by : (h : ℕ) (u : Tree K h) → Sound C.growing s h u → u.page ≡ p → level ≡ suc h → Outcome C s t k n h u r
      by zero u so on lev =
          let P : Growing K → Type 0 = λ Y. (lv : ℕ) (es : List (Entry K ℕ)) → Stands Y node lv es → option_map words_in a ≡ option_map (node_words Y lv) (without_first (is_record Y k n) es) in
          subst (Outcome C s t k n zero u) (sym is)
          (leaf u a _ refl
          (at_class tied P out 1 (on_page zero u.entries) (stands_in C.growing zero u so on load read)
          ∙ ap (λ (es : List (Entry K ℕ)). option_map (node_words C.growing 1) (without_first (is_record C.growing k n) es)) (on_leaf u.entries)))
      by (suc h) u so on lev = absurd (omega arith)

module _ {K Q : Type 0} {C : Class K Q} {s t : Pages} {node : Node} {level : ℕ} {k : K} {n : ℕ} where
  pub looking_none : t ≡ s → Looking C s t node level k n 0
  looking_none same = record { kept = λ a. same; first = λ a. refl }

  -- Nothing is found in the end.
  pub nothing : {i : ℕ} → count_in (words_in node) ≤ i → Looking C s t node level k n i → Finds C s t node level k n (Err NoSuchRecord)
  nothing {i} past look = record {
    says = λ {h} {u} a.
        let none : first_removed C k h (remove_under C k n h) 0 u.entries ≡ None =
        look.first a ∙ ap (first_removed C k h (remove_under C k n h) i) (drop_all i u.entries (omega (arith, many_in C.growing (suc (suc h)) (suc h) u.entries a.stands))) in
        (refl, ap (option_map (λ (c : ℕ × Tree K h). record { page = u.page; entries = mended C h k u.entries c.0 c.1 })) none, look.kept a);
  }

  -- At a place within there is an entry.
  pub no_entry : {X : Growing K} {i : ℕ} {o : Option (Entry K ℕ)} {r : Result Node RemoveRefusal} → C.growing ≡ X → i < count_in (words_in node)
      → ((lv : ℕ) (es : List (Entry K ℕ)) → Stands X node lv es → o ≡ slice_get es i) → o ≡ None → Finds C s t node level k n r
  no_entry {X} {i} {o} tied inside f none = record {
    says = λ {h} {u} a.
        let x = here (on_page (suc h) u.entries) i (omega (arith, count_is C.growing _ _ (words_in node) a.stands)) in
        absurd (none-some _ (sym none ∙ at_class tied (λ Y. (lv : ℕ) (es : List (Entry K ℕ)) → Stands Y node lv es → o ≡ slice_get es i) f _ _ a.stands ∙ x.there));
  }

  pub turn : {X : Growing K} {i : ℕ} {o : Option (Entry K ℕ)} {e : Entry K ℕ} → C.growing ≡ X → Looking C s t node level k n i
      → ((lv : ℕ) (es : List (Entry K ℕ)) → Stands X node lv es → o ≡ slice_get es i) → o ≡ Some e → Turn C s t node level k n i e
  turn {X} {i} {o} tied look f read = record {
    so_far = look;
    there = λ lv es st. sym read ∙ at_class tied (λ Y. (lv : ℕ) (es : List (Entry K ℕ)) → Stands Y node lv es → o ≡ slice_get es i) f lv es st;
  }

-- The child that the entry e, at place i of a node's page, leads to.
record Child {K : Type 0} (h : ℕ) (es : List (Entry K (Tree K h))) (i : ℕ) (e : Entry K ℕ) : Type 0 where
  it : Entry K (Tree K h)
  there : slice_get es i ≡ Some it
  left : drop i es ≡ it ∷ drop (i + 1) es
  is : e ≡ numbered (suc h) it

child_at : {K : Type 0} (h : ℕ) (es : List (Entry K (Tree K h))) (i : ℕ) (e : Entry K ℕ) → Some e ≡ slice_get (on_page (suc h) es) i → Child h es i e
child_at h es i e at =
    let x = here es i (omega (arith, slice_get_within (on_page (suc h) es) i e (sym at), length_on_page (suc h) es)) in
    record { it = x.it; there = x.there; left = x.left; is = same_Some _ _ (at ∙ slice_get-map (numbered (suc h)) es i ∙ ap (option_map (numbered (suc h))) x.there) }

module _ {K Q : Type 0} {C : Class K Q} {s t : Pages} {node : Node} {level : ℕ} {k : K} {n i : ℕ} {e : Entry K ℕ} (w : Turn C s t node level k n i e) {h : ℕ} {u : Tree K (suc h)} (a : Above C.growing s node level h u) where
  child : Child h u.entries i e
  child = child_at h u.entries i e (w.there (suc (suc h)) (on_page (suc h) u.entries) a.stands)

  abbrev f : Entry K (Tree K h)
  f = child.it

  page_is : f.link.page ≡ e.link
  page_is = sym (ap (λ (g : Entry K ℕ). g.link) child.is)

  -- The search at place i, by what the test says and by what comes of the child.
  turned : first_removed C k h (remove_under C k n h) 0 u.entries
      ≡ option_or (cond (C.covers e.key k) (option_map (λ v. (i, v)) (remove_under C k n h f.link)) None) (first_removed C k h (remove_under C k n h) (i + 1) (drop (i + 1) u.entries))
  turned =
      w.so_far.first a
      ∙ ap (first_removed C k h (remove_under C k n h) i) child.left
      ∙ ap (λ (y : K). option_or (cond (C.covers y k) (option_map (λ (v : Tree K h). (i, v)) (remove_under C k n h f.link)) None) (first_removed C k h (remove_under C k n h) (i + 1) (drop (i + 1) u.entries)))
      (sym (ap (λ (g : Entry K ℕ). g.key) child.is))

  -- What a removal under the child says.
  below : {m : Pages} {r : Result Node RemoveRefusal} → RemovesUnder C t m e.link (level - 1) k n r → Outcome C s m k n h f.link r
  below {m} {r} under =
      (subst (λ (z : Pages). RemovesUnder C z m e.link (level - 1) k n r) (w.so_far.kept a) under).says h f.link (sound_below C.growing s h u i f a.sound child.there) page_is (omega (arith, a.level_is))

  -- The child has become x, and the node is mended.
  module _ (covers : true ≡ C.covers e.key k) {m : Pages} {x : Node} (lost : Removed C s m k n h f.link x) where
    -- What is not below the child is as it was.
    unchanged : (q : ℕ) → AllByRecursion (λ a. q ≢ a) (flat_map (pages_at h) f.link.entries) → at m q ≡ at s q
    unchanged q a = ap (λ (z : Pages). at z q) lost.pages ∙ edited_other s (edits_under C k n h f.link) q (edits_below C k n (λ b. q ≢ b) h f.link a)

    words_there : AllByRecursion (λ g. StandsOn s (written_at C.growing (suc h) g)) u.entries
    words_there = joined_all _ (written_at C.growing (suc h)) u.entries a.sound.lies.words.1

    abbrev On : Pages → Entry K (Tree K h) → Type 0
    On z g = (at z g.link.page ≡ Some (words_of C.growing h g.link)) × (length g.link.entries ≤ 12)

    changed : Changed C.growing m node i (record { page = e.link; node = x }) h u lost.node
    changed = record {
      above = a.stands;
      child = lost.stands;
      page = same_page C k n h f.link lost.node lost.is ∙ page_is;
      held = ap (λ (q : ℕ). is_some (at m q)) (sym page_is) ∙ ap is_some (unchanged f.link.page (own_apart h u i f child.there a.sound.once) ∙ (all_nth _ u.entries i f words_there child.there).0);
      within = slice_get_within u.entries i f child.there;
      more = a.sound.least;
      some = omega (arith, one_fewer C k n h f.link lost.node lost.is, all_nth (Ruled C.growing (suc h)) u.entries i f a.sound.lies.below child.there);
      stand = all_map₂ (λ (g : Entry K (Tree K h)) (c : On s g) (b : AllByRecursion (λ q. g.link.page ≢ q) (flat_map (pages_at h) f.link.entries)). (unchanged g.link.page b ∙ c.0, c.1)) (without u.entries i)
          (all_without (On s) u.entries i (all_map₂ (λ (g : Entry K (Tree K h)) (c : StandsOn s (written_at C.growing (suc h) g)) (b : Ruled C.growing (suc h) g). (c.0, b.1.1)) u.entries words_there a.sound.lies.below))
          (others_apart h u i f child.there a.sound.once);
    }

    first_is : first_removed C k h (remove_under C k n h) 0 u.entries ≡ Some (i, lost.node)
    first_is = rw (← covers, lost.is) at turned

    whole : (z : Pages) (o : Option Node) → Became C.growing m z (suc h) (mended C h k u.entries i lost.node) (mend_edits C h k u.entries i lost.node) o
        → Outcome C s z k n (suc h) u (ok_or o NotATree)
    whole z None b = absurd b
    whole z (Some y) b = record {
      node = record { page = u.page; entries = mended C h k u.entries i lost.node };
      is = ap (option_map (λ (c : ℕ × Tree K h). record { page = u.page; entries = mended C h k u.entries c.0 c.1 })) first_is;
      stands = b.0;
      pages = b.1 ∙ ap (λ (c : Pages). edited c (mend_edits C h k u.entries i lost.node)) lost.pages
          ∙ sym (sets-++ s (mend_edits C h k u.entries i lost.node) (edits_under C k n h f.link))
          ∙ ap (λ (o : Option (Entry K (Tree K h))). edited s (mend_edits C h k u.entries i lost.node ++ below_by h (edits_under C k n h) o)) (sym child.there)
          ∙ ap (λ (o : Option (ℕ × Tree K h)). edited s (edits_by h (λ j v. mend_edits C h k u.entries j v ++ below_by h (edits_under C k n h) (slice_get u.entries j)) o)) (sym first_is);
    }

module _ {K Q : Type 0} {C : Class K Q} {s t : Pages} {node : Node} {level : ℕ} {k : K} {n i : ℕ} {e : Entry K ℕ} (w : Turn C s t node level k n i e) where
  pub passed : false ≡ C.covers e.key k → Looking C s t node level k n (i + 1)
  passed out = record { kept = w.so_far.kept; first = λ a. rw (← out) at (turned w a) }

  pub missed : {m : Pages} {x : RemoveRefusal} → true ≡ C.covers e.key k → RemovesUnder C t m e.link (level - 1) k n (Err x) → Looking C s m node level k n (i + 1)
  missed covers under = record { kept = λ a. (below w a under).2; first = λ a. rw (← covers, (below w a under).1) at (turned w a) }

  pub not_a_tree : {m : Pages} {x : RemoveRefusal} {r : Result Node RemoveRefusal} → x ≡ NotATree → RemovesUnder C t m e.link (level - 1) k n (Err x) → Finds C s m node level k n r
  not_a_tree is under = record { says = λ a. let b = (below w a under).0 in absurd (cc) }

  pub done : {m z : Pages} {x : Node} {o : Option Node} {r : Result Node RemoveRefusal} → true ≡ C.covers e.key k → RemovesUnder C t m e.link (level - 1) k n (Ok x)
      → Mends C m z node i (record { page = e.link; node = x }) o → r ≡ ok_or o NotATree → Finds C s z node level k n r
  done {z = z} {o = o} covers under mends is = record {
    says = λ {h} {u} a.
        let lost = below w a under in
        subst (Outcome C s z k n (suc h) u) (sym is) (whole w a covers lost z o (mends.says h u lost.node k (changed w a covers lost)));
  }

-- A removal takes its record away, keeps the rules of pages, and gives pages back.
use Rattle.std.proofs.Common.{◌≡◌, ℕ, zero, suc, ◌+◌, ◌*◌, ◌<◌, ◌≤◌, Bool, true, false, cond, eqb, leb, List, [], ◌∷◌, ◌++◌, length, set, Some, None, Option, sym, refl, ap, ◌∙◌, subst, arith, length-append, length-set}
use mathlib.Core.List.Perm
use mathlib.Core.List.{Perm, perm_middle, perm_append_comm}
use Rattle.std.specs.Option.{option_map, option_or}
use Rattle.std.specs.List.{flat_map, insert as with_at, remove as without, AllByRecursion, slice_get}
use Rattle.std.proofs.lemmas.List.{append-nil}
use Rattle.std.proofs.lemmas.Bool.{leb-true, leb-false, eqb-true, eq-eqb, and_parts, and_from, both_ways}
use Rattle.key_class.specs.Class.{Growing, Coded, Class, Lawful}
use Rattle.node.specs.Nodes.{Entry, keys, stay, go}
use Rattle.gist.specs.Tree.{Link, Tree, Gist, empty, root, Written, records_at, records_of, records, pages, words_of, written_at, written, union_of, entry_for}
use Rattle.gist.specs.Insert.{least_growth}
use Rattle.gist.specs.Remove.{same_words, is_record, without_first, joined_to, mended, first_removed, remove_under, lowered, removed}
use Rattle.gist.specs.Rules.{Between, Ruled, root_least, PageRules}
use Rattle.gist.specs.Theorems.{Differ, Taken, RemoveTakes}
use Rattle.gist.specs.Writes.{below_by, Edits, page_edit, join_edits, mend_edits, edits_by, edits_under, root_edits, edits_of, remove_edits, holding, freed, TakesEditing, Edited, RemoveEdits}
use Rattle.gist.proofs.Lists.{all_map, all_map₂, all-++, all_joined, all_stay, all_go, all_set, all_nth, nth_there}
use Rattle.std.proofs.lemmas.Option.{none-some}
use Rattle.std.proofs.lemmas.Option.{same_Some}
use Rattle.std.proofs.lemmas.Grind.{flat_map-append}
use Rattle.gist.proofs.Perms.{perm_eq, perm_swap, nth_first, set_first, joined_perm, joined_stay_go}
use Rattle.gist.proofs.Bags.{v, ◌⊕◌, bag, bag_by}
use Rattle.gist.proofs.Differing.{differ_not, differ_as, differ_beside, differ_more}
use Rattle.gist.proofs.Searching.{covers_below}
use Rattle.gist.proofs.Nodes.{entry_ruled, within, split_sizes}
use Rattle.gist.proofs.Paged.{perm_cancel, pages_differ}

module _ {A : Type 0} where
  -- What without_first comes to.
  abbrev Dropped : (A → Bool) → List A → Option (List A) → Type 0
  Dropped p xs None = AllByRecursion (λ x. p x ≡ false) xs
  Dropped p xs (Some ys) = (x : A) × (p x ≡ true) × Perm xs (x ∷ ys) × (length xs ≡ suc (length ys))

  dropped : (p : A → Bool) (xs : List A) → Dropped p xs (without_first p xs)
  dropped p [] = tt
  dropped p (x ∷ xs) = step (p x) refl (without_first p xs) (dropped p xs)
    where
      step : (b : Bool) → p x ≡ b → (o : Option (List A)) → Dropped p xs o → Dropped p (x ∷ xs) (cond b (Some xs) (option_map (λ ys. x ∷ ys) o))
      step true e o d = (x, e, Perm.refl _, refl)
      step false e None d = (e, d)
      step false e (Some ys) (y, q, r, n) = (y, q, Perm.trans (Perm.cons x r) (Perm.swap y x ys), omega arith)

  with_first : (xs : List A) (i : ℕ) (x : A) → Perm (with_at xs i x) (x ∷ xs)
  with_first [] zero x = Perm.refl _
  with_first [] (suc i) x = Perm.refl _
  with_first (y ∷ xs) zero x = Perm.refl _
  with_first (y ∷ xs) (suc i) x = Perm.trans (Perm.cons y (with_first xs i x)) (Perm.swap x y xs)

  length_with : (xs : List A) (i : ℕ) (x : A) → length (with_at xs i x) ≡ suc (length xs)
  length_with [] zero x = refl
  length_with [] (suc i) x = refl
  length_with (y ∷ xs) zero x = refl
  length_with (y ∷ xs) (suc i) x = ap suc (length_with xs i x)

  all_with : (P : A → Type 0) (xs : List A) (i : ℕ) (x : A) → AllByRecursion P xs → P x → AllByRecursion P (with_at xs i x)
  all_with P [] zero x h p = (p, tt)
  all_with P [] (suc i) x h p = (p, tt)
  all_with P (y ∷ xs) zero x h p = (p, h)
  all_with P (y ∷ xs) (suc i) x h p = (h.0, all_with P xs i x h.1 p)

  all_without : (P : A → Type 0) (xs : List A) (i : ℕ) → AllByRecursion P xs → AllByRecursion P (without xs i)
  all_without P [] zero h = tt
  all_without P [] (suc i) h = tt
  all_without P (y ∷ xs) zero h = h.1
  all_without P (y ∷ xs) (suc i) h = (h.0, all_without P xs i h.1)

  length_without : (xs : List A) (i : ℕ) (x : A) → slice_get xs i ≡ Some x → length xs ≡ suc (length (without xs i))
  length_without [] i x e = absurd (none-some _ e)
  length_without (y ∷ xs) zero x e = refl
  length_without (y ∷ xs) (suc i) x e = ap suc (length_without xs i x e)

  all_true : (P : A → Type 0) → ((a : A) → P a) → (xs : List A) → AllByRecursion P xs
  all_true P f [] = tt
  all_true P f (x ∷ xs) = (f x, all_true P f xs)

same_head : {p q : ℕ} {xs ys : List ℕ} → q ≡ p → Perm xs ys → Perm (p ∷ xs) (q ∷ ys)
same_head {p} e h = rw e (Perm.cons p h)

words_same : (xs ys : List ℕ) → same_words xs ys ≡ true → xs ≡ ys
words_same [] [] e = refl
words_same [] (y ∷ ys) e = cc
words_same (x ∷ xs) [] e = cc
words_same (x ∷ xs) (y ∷ ys) e =
    let p : (eqb x y ≡ true) × (same_words xs ys ≡ true) = and_parts (eqb x y) (same_words xs ys) e in
    let a : x ≡ y = eqb-true x y p.0 in
    let b : xs ≡ ys = words_same xs ys p.1 in cc

same_as_itself : (xs : List ℕ) → same_words xs xs ≡ true
same_as_itself [] = refl
same_as_itself (x ∷ xs) = and_from (eqb x x) (same_words xs xs) (eq-eqb x x refl) (same_as_itself xs)

-- A leaf has no pages below.
none_below : {K : Type 0} (G : Growing K) (es : List (Entry K ℕ)) → flat_map (written_at G 0) es ≡ []
none_below G [] = refl
none_below G (e ∷ es) = none_below G es

module _ {K : Type 0} (G : Growing K) where
  -- The pages of z and those given back are the pages of w: the ones written again cancel out.
  less_pages : (w z : Gist K) (touched again back : List ℕ) → Perm touched (again ++ back) → Differ (written G w) (written G z) touched again → Perm (pages z ++ back) (pages w)
  less_pages w z touched again back split differ = perm_cancel again
      (Perm.trans (perm_swap again (pages z) back)
      (Perm.trans (Perm.append_left (pages z) (Perm.symm split))
      (Perm.trans (pages_differ G w z differ) (perm_append_comm (pages w) again))))

  pub pages_taken : {w z : Gist K} {k : K} {n : ℕ} {edits : Edits} (a : TakesEditing G w z k n edits) → Perm (pages z ++ a.takes.given_back) (pages w)
  pages_taken {w} {z} a = less_pages w z a.takes.touched a.takes.written_again a.takes.given_back a.takes.split a.takes.differ

module _ {K Q : Type 0} (C : Class K Q) (coded : Coded C.growing) (law : Lawful C) (k : K) (n : ℕ) where
  abbrev G : Growing K
  G = C.growing

  abbrev this : Entry K ℕ
  this = record { key = k; link = n }

  is_this : (e : Entry K ℕ) → is_record G k n e ≡ true → e ≡ this
  is_this e r =
      let p : (eqb e.link n ≡ true) × (same_words (G.squeeze e.key) (G.squeeze k) ≡ true) = and_parts _ _ r in
      let a : e.link ≡ n = eqb-true e.link n p.0 in
      let b : G.squeeze e.key ≡ G.squeeze k = words_same _ _ p.1 in
      let c : e.key ≡ k = same_Some _ _ (sym (coded.round_trip e.key) ∙ ap G.unsqueeze b ∙ coded.round_trip k) in
      λ i. record { key = c i; link = a i }

  this_is : is_record G k n this ≡ true
  this_is = and_from (eqb n n) (same_words (G.squeeze k) (G.squeeze k)) (eq-eqb n n refl) (same_as_itself (G.squeeze k))

  not_this : (r : Entry K ℕ) → is_record G k n r ≡ false → r ≡ this → ⊥
  not_this r f e = both_ways (is_record G k n this) (subst (λ (s : Entry K ℕ). is_record G k n s ≡ false) e f) this_is

  -- Pages old of the first gave way to pages new of the second, and the others of old are gone; edits say the same.
  record Fewer (first second : Written) (most : ℕ) (edits : Edits) : Type 0 where
    old : List ℕ
    new : List ℕ
    gone : List ℕ
    differs : Differ first second old new
    splits : Perm old (new ++ gone)
    edits_are : Perm edits (holding differs.come ++ freed gone)
    few : length old ≤ most

  -- What a removal from a node comes to. Fewer and edits are of the pages below the node, its own not among them.
  record Lost (h : ℕ) (t u : Tree K h) (edits : Edits) : Type 0 where
    records_less : Perm (records_of h t) (this ∷ records_of h u)
    same_page : u.page ≡ t.page
    fewer : Fewer (flat_map (written_at G h) t.entries) (flat_map (written_at G h) u.entries) (2 * h) edits
    at_most : length u.entries ≤ length t.entries
    at_least : length t.entries ≤ length u.entries + 1
    below : AllByRecursion (Ruled G h) u.entries

  abbrev Result : (h : ℕ) → Tree K h → Edits → Option (Tree K h) → Type 0
  Result h t edits None = AllByRecursion (λ r. is_record G k n r ≡ false) (records_of h t)
  Result h t edits (Some u) = Lost h t u edits

  leaf : (t : Tree K 0) → Result 0 t [] (remove_under C k n 0 t)
  leaf t = step (without_first (is_record G k n) t.entries) (dropped (is_record G k n) t.entries)
    where
      step : (o : Option (List (Entry K ℕ))) → Dropped (is_record G k n) t.entries o → Result 0 t [] (option_map (λ es. record { page = t.page; entries = es }) o)
      step None d = all_joined _ (records_at 0) t.entries (all_map (λ e x. (x, tt)) t.entries d)
      step (Some es) (x, q, p, l) = record {
        records_less = rw (← is_this x q) (joined_perm (records_at 0) p);
        same_page = refl;
        fewer = record {
          old = [];
          new = [];
          gone = [];
          differs = rw (none_below G t.entries, none_below G es) (differ_not []);
          splits = Perm.refl [];
          edits_are = Perm.refl [];
          few = omega arith;
        };
        at_most = omega arith;
        at_least = omega arith;
        below = all_true _ (λ e. tt) es;
      }

  -- What the entries of a page above come to.
  record Mends (h : ℕ) (es us : List (Entry K (Tree K h))) (edits : Edits) : Type 0 where
    records_less : Perm (flat_map (records_at (suc h)) es) (this ∷ flat_map (records_at (suc h)) us)
    fewer : Fewer (flat_map (written_at G (suc h)) es) (flat_map (written_at G (suc h)) us) (2 * suc h) edits
    at_most : length us ≤ length es
    at_least : length es ≤ length us + 1
    below : AllByRecursion (Ruled G (suc h)) us

  -- The page of a node with its words.
  abbrev own : (h : ℕ) → Tree K h → Written
  own h t = (t.page, words_of G h t) ∷ []

  -- Of the entries es, that at place i leads to x now.
  module _ (h : ℕ) (es : List (Entry K (Tree K h))) (rules : AllByRecursion (Ruled G (suc h)) es) (i : ℕ) (e : Entry K (Tree K h)) (at : slice_get es i ≡ Some e)
      (x : Tree K h) (lost_edits : Edits) (lost : Lost h e.link x lost_edits) where
    abbrev lost_old : List ℕ
    lost_old = lost.fewer.old

    abbrev lost_new : List ℕ
    lost_new = lost.fewer.new

    abbrev lost_gone : List ℕ
    lost_gone = lost.fewer.gone

    e_rule : Ruled G (suc h) e
    e_rule = all_nth _ es i e rules at

    thick : 4 ≤ length x.entries → Mends h es (set es i (entry_for G h k x)) (page_edit G h x ∷ lost_edits)
    thick l = record {
      records_less = Perm.trans (joined_perm (records_at (suc h)) (nth_first es i e at))
          (Perm.trans (Perm.append_right (flat_map (records_at (suc h)) (without es i)) lost.records_less)
          (Perm.cons this (Perm.symm (joined_perm (records_at (suc h)) (set_first es i e (entry_for G h k x) at)))));
      fewer = record {
        old = e.link.page ∷ lost_old;
        new = x.page ∷ lost_new;
        gone = lost_gone;
        differs = differ_as (differ_beside (differ_more lost.fewer.differs (own h e.link) (own h x)) (flat_map (written_at G (suc h)) (without es i)))
            (joined_perm (written_at G (suc h)) (nth_first es i e at))
            (joined_perm (written_at G (suc h)) (set_first es i e (entry_for G h k x) at))
            (Perm.refl _) (Perm.refl _);
        splits = same_head lost.same_page lost.fewer.splits;
        edits_are = Perm.cons (page_edit G h x) lost.fewer.edits_are;
        few = omega (arith, lost.fewer.few);
      };
      at_most = simp length-set (omega arith);
      at_least = simp length-set (omega arith);
      below = all_set _ es i _ rules (entry_ruled G h k x (record { size = (l, omega (arith, lost.at_most, e_rule.1)); below = lost.below }));
    }

    -- The partner f stands at place j of the others.
    module _ (j : ℕ) (f : Entry K (Tree K h)) (by : slice_get (without es i) j ≡ Some f) where
      abbrev rest : List (Entry K (Tree K h))
      rest = without (without es i) j

      abbrev both : List (Entry K (Link K h))
      both = f.link.entries ++ x.entries

      pair : {B : Type 0} (F : Entry K (Tree K h) → List B) → Perm (flat_map F es) (F e ++ (F f ++ flat_map F rest))
      pair F = Perm.trans (joined_perm F (nth_first es i e at)) (Perm.append_left (F e) (joined_perm F (nth_first (without es i) j f by)))

      f_rule : Ruled G (suc h) f
      f_rule = all_nth _ (without es i) j f (all_without _ es i rules) by

      both_below : AllByRecursion (Ruled G h) both
      both_below = all-++ _ f.link.entries x.entries f_rule.2 lost.below

      both_length : length both ≡ length f.link.entries + length x.entries
      both_length = length-append f.link.entries x.entries

      -- The records of the pair, once the record is gone.
      records_pair : Perm (flat_map (records_at (suc h)) es)
          (this ∷ ((flat_map (records_at h) f.link.entries ++ flat_map (records_at h) x.entries) ++ flat_map (records_at (suc h)) rest))
      records_pair = Perm.trans (pair (records_at (suc h)))
          (Perm.trans (bag_by (records_of h f.link ∷ flat_map (records_at (suc h)) rest ∷ []) lost.records_less (v 0 ⊕ v 1 ⊕ v 2) (v 0 ⊕ v 1 ⊕ v 2) refl)
          (bag ((this ∷ []) ∷ records_of h x ∷ records_of h f.link ∷ flat_map (records_at (suc h)) rest ∷ []) ((v 0 ⊕ v 1) ⊕ v 2 ⊕ v 3) (v 0 ⊕ (v 2 ⊕ v 1) ⊕ v 3) refl))

      abbrev one : Tree K h
      one = record { page = f.link.page; entries = both }

      abbrev below_of : Tree K h → Written
      below_of t = flat_map (written_at G h) t.entries

      abbrev beside : Written
      beside = flat_map (written_at G (suc h)) rest

      first_pages : Perm (flat_map (written_at G (suc h)) es) ((own h e.link ++ own h f.link) ++ (below_of e.link ++ (below_of f.link ++ beside)))
      first_pages = Perm.trans (pair (written_at G (suc h)))
          (bag (own h e.link ∷ below_of e.link ∷ own h f.link ∷ below_of f.link ∷ beside ∷ []) ((v 0 ⊕ v 1) ⊕ (v 2 ⊕ v 3) ⊕ v 4) ((v 0 ⊕ v 2) ⊕ v 1 ⊕ v 3 ⊕ v 4) refl)

      one_pages : Perm (flat_map (written_at G (suc h)) (set (without es i) j (entry_for G h k one))) (own h one ++ (below_of x ++ (below_of f.link ++ beside)))
      one_pages = Perm.trans (joined_perm (written_at G (suc h)) (set_first (without es i) j f (entry_for G h k one) by))
          (Perm.trans (perm_eq (ap (λ (r : Written). own h one ++ (r ++ beside)) (flat_map-append (written_at G h) f.link.entries x.entries)))
          (bag (own h one ∷ below_of f.link ∷ below_of x ∷ beside ∷ []) (v 0 ⊕ (v 1 ⊕ v 2) ⊕ v 3) (v 0 ⊕ v 2 ⊕ v 1 ⊕ v 3) refl))

      into_one : length both ≤ 12 → Mends h es (set (without es i) j (entry_for G h k one)) ((x.page, None) ∷ page_edit G h one ∷ lost_edits)
      into_one l = record {
        records_less = Perm.trans records_pair
            (Perm.cons this (rw (← flat_map-append (records_at h) f.link.entries x.entries)
            (Perm.symm (joined_perm (records_at (suc h)) (set_first (without es i) j f (entry_for G h k one) by)))));
        fewer = record {
          old = e.link.page ∷ f.link.page ∷ lost_old;
          new = f.link.page ∷ lost_new;
          gone = e.link.page ∷ lost_gone;
          differs = differ_as (differ_more (differ_beside lost.fewer.differs (below_of f.link ++ beside)) (own h e.link ++ own h f.link) (own h one))
              first_pages one_pages (Perm.refl _) (Perm.refl _);
          splits = Perm.trans (Perm.cons e.link.page (Perm.cons f.link.page lost.fewer.splits))
              (bag ((e.link.page ∷ []) ∷ (f.link.page ∷ []) ∷ lost_new ∷ lost_gone ∷ []) (v 0 ⊕ v 1 ⊕ v 2 ⊕ v 3) ((v 1 ⊕ v 2) ⊕ v 0 ⊕ v 3) refl);
          edits_are = rw lost.same_page (Perm.trans (Perm.cons _ (Perm.cons (page_edit G h one) lost.fewer.edits_are))
              (bag (freed (e.link.page ∷ []) ∷ (page_edit G h one ∷ []) ∷ holding lost.fewer.differs.come ∷ freed lost_gone ∷ []) (v 0 ⊕ v 1 ⊕ v 2 ⊕ v 3) ((v 1 ⊕ v 2) ⊕ v 0 ⊕ v 3) refl));
          few = omega (arith, lost.fewer.few);
        };
        at_most = simp length-set (omega (arith, length_without es i e at));
        at_least = simp length-set (omega (arith, length_without es i e at));
        below = all_set _ (without es i) j _ (all_without _ es i rules)
            (entry_ruled G h k one (record { size = (omega (arith, both_length, f_rule.1), l); below = both_below }));
      }

      abbrev marks : List Bool
      marks = C.split (keys both)

      abbrev stayed : Tree K h
      stayed = record { page = f.link.page; entries = stay marks both }

      abbrev went : Tree K h
      went = record { page = x.page; entries = go marks both }

      abbrev us : List (Entry K (Tree K h))
      us = with_at (set (without es i) j (entry_for G h k stayed)) i (entry_for G h k went)

      two : {B : Type 0} (F : Entry K (Tree K h) → List B) → Perm (flat_map F us) (F (entry_for G h k went) ++ (F (entry_for G h k stayed) ++ flat_map F rest))
      two F = Perm.trans (joined_perm F (with_first (set (without es i) j (entry_for G h k stayed)) i (entry_for G h k went)))
          (Perm.append_left (F (entry_for G h k went)) (joined_perm F (set_first (without es i) j f (entry_for G h k stayed) by)))

      shared : {B : Type 0} (F : Entry K (Link K h) → List B) → Perm (flat_map F f.link.entries ++ flat_map F x.entries) (flat_map F (stay marks both) ++ flat_map F (go marks both))
      shared F = rw (← flat_map-append F f.link.entries x.entries) (Perm.symm (joined_stay_go F marks both))

      two_pages : Perm (flat_map (written_at G (suc h)) us) ((own h went ++ own h stayed) ++ (below_of x ++ (below_of f.link ++ beside)))
      two_pages = Perm.trans (two (written_at G (suc h)))
          (Perm.trans (bag (own h went ∷ below_of went ∷ own h stayed ∷ below_of stayed ∷ beside ∷ []) ((v 0 ⊕ v 1) ⊕ (v 2 ⊕ v 3) ⊕ v 4) ((v 3 ⊕ v 1) ⊕ v 0 ⊕ v 2 ⊕ v 4) refl)
          (Perm.trans (bag_by (own h went ∷ own h stayed ∷ beside ∷ []) (Perm.symm (shared (written_at G h))) (v 0 ⊕ v 1 ⊕ v 2 ⊕ v 3) (v 0 ⊕ v 1 ⊕ v 2 ⊕ v 3) refl)
          (bag (own h went ∷ own h stayed ∷ below_of f.link ∷ below_of x ∷ beside ∷ []) ((v 2 ⊕ v 3) ⊕ v 0 ⊕ v 1 ⊕ v 4) ((v 0 ⊕ v 1) ⊕ v 3 ⊕ v 2 ⊕ v 4) refl)))

      into_two : length x.entries ≤ 3 → 12 < length both → Mends h es us (page_edit G h went ∷ page_edit G h stayed ∷ lost_edits)
      into_two thin many = record {
        records_less = Perm.trans records_pair
            (Perm.cons this
            (Perm.trans (Perm.append_right (flat_map (records_at (suc h)) rest) (shared (records_at h)))
            (Perm.trans (bag (records_of h stayed ∷ records_of h went ∷ flat_map (records_at (suc h)) rest ∷ []) ((v 0 ⊕ v 1) ⊕ v 2) (v 1 ⊕ v 0 ⊕ v 2) refl)
            (Perm.symm (two (records_at (suc h)))))));
        fewer = record {
          old = e.link.page ∷ f.link.page ∷ lost_old;
          new = x.page ∷ f.link.page ∷ lost_new;
          gone = lost_gone;
          differs = differ_as (differ_more (differ_beside lost.fewer.differs (below_of f.link ++ beside)) (own h e.link ++ own h f.link) (own h went ++ own h stayed))
              first_pages two_pages (Perm.refl _) (Perm.refl _);
          splits = same_head lost.same_page (Perm.cons f.link.page lost.fewer.splits);
          edits_are = Perm.cons (page_edit G h went) (Perm.cons (page_edit G h stayed) lost.fewer.edits_are);
          few = omega (arith, lost.fewer.few);
        };
        at_most = simp (length_with, length-set) (omega (arith, length_without es i e at));
        at_least = simp (length_with, length-set) (omega (arith, length_without es i e at));
        below = all_with _ _ i _
            (all_set _ (without es i) j _ (all_without _ es i rules) (entry_ruled G h k stayed (record { size = sizes.0; below = all_stay _ marks both both_below })))
            (entry_ruled G h k went (record { size = sizes.1; below = all_go _ marks both both_below }));
      }
        where
          sizes : Between 4 12 (length (stay marks both)) × Between 4 12 (length (go marks both))
          sizes = split_sizes C law both many (omega (arith, both_length, f_rule.1))

    with_partner : (j : ℕ) → length x.entries ≤ 3 → (f : Entry K (Tree K h)) × (slice_get (without es i) j ≡ Some f) →
        Mends h es (joined_to C h k (without es i) i x j (slice_get (without es i) j)) (join_edits C h x (slice_get (without es i) j) ++ lost_edits)
    with_partner j thin (f, by) = rw by (step (leb (length (both j f by)) 12) refl)
      where
        step : (b : Bool) → leb (length (both j f by)) 12 ≡ b →
            Mends h es (cond b (set (without es i) j (entry_for G h k (one j f by))) (us j f by))
            (cond b ((x.page, None) ∷ page_edit G h (one j f by) ∷ []) (page_edit G h (went j f by) ∷ page_edit G h (stayed j f by) ∷ []) ++ lost_edits)
        step true q = into_one j f by (leb-true _ 12 q)
        step false q = into_two j f by thin (leb-false _ 12 q)

    mends : 2 ≤ length es → Mends h es (mended C h k es i x) (mend_edits C h k es i x ++ lost_edits)
    mends l = step (leb 4 (length x.entries)) refl
      where
        j : ℕ
        j = least_growth G (union_of G k x.entries) (without es i)

        there : (f : Entry K (Tree K h)) × (slice_get (without es i) j ≡ Some f)
        there = nth_there (without es i) j (within G (union_of G k x.entries) (without es i) (omega (arith, length_without es i e at)))

        step : (b : Bool) → leb 4 (length x.entries) ≡ b →
            Mends h es (cond b (set es i (entry_for G h k x)) (joined_to C h k (without es i) i x j (slice_get (without es i) j)))
            (cond b (page_edit G h x ∷ []) (join_edits C h x (slice_get (without es i) j)) ++ lost_edits)
        step true q = thick (leb-true 4 _ q)
        step false q = with_partner j (omega (arith, leb-false 4 (length x.entries) q)) there

  -- The first child from which the record could be removed.
  abbrev First : (h : ℕ) → (Tree K h → Option (Tree K h)) → ℕ → List (Entry K (Tree K h)) → Option (ℕ × Tree K h) → Type 0
  First h below i es None = AllByRecursion (λ e. C.covers e.key k ≡ true → below e.link ≡ None) es
  First h below i es (Some c) = (j : ℕ) × (e : Entry K (Tree K h)) × (c.0 ≡ i + j) × (slice_get es j ≡ Some e) × (below e.link ≡ Some c.1)

  first : (h : ℕ) (below : Tree K h → Option (Tree K h)) (i : ℕ) (es : List (Entry K (Tree K h))) → First h below i es (first_removed C k h below i es)
  first h below i [] = tt
  first h below i (e ∷ es) = step (C.covers e.key k) refl (below e.link) refl (first_removed C k h below (i + 1) es) (first h below (i + 1) es)
    where
      later : (r : Option (ℕ × Tree K h)) → (C.covers e.key k ≡ true → below e.link ≡ None) → First h below (i + 1) es r → First h below i (e ∷ es) r
      later None d f = (d, f)
      later (Some c) d (j, e₁, p, q, s) = (suc j, e₁, omega arith, q, s)

      step : (b : Bool) → C.covers e.key k ≡ b → (s : Option (Tree K h)) → below e.link ≡ s → (r : Option (ℕ × Tree K h)) → First h below (i + 1) es r →
          First h below i (e ∷ es) (option_or (cond b (option_map (λ t. (i, t)) s) None) r)
      step true p None q r f = later r (λ c. q) f
      step true p (Some u) q r f = (0, e, omega arith, refl, q)
      step false p s q r f = later r (λ c. absurd (both_ways (C.covers e.key k) p c)) f

  -- An entry whose key does not cover k leads to no record of that key.
  not_below : (h : ℕ) (e : Entry K (Tree K h)) → Ruled G (suc h) e → C.covers e.key k ≡ false → AllByRecursion (λ r. is_record G k n r ≡ false) (records_of h e.link)
  not_below h e rule c = all_map (λ r d. another r (C.covers e.key) c d) (records_of h e.link) (covers_below C law (suc h) e.key e rule (law.covers_itself e.key))
    where
      another : (r : Entry K ℕ) (p : K → Bool) → p k ≡ false → p r.key ≡ true → is_record G k n r ≡ false
      another r p a b = step (is_record G k n r) refl
        where
          step : (t : Bool) → is_record G k n r ≡ t → t ≡ false
          step false q = refl
          step true q =
              let same : r ≡ this = is_this r q in
              let key : r.key ≡ k = ap (λ (z : Entry K ℕ). z.key) same in
              sym b ∙ ap p key ∙ a

  four_root : (h m : ℕ) → Between 4 12 m → Between (root_least h) 12 m
  four_root zero m b = omega arith
  four_root (suc h) m b = omega arith

  removes_under : (h : ℕ) (t : Tree K h) → Between (root_least h) 12 (length t.entries) → AllByRecursion (Ruled G h) t.entries → Result h t (edits_under C k n h t) (remove_under C k n h t)
  removes_under zero t filled rules = leaf t
  removes_under (suc h) t filled rules =
      step (first_removed C k h (remove_under C k n h) 0 t.entries) (first h (remove_under C k n h) 0 t.entries) (λ e rule. removes_under h e.link (four_root h _ rule.1) rule.2)
    where
      done : ℕ → Tree K h → Edits
      done i x = mend_edits C h k t.entries i x ++ below_by h (edits_under C k n h) (slice_get t.entries i)

      step : (o : Option (ℕ × Tree K h)) → First h (remove_under C k n h) 0 t.entries o →
          ((e : Entry K (Tree K h)) → Ruled G (suc h) e → Result h e.link (edits_under C k n h e.link) (remove_under C k n h e.link)) →
          Result (suc h) t (edits_by h done o) (option_map (λ c. record { page = t.page; entries = mended C h k t.entries c.0 c.1 }) o)
      step None f below = all_joined _ (records_at (suc h)) t.entries (all_map₂ (λ e rule not. by_cover e rule not (C.covers e.key k) refl) t.entries rules f)
        where
          by_cover : (e : Entry K (Tree K h)) → Ruled G (suc h) e → (C.covers e.key k ≡ true → remove_under C k n h e.link ≡ None) →
              (b : Bool) → C.covers e.key k ≡ b → AllByRecursion (λ r. is_record G k n r ≡ false) (records_of h e.link)
          by_cover e rule not true c = subst (Result h e.link (edits_under C k n h e.link)) (not c) (below e rule)
          by_cover e rule not false c = not_below h e rule c
      step (Some c) (j, e, p, sits, is) below = rw place (rebuilt (mends h t.entries rules c.0 e place c.1 (edits_under C k n h e.link) lost filled.0))
        where
          place : slice_get t.entries c.0 ≡ Some e
          place = let q : c.0 ≡ j = omega arith in rw q sits

          lost : Lost h e.link c.1 (edits_under C k n h e.link)
          lost = subst (Result h e.link (edits_under C k n h e.link)) is (below e (all_nth _ t.entries j e rules sits))

          rebuilt : {edits : Edits} → Mends h t.entries (mended C h k t.entries c.0 c.1) edits →
              Lost (suc h) t (record { page = t.page; entries = mended C h k t.entries c.0 c.1 }) edits
          rebuilt m = record {
            records_less = m.records_less;
            same_page = refl;
            fewer = m.fewer;
            at_most = m.at_most;
            at_least = m.at_least;
            below = m.below;
          }

  whole : (h : ℕ) (t : Tree K h) (z : Gist K) → Perm (records_of h t) (this ∷ records z) → PageRules G z →
      (touched again back : List ℕ) → Perm touched (again ++ back) → (d : Differ (written G (root h t)) (written G z) touched again) → length touched ≤ 2 * h + 1 →
      (edits : Edits) → Perm edits (holding d.come ++ freed back) → TakesEditing G (root h t) z k n edits
  whole h t z less rules touched again back split differ few edits are = record {
    takes = record {
      one_less = less;
      rules = rules;
      touched = touched;
      written_again = again;
      given_back = back;
      split = split;
      differ = differ;
      few = omega arith;
      once = Perm.nodup (Perm.symm (less_pages G (root h t) z touched again back split differ));
    };
    edits_are = are;
  }

  -- The root stays.
  stays : (h : ℕ) (t u : Tree K h) (edits : Edits) → Lost h t u edits → PageRules G (root h u) → TakesEditing G (root h t) (root h u) k n (page_edit G h u ∷ edits)
  stays h t u edits lost rules = whole h t (root h u) lost.records_less rules
      (t.page ∷ lost.fewer.old) (u.page ∷ lost.fewer.new) lost.fewer.gone
      (same_head lost.same_page lost.fewer.splits)
      (differ_more lost.fewer.differs (own h t) (own h u))
      (omega (arith, lost.fewer.few))
      (page_edit G h u ∷ edits) (Perm.cons (page_edit G h u) lost.fewer.edits_are)

  lowers : (h : ℕ) (t u : Tree K h) → PageRules G (root h t) → Lost h t u (edits_under C k n h t) → (es : List (Entry K (Link K h))) → u.entries ≡ es →
      TakesEditing G (root h t) (lowered h u es) k n (root_edits G h u es ++ edits_under C k n h t)
  lowers zero t u rules lost [] q = whole zero t empty (rw q at lost.records_less) tt
      (t.page ∷ []) [] (t.page ∷ []) (Perm.refl _)
      (rw (none_below G t.entries) (differ_more (differ_not []) (own zero t) []))
      (omega arith)
      ((u.page, None) ∷ []) (rw lost.same_page (Perm.refl _))
  lowers zero t u rules lost (e ∷ es) q = stays zero t u [] lost (omega arith, (rw q (omega arith), omega (arith, lost.at_most, rules.1)), lost.below)
  lowers (suc h) t u rules lost [] q = absurd (omega (arith, lost.at_least, rules.1, ap length q))
  lowers (suc h) t u rules lost (e ∷ []) q = whole (suc h) t (root h e.link)
      (rw append-nil at (rw q at lost.records_less))
      (omega (arith, rules.0), four_root h _ rule.0.1, rule.0.2)
      (t.page ∷ lost.fewer.old) lost.fewer.new (t.page ∷ lost.fewer.gone)
      (Perm.trans (Perm.cons t.page lost.fewer.splits) (Perm.symm (perm_middle lost.fewer.new lost.fewer.gone)))
      (differ_as (differ_more lost.fewer.differs (own (suc h) t) []) (Perm.refl _) child (Perm.refl _) (Perm.refl _))
      (omega (arith, lost.fewer.few))
      ((u.page, None) ∷ edits_under C k n (suc h) t)
      (rw lost.same_page (Perm.trans (Perm.cons _ lost.fewer.edits_are) (Perm.symm (perm_middle (holding lost.fewer.differs.come) (freed lost.fewer.gone)))))
    where
      rule : AllByRecursion (Ruled G (suc h)) (e ∷ [])
      rule = rw q at lost.below

      child : Perm (written_at G (suc h) e) (flat_map (written_at G (suc h)) u.entries)
      child = rw q (perm_eq (sym (append-nil (written_at G (suc h) e))))
  lowers (suc h) t u rules lost (e ∷ f ∷ es) q = stays (suc h) t u (edits_under C k n (suc h) t) lost (rules.0, (rw q (omega arith), omega (arith, lost.at_most, rules.1)), lost.below)

  removes : (w : Gist K) → PageRules G w → Edited G w k n (remove_edits C k n w) (removed C k n w)
  removes empty rules = tt
  removes (root h t) rules = step (remove_under C k n h t) (removes_under h t rules.1 rules.2)
    where
      step : (o : Option (Tree K h)) → Result h t (edits_under C k n h t) o → Edited G (root h t) k n (edits_of C k n h t o) (option_map (λ u. lowered h u u.entries) o)
      step None r = all_map not_this (records_of h t) r
      step (Some u) lost = lowers h t u rules lost u.entries refl

module _ {K Q : Type 0} (C : Class K Q) (coded : Coded C.growing) (law : Lawful C) where
  pub removes_editing : RemoveEdits C
  removes_editing w k n rules = removes C coded law k n w rules

  -- The edits of a removal are more than the theorem tells.
  less_told : (G : Growing K) (w : Gist K) (k : K) (n : ℕ) (edits : Edits) (o : Option (Gist K)) → Edited G w k n edits o → Taken G w k n o
  less_told G w k n edits None not = not
  less_told G w k n edits (Some z) a = a.takes

  pub takes : RemoveTakes C
  takes w k n rules = less_told _ w k n (remove_edits C k n w) (removed C k n w) (removes_editing w k n rules)

-- Which pages a removal edits, and what comes of a node's page number and its count of entries.
use Rattle.std.proofs.Common.{◌≡◌, ℕ, zero, suc, ◌+◌, ◌<◌, ◌≤◌, Bool, true, false, cond, leb, ◌≢◌, List, [], ◌∷◌, ◌++◌, length, set, Some, None, Option, sym, refl, ap, ◌∙◌, subst, arith, length-set}
use Rattle.std.specs.Option.{option_map, option_or}
use Rattle.std.specs.List.{flat_map, insert as with_at, remove as without, AllByRecursion, slice_get}
use Rattle.std.proofs.lemmas.List.Edits.{length-insert, length-remove}
use Rattle.std.proofs.lemmas.List.{get_or-set_other}
use Rattle.std.proofs.lemmas.Option.{none-some, same_Some, slice_get_within}
use Rattle.page_store.specs.Pages.{Pages, at}
use Rattle.key_class.specs.Class.{Class}
use Rattle.node.specs.Nodes.{Entry}
use Rattle.gist.specs.Tree.{Tree, pages_at, union_of, entry_for}
use Rattle.gist.specs.Insert.{least_growth}
use Rattle.gist.specs.Remove.{is_record, without_first, joined_to, mended, first_removed, remove_under}
use Rattle.gist.specs.Writes.{below_by, Edits, join_edits, mend_edits, edits_by, edits_under}
use Rattle.gist.proofs.Lists.{all-++, all_right, all_nth, joined_all}
use Rattle.tree_pages.specs.Laid.{edited}

all_cond : {A : Type 0} (P : A → Type 0) (b : Bool) (xs ys : List A) → AllByRecursion P xs → AllByRecursion P ys → AllByRecursion P (cond b xs ys)
all_cond P true xs ys h k = h
all_cond P false xs ys h k = k

pub all_without : {A : Type 0} (P : A → Type 0) (xs : List A) (i : ℕ) → AllByRecursion P xs → AllByRecursion P (without xs i)
all_without P [] zero h = tt
all_without P [] (suc i) h = tt
all_without P (y ∷ xs) zero h = h.1
all_without P (y ∷ xs) (suc i) h = (h.0, all_without P xs i h.1)

-- One element is closed up, or closed up and put in again.
still_long : {A : Type 0} (b : Bool) (es : List A) (i j : ℕ) (x y z : A) → i < length es → length es ≤ length (cond b (set (without es i) j x) (with_at (set (without es i) j y) i z)) + 1
still_long true es i j x y z l = simp length-set (omega (arith, length-remove es i l))
still_long false es i j x y z l =
    let m = length-set (without es i) j y in
    omega (arith, length-remove es i l, length-insert (set (without es i) j y) i z (omega (arith, length-remove es i l)))

-- A page that is not edited.
pub edited_other : (s : Pages) (ws : Edits) (p : ℕ) → AllByRecursion (λ w. p ≢ w.0) ws → at (edited s ws) p ≡ at s p
edited_other s [] p a = refl
edited_other s (w ∷ ws) p a = get_or-set_other (edited s ws) w.0 p w.1 None a.0 ∙ edited_other s ws p a.1

-- What a value was made of.
made : {A B : Type 0} (f : A → B) (o : Option A) (b : B) → option_map f o ≡ Some b → (a : A) × (o ≡ Some a) × (f a ≡ b)
made f None b e = absurd (none-some _ e)
made f (Some a) b e = (a, refl, same_Some _ _ e)

module _ {K Q : Type 0} (C : Class K Q) (k : K) where
  -- The first child from which the record could be removed stands at place j.
  record Found (h : ℕ) (below : Tree K h → Option (Tree K h)) (i : ℕ) (es : List (Entry K (Tree K h))) (c : ℕ × Tree K h) : Type 0 where
    j : ℕ
    entry : Entry K (Tree K h)
    place : c.0 ≡ i + j
    there : slice_get es j ≡ Some entry
    removed : below entry.link ≡ Some c.1

  found : (h : ℕ) (below : Tree K h → Option (Tree K h)) (i : ℕ) (es : List (Entry K (Tree K h))) (c : ℕ × Tree K h) → first_removed C k h below i es ≡ Some c → Found h below i es c
  found h below i [] c q = absurd (none-some _ q)
  found h below i (e ∷ es) c q = step (C.covers e.key k) (below e.link) refl (λ q. later (found h below (i + 1) es c q)) q
    where
      later : Found h below (i + 1) es c → Found h below i (e ∷ es) c
      later f = record { j = suc f.j; entry = f.entry; place = omega (arith, f.place); there = f.there; removed = f.removed }

      step : (b : Bool) (o : Option (Tree K h)) → below e.link ≡ o → (first_removed C k h below (i + 1) es ≡ Some c → Found h below i (e ∷ es) c)
          → option_or (cond b (option_map (λ t. (i, t)) o) None) (first_removed C k h below (i + 1) es) ≡ Some c → Found h below i (e ∷ es) c
      step true None r next q = next q
      step true (Some u) r next q =
          let z : (i, u) ≡ c = same_Some _ _ q in
          record { j = 0; entry = e; place = omega (arith, ap (λ (d : ℕ × Tree K h). d.0) z); there = refl; removed = r ∙ ap (λ (d : ℕ × Tree K h). Some d.1) z }
      step false o r next q = next q

  -- The place of the child's partner among the others.
  abbrev partner_at : (h : ℕ) → List (Entry K (Tree K h)) → ℕ → Tree K h → ℕ
  partner_at h es i x = least_growth C.growing (union_of C.growing k x.entries) (without es i)

  -- A mended node has at most one entry fewer.
  abbrev Fewer : (h : ℕ) → List (Entry K (Tree K h)) → List (Entry K (Tree K h)) → Type 0
  Fewer h es fs = length es ≤ length fs + 1

  mended_size : (h : ℕ) (es : List (Entry K (Tree K h))) (i : ℕ) (x : Tree K h) → i < length es → Fewer h es (mended C h k es i x)
  mended_size h es i x l = step (leb 4 (length x.entries)) (partner_at h es i x) (slice_get (without es i) (partner_at h es i x))
    where
      joined_size : (j : ℕ) (o : Option (Entry K (Tree K h))) → Fewer h es (joined_to C h k (without es i) i x j o)
      joined_size j None = omega (arith, length-insert (without es i) i (entry_for C.growing h k x) (omega (arith, length-remove es i l)), length-remove es i l)
      joined_size j (Some e) = still_long _ es i j _ _ _ l

      step : (b : Bool) (j : ℕ) (o : Option (Entry K (Tree K h))) → Fewer h es (cond b (set es i (entry_for C.growing h k x)) (joined_to C h k (without es i) i x j o))
      step true j o = simp length-set (omega arith)
      step false j o = joined_size j o

  module _ (n : ℕ) where
    fewer_first : (p : Entry K ℕ → Bool) (es fs : List (Entry K ℕ)) → without_first p es ≡ Some fs → length es ≤ length fs + 1
    fewer_first p [] fs e = absurd (none-some _ e)
    fewer_first p (x ∷ es) fs e = step (p x) (without_first p es) (λ ys q. fewer_first p es ys q) e
      where
        step : (b : Bool) (o : Option (List (Entry K ℕ))) → ((ys : List (Entry K ℕ)) → o ≡ Some ys → length es ≤ length ys + 1) → cond b (Some es) (option_map (λ ys. x ∷ ys) o) ≡ Some fs
            → suc (length es) ≤ length fs + 1
        step true o q f = omega (arith, ap length (same_Some _ _ f))
        step false o q f = let m = made _ o fs f in omega (arith, ap length m.2, q m.0 m.1)

    -- What a removal leaves of a node: its page, and all but one of its entries.
    pub same_page : (h : ℕ) (u v : Tree K h) → remove_under C k n h u ≡ Some v → v.page ≡ u.page
    same_page zero u v e = sym (ap (λ (w : Tree K zero). w.page) (made _ _ v e).2)
    same_page (suc h) u v e = sym (ap (λ (w : Tree K (suc h)). w.page) (made _ _ v e).2)

    pub one_fewer : (h : ℕ) (u v : Tree K h) → remove_under C k n h u ≡ Some v → length u.entries ≤ length v.entries + 1
    one_fewer zero u v e =
        let m = made _ _ v e in
        omega (arith, ap (λ (w : Tree K zero). length w.entries) m.2, fewer_first (is_record C.growing k n) u.entries m.0 m.1)
    one_fewer (suc h) u v e =
        let m = made _ _ v e in
        let f = found h (remove_under C k n h) 0 u.entries m.0 m.1 in
        omega (arith, ap (λ (w : Tree K (suc h)). length w.entries) m.2, mended_size h u.entries m.0.0 m.0.1 (omega (arith, f.place, slice_get_within u.entries f.j f.entry f.there)))

    -- Only pages below the node are edited.
    module _ (P : ℕ → Type 0) where
      abbrev Edited : Edits → Type 0
      Edited ws = AllByRecursion (λ w. P w.0) ws

      below_pages : (h : ℕ) (es : List (Entry K (Tree K h))) → AllByRecursion P (flat_map (pages_at (suc h)) es) → AllByRecursion (λ e. P e.link.page) es
      below_pages h [] a = tt
      below_pages h (e ∷ es) a = (a.0, below_pages h es (all_right P (flat_map (pages_at h) e.link.entries) (flat_map (pages_at (suc h)) es) a.1))

      mend_pages : (h : ℕ) (es : List (Entry K (Tree K h))) (i : ℕ) (x : Tree K h) → P x.page → AllByRecursion (λ e. P e.link.page) es → Edited (mend_edits C h k es i x)
      mend_pages h es i x own all = all_cond _ (leb 4 (length x.entries)) _ _ (own, tt)
          (join_pages (slice_get (without es i) (partner_at h es i x)) (λ f q. all_nth (λ (y : Entry K (Tree K h)). P y.link.page) (without es i) (partner_at h es i x) f (all_without _ es i all) q))
        where
          join_pages : (o : Option (Entry K (Tree K h))) → ((f : Entry K (Tree K h)) → o ≡ Some f → P f.link.page) → Edited (join_edits C h x o)
          join_pages None other = tt
          join_pages (Some f) other = all_cond _ (leb (length (f.link.entries ++ x.entries)) 12) _ _ (own, (other f refl, tt)) (own, (other f refl, tt))

      pub edits_below : (h : ℕ) (u : Tree K h) → AllByRecursion P (flat_map (pages_at h) u.entries) → Edited (edits_under C k n h u)
      edits_below zero u a = tt
      edits_below (suc h) u a = step (first_removed C k h (remove_under C k n h) 0 u.entries) refl (λ e b. edits_below h e.link b)
        where
          step : (o : Option (ℕ × Tree K h)) → first_removed C k h (remove_under C k n h) 0 u.entries ≡ o → ((e : Entry K (Tree K h)) → AllByRecursion P (flat_map (pages_at h) e.link.entries) → Edited (edits_under C k n h e.link))
              → Edited (edits_by h (λ i x. mend_edits C h k u.entries i x ++ below_by h (edits_under C k n h) (slice_get u.entries i)) o)
          step None q below = tt
          step (Some c) q below =
              let f = found h (remove_under C k n h) 0 u.entries c q in
              let i_is : c.0 ≡ f.j = omega (arith, f.place) in
              let there : slice_get u.entries c.0 ≡ Some f.entry = ap (slice_get u.entries) i_is ∙ f.there in
              let all : AllByRecursion P (pages_at (suc h) f.entry) = all_nth (λ (y : Entry K (Tree K h)). AllByRecursion P (pages_at (suc h) y)) u.entries c.0 f.entry (joined_all P (pages_at (suc h)) u.entries a) there in
              all-++ _ (mend_edits C h k u.entries c.0 c.1) _
              (mend_pages h u.entries c.0 c.1 (subst P (sym (same_page h f.entry.link c.1 f.removed)) all.0) (below_pages h u.entries a))
              (subst (λ (o : Option (Entry K (Tree K h))). Edited (below_by h (edits_under C k n h) o)) (sym there) (below f.entry all.1))

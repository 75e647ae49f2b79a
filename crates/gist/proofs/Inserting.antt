-- An insert adds its record, keeps the rules of pages, and writes and takes just the pages that it says.
use Rattle.std.proofs.Common.{◌≡◌, ℕ, zero, suc, ◌+◌, ◌<◌, ◌≤◌, Bool, true, false, cond, ◌&&◌, eqb, leb, ◌⊎◌, List, [], ◌∷◌, ◌++◌, map, length, set, Some, sym, refl, ap, ◌∙◌, subst, inl, inr, ⊎_elim, arith, length-append, length-set}
use mathlib.Core.List.Perm
use mathlib.Core.List.{map-append, Perm, Nodup, perm_append_singleton}
use lib.ListN.{length-map}
use Rattle.std.specs.List.{flat_map, remove as without, AllByRecursion, slice_get}
use Rattle.std.proofs.lemmas.List.{append-nil}
use Rattle.std.proofs.lemmas.Bool.{leb-true, leb-false, eqb-true, eqb-false, lt-leb, eq-eqb, ne_eqb}
use Rattle.std.proofs.lemmas.Grind.{flat_map-append}
use Rattle.key_class.specs.Class.{Growing, Class, Lawful}
use Rattle.node.specs.Nodes.{Entry, keys, stay, go}
use Rattle.gist.specs.Tree.{Link, Tree, Gist, empty, root, Written, levels, records_at, records_of, records, pages, words_of, written_at, written_of, written, entry_for}
use Rattle.gist.specs.Insert.{least_growth, Grown, split, fill, regrown, insert_under, rooted, inserted, Step, step, way_under, way, splits, new_root}
use Rattle.gist.specs.Rules.{Between, Ruled, PageRules, root_least}
use Rattle.gist.specs.Theorems.{numbers, Differ, InsertAdds}
use Rattle.gist.specs.Writes.{own_pages, writes_under, root_writes, AddsWriting, InsertWrites}
use Rattle.gist.proofs.Lists.{joined_map, all_map, all-++, all_stay, all_go, all_set, all_nth, all_map_to, nth_there}
use Rattle.gist.proofs.Perms.{perm_eq, nth_first, set_first, joined_perm, joined_stay_go}
use Rattle.gist.proofs.Bags.{v, ∅, ◌⊕◌, bag}
use Rattle.gist.proofs.Differing.{differ_not, differ_as, differ_beside, differ_more}
use Rattle.gist.proofs.Paged.{perm_cancel, pages_differ}
use Rattle.gist.proofs.Nodes.{Fine, entry_ruled, within, split_sizes}

-- The pages of a way.
abbrev pub paged : List Step → List ℕ
paged steps = map (λ s. s.page) steps

pub splits_within : (steps : List Step) → splits steps ≤ length steps
splits_within [] = omega arith
splits_within (s ∷ steps) = at s.full (splits_within steps)
  where
    at : (b : Bool) → splits steps ≤ length steps → cond b (1 + splits steps) 0 ≤ suc (length steps)
    at true l = omega arith
    at false l = omega arith

eqb_suc : (a b : ℕ) → eqb (1 + a) (suc b) ≡ eqb a b
eqb_suc a b = at (eqb a b) refl
  where
    at : (c : Bool) → eqb a b ≡ c → eqb (1 + a) (suc b) ≡ c
    at true e = eq-eqb (1 + a) (suc b) (omega (arith, eqb-true a b e))
    at false e = ne_eqb (1 + a) (suc b) (λ x. eqb-false a b e (omega arith))

-- One step more, at the end: it is split if all below it are, and it is full.
splits_push : (steps : List Step) (s : Step) →
    splits (steps ++ s ∷ []) ≡ cond (eqb (splits steps) (length steps) && s.full) (length steps + 1) (splits steps)
splits_push [] s = refl
splits_push (x ∷ steps) s = at x.full (splits_push steps s)
  where
    up : (c : Bool) → 1 + cond c (length steps + 1) (splits steps) ≡ cond c (suc (length steps) + 1) (1 + splits steps)
    up true = omega arith
    up false = refl

    at : (b : Bool) → splits (steps ++ s ∷ []) ≡ cond (eqb (splits steps) (length steps) && s.full) (length steps + 1) (splits steps) →
        cond b (1 + splits (steps ++ s ∷ [])) 0 ≡ cond (eqb (cond b (1 + splits steps) 0) (suc (length steps)) && s.full) (suc (length steps) + 1) (cond b (1 + splits steps) 0)
    at true e = rw eqb_suc (omega (arith, e, up (eqb (splits steps) (length steps) && s.full)))
    at false e = rw (ne_eqb 0 (suc (length steps)) (λ x. omega arith)) refl

-- A node of height h gets len entries, left pages are left of all; run nodes on the way are split.
abbrev Runs : ℕ → ℕ → ℕ → ℕ → ℕ → Type 0
Runs h run len left all = ((run ≡ h + 1) × (len ≡ 13) × (left + h ≡ all)) ⊎ ((run ≤ h) × (len ≤ 12) × (left + run ≡ all))

leaf_runs : (len more all : ℕ) → len ≤ 12 → more ≡ len + 1 → Runs 0 (cond (leb 12 len) 1 0) more all all
leaf_runs len more all l e = at (leb 12 len) refl
  where
    at : (b : Bool) → leb 12 len ≡ b → Runs 0 (cond b 1 0) more all all
    at true t = inl (refl, omega (arith, leb-true 12 len t), omega arith)
    at false t = inr (omega arith, omega (arith, leb-false 12 len t), omega arith)

inner_runs : (h run long len more extra left all : ℕ) → len ≤ 12 → more ≡ len + extra → long ≡ h + 1 → run ≤ long → extra ≡ cond (eqb run long) 1 0 → run + left ≡ all →
    Runs (suc h) (cond (eqb run long && leb 12 len) (long + 1) run) more left all
inner_runs h run long len more extra left all l e is r x u = at (eqb run long) (leb 12 len) refl refl x
  where
    at : (a b : Bool) → eqb run long ≡ a → leb 12 len ≡ b → extra ≡ cond a 1 0 → Runs (suc h) (cond (a && b) (long + 1) run) more left all
    at true true p q y = inl (omega arith, omega (arith, leb-true 12 len q), omega (arith, eqb-true run long p))
    at true false p q y = inr (omega arith, omega (arith, leb-false 12 len q), omega arith)
    at false true p q y = inr (omega arith, omega arith, omega arith)
    at false false p q y = inr (omega arith, omega arith, omega arith)

module _ {K : Type 0} (G : Growing K) where
  -- What a page and its new neighbour come to, of entries es for page p.
  record Fills (h lo : ℕ) (fs : List ℕ) (p : ℕ) (es : List (Entry K (Link K h))) (r : Grown K h) : Type 0 where
    pub records_same : Perm (records_of h r.node ++ flat_map (records_of h) r.split_off) (flat_map (records_at h) es)
    pub written_same : Perm (written_of G h r.node ++ flat_map (written_of G h) r.split_off) (own_pages G h r ++ flat_map (written_at G h) es)
    pub pages_used : Perm (numbers (own_pages G h r) ++ r.unused) (p ∷ fs)
    pub node_fine : Fine G h lo r.node
    pub split_fine : AllByRecursion (λ u. Fine G h 4 r.node × Fine G h 4 u) r.split_off
    pub few : length r.split_off ≡ cond (leb (length es) 12) 0 1
    pub used : length r.split_off + length r.unused ≡ length fs

  -- What an insert of record n with key k into a node comes to. steps is the way under it, writes are the pages that are
  -- written, new their numbers.
  pub record Grew (k : K) (n h lo : ℕ) (fs : List ℕ) (t : Tree K h) (steps : List Step) (writes : Written) (r : Grown K h) : Type 0 where
    pub records_more : Perm (records_of h r.node ++ flat_map (records_of h) r.split_off) (record { key = k; link = n } ∷ records_of h t)
    pub new : List ℕ
    pub differs : Differ (written_of G h t) (written_of G h r.node ++ flat_map (written_of G h) r.split_off) (paged steps) new
    pub come_is : differs.come ≡ writes
    pub used_pages : Perm (new ++ r.unused) (paged steps ++ fs)
    pub node_fine : Fine G h lo r.node
    pub split_fine : AllByRecursion (λ u. Fine G h 4 r.node × Fine G h 4 u) r.split_off
    pub long : length steps ≡ h + 1
    pub few : length r.split_off ≡ cond (new_root steps) 1 0
    pub used : splits steps + length r.unused ≡ length fs

  -- What the entries of a node come to, once the child at place i has grown.
  regrown_joined : {B : Type 0} (k : K) (h i : ℕ) (f : Entry K (Tree K h) → List B) (r : Grown K h) (es : List (Entry K (Tree K h))) (e : Entry K (Tree K h)) → slice_get es i ≡ Some e →
      Perm (flat_map f (regrown G h k i r es)) ((f (entry_for G h k r.node) ++ flat_map (λ u. f (entry_for G h k u)) r.split_off) ++ flat_map f (without es i))
  regrown_joined {B} k h i f r es e at = rw (flat_map-append f (set es i (entry_for G h k r.node)), joined_map)
      (Perm.trans (Perm.append_right off (joined_perm f (set_first es i e (entry_for G h k r.node) at)))
      (bag (f (entry_for G h k r.node) ∷ off ∷ flat_map f (without es i) ∷ []) ((v 0 ⊕ v 2) ⊕ v 1) ((v 0 ⊕ v 1) ⊕ v 2) refl))
    where
      off : List B
      off = flat_map (λ u. f (entry_for G h k u)) r.split_off

  -- Both sides have the pages of the way, and besides them the one has what the other has, and fs.
  more_pages : (w z : Gist K) (ps fs : List ℕ) → Differ (written G w) (written G z) ps (ps ++ fs) → Perm (pages z) (pages w ++ fs)
  more_pages w z ps fs d = Perm.symm (perm_cancel ps
      (Perm.trans (bag (ps ∷ pages w ∷ fs ∷ []) (v 0 ⊕ v 1 ⊕ v 2) (v 1 ⊕ v 0 ⊕ v 2) refl)
      (Perm.trans (Perm.symm (pages_differ G w z d)) (bag (ps ∷ pages z ∷ []) (v 1 ⊕ v 0) (v 0 ⊕ v 1) refl))))

  pub pages_added : {w z : Gist K} {k : K} {n : ℕ} {fs : List ℕ} {ws : Written} → AddsWriting G w z k n fs ws → Perm (pages z) (pages w ++ fs)
  pages_added {w} {z} {k} {n} {fs} a = more_pages w z (paged (way G k w)) fs a.adds.differ

module _ {K Q : Type 0} (C : Class K Q) (law : Lawful C) where
  abbrev G : Growing K
  G = C.growing

  split_fits : (h lo : ℕ) (fs : List ℕ) (p : ℕ) (es : List (Entry K (Link K h))) → AllByRecursion (Ruled G h) es → lo ≤ 4 → length es ≡ 13 → 1 ≤ length fs →
      Fills G h lo fs p es (split C h fs p es)
  split_fits h lo [] p es rules l e f = absurd (omega arith)
  split_fits h lo (f ∷ fs) p es rules l e g =
      record {
        records_same = rw append-nil (joined_stay_go (records_at h) bs es);
        written_same = Perm.trans
            (bag (on_p ∷ on_f ∷ flat_map (written_at G h) (stay bs es) ∷ flat_map (written_at G h) (go bs es) ∷ []) ((v 0 ⊕ v 2) ⊕ (v 1 ⊕ v 3) ⊕ ∅) ((v 0 ⊕ v 1) ⊕ v 2 ⊕ v 3) refl)
            (Perm.append_left (on_p ++ on_f) (joined_stay_go (written_at G h) bs es));
        pages_used = Perm.refl _;
        node_fine = record { size = (omega (arith, s), s.0.1); below = all_stay _ bs es rules };
        split_fine = ((record { size = s.0; below = all_stay _ bs es rules }, record { size = s.1; below = all_go _ bs es rules }), tt);
        few = rw (lt-leb (length es) 12 (omega arith));
        used = omega arith;
      }
    where
      bs : List Bool
      bs = C.split (keys es)

      s : Between 4 12 (length (stay bs es)) × Between 4 12 (length (go bs es))
      s = split_sizes C law es (omega arith) (omega arith)

      on_p : Written
      on_p = (p, words_of G h (record { page = p; entries = stay bs es })) ∷ []

      on_f : Written
      on_f = (f, words_of G h (record { page = f; entries = go bs es })) ∷ []

  fill_fits : (h lo : ℕ) (fs : List ℕ) (p : ℕ) (es : List (Entry K (Link K h))) → AllByRecursion (Ruled G h) es → lo ≤ 4 → lo ≤ length es → length es ≤ 13 →
      (length es ≡ 13 → 1 ≤ length fs) → Fills G h lo fs p es (fill C h fs p es)
  fill_fits h lo fs p es rules l m n f = at (leb (length es) 12) refl
    where
      at : (b : Bool) → leb (length es) 12 ≡ b →
          Fills G h lo fs p es (cond b (record { node = record { page = p; entries = es }; split_off = []; unused = fs }) (split C h fs p es))
      at true e = record {
        records_same = perm_eq (append-nil (flat_map (records_at h) es));
        written_same = perm_eq (append-nil _);
        pages_used = Perm.refl _;
        node_fine = record { size = (m, leb-true (length es) 12 e); below = rules };
        split_fine = tt;
        few = rw e;
        used = omega arith;
      }
      at false e = let g : 12 < length es = leb-false (length es) 12 e in split_fits h lo fs p es rules l (omega arith) (f (omega arith))

  -- A node of height h whose entries have become es: of the pages fs, left are still to be taken, and new were written
  -- below it.
  lift : (k : K) (n h lo : ℕ) (fs : List ℕ) (t : Tree K h) (steps : List Step) (es : List (Entry K (Link K h))) (left new : List ℕ) → lo ≤ 4 → lo ≤ length es →
      splits (steps ++ step t ∷ []) ≤ length fs → length steps ≡ h → AllByRecursion (Ruled G h) es →
      Perm (flat_map (records_at h) es) (record { key = k; link = n } ∷ records_of h t) →
      (d : Differ (flat_map (written_at G h) t.entries) (flat_map (written_at G h) es) (paged steps) new) →
      Perm (new ++ left) (paged steps ++ fs) →
      Runs h (splits (steps ++ step t ∷ [])) (length es) (length left) (length fs) →
      Grew G k n h lo fs t (steps ++ step t ∷ []) (own_pages G h (fill C h left t.page es) ++ d.come) (fill C h left t.page es)
  lift k n h lo fs t steps es left new l m g deep rules rs d ps runs =
      lifted (fill C h left t.page es) (fill_fits h lo left t.page es rules l m
      (⊎_elim (λ x. omega (arith, x)) (λ x. omega (arith, x)) runs)
      (⊎_elim (λ x e. omega (arith, x)) (λ x e. absurd (omega (arith, x))) runs))
    where
      up : List Step
      up = steps ++ step t ∷ []

      long : length up ≡ h + 1
      long = length-append steps (step t ∷ []) ∙ ap (λ m. m + 1) deep

      -- the node's own step stands last on the way
      own_last : Perm (t.page ∷ paged steps) (paged up)
      own_last = rw map-append (Perm.symm (perm_append_singleton t.page (paged steps)))

      -- a node is split off just where all on the way are full
      off : (b : Bool) → leb (length es) 12 ≡ b → (more : ℕ) → more ≡ cond b 0 1 → more ≡ cond (new_root up) 1 0
      off true e more p = ⊎_elim (λ x. absurd (omega (arith, x, leb-true (length es) 12 e))) (λ x. rw (ne_eqb (splits up) (length up) (λ q. omega (arith, x, long))) p) runs
      off false e more p = ⊎_elim (λ x. rw (eq-eqb (splits up) (length up) (omega (arith, x, long))) p) (λ x. absurd (omega (arith, x, leb-false (length es) 12 e))) runs

      rest : (b : Bool) → leb (length es) 12 ≡ b → (more unused : ℕ) → more ≡ cond b 0 1 → more + unused ≡ length left → splits up + unused ≡ length fs
      rest true e more unused p q = ⊎_elim (λ x. absurd (omega (arith, x, leb-true (length es) 12 e))) (λ x. omega (arith, x)) runs
      rest false e more unused p q = ⊎_elim (λ x. omega (arith, x)) (λ x. absurd (omega (arith, x, leb-false (length es) 12 e))) runs

      lifted : (r : Grown K h) → Fills G h lo left t.page es r → Grew G k n h lo fs t up (own_pages G h r ++ d.come) r
      lifted r p = record {
        records_more = Perm.trans p.records_same rs;
        new = numbers (own_pages G h r) ++ new;
        differs = differ_as (differ_more d ((t.page, words_of G h t) ∷ []) (own_pages G h r)) (Perm.refl _) p.written_same own_last (Perm.refl _);
        come_is = refl;
        used_pages =
            Perm.trans (bag (numbers (own_pages G h r) ∷ new ∷ r.unused ∷ []) ((v 0 ⊕ v 1) ⊕ v 2) ((v 0 ⊕ v 2) ⊕ v 1) refl)
            (Perm.trans (Perm.append_right new p.pages_used)
            (Perm.trans (bag ((t.page ∷ []) ∷ left ∷ new ∷ []) ((v 0 ⊕ v 1) ⊕ v 2) (v 0 ⊕ v 2 ⊕ v 1) refl)
            (Perm.trans (Perm.cons t.page ps) (Perm.append_right fs own_last))));
        node_fine = p.node_fine;
        split_fine = p.split_fine;
        long = long;
        few = off (leb (length es) 12) refl _ p.few;
        used = rest (leb (length es) 12) refl _ _ p.few p.used;
      }

  -- One level up: steps is the way under the child at place i, which has grown to r.
  step_up : (k : K) (n h lo : ℕ) (fs : List ℕ) (t : Tree K (suc h)) (steps : List Step) (writes : Written) (i : ℕ) (e : Entry K (Tree K h)) (r : Grown K h) → lo ≤ 4 → Fine G (suc h) lo t →
      splits (steps ++ step t ∷ []) ≤ length fs → slice_get t.entries i ≡ Some e → Grew G k n h 4 fs e.link steps writes r →
      Grew G k n (suc h) lo fs t (steps ++ step t ∷ []) (own_pages G (suc h) (fill C (suc h) r.unused t.page (regrown G h k i r t.entries)) ++ writes)
      (fill C (suc h) r.unused t.page (regrown G h k i r t.entries))
  step_up k n h lo fs t steps writes i e r l f g at below =
      subst (λ ws. Grew G k n (suc h) lo fs t (steps ++ step t ∷ []) (own_pages G (suc h) (fill C (suc h) r.unused t.page (regrown G h k i r t.entries)) ++ ws) (fill C (suc h) r.unused t.page (regrown G h k i r t.entries))) below.come_is
      (lift k n (suc h) lo fs t steps (regrown G h k i r t.entries) r.unused below.new l (omega (arith, len, f.size)) g (omega (arith, below.long))
      (all-++ _ (set t.entries i (entry_for G h k r.node)) _
      (all_set _ t.entries i _ f.below (entry_ruled G h k r.node below.node_fine))
      (all_map_to _ (entry_for G h k) r.split_off (all_map (λ u x. entry_ruled G h k u x.1) r.split_off below.split_fine)))
      (Perm.trans (regrown_joined G k h i (records_at (suc h)) r t.entries e at)
      (Perm.trans (Perm.append_right (flat_map (records_at (suc h)) (without t.entries i)) below.records_more)
      (Perm.cons (record { key = k; link = n }) (Perm.symm (joined_perm (records_at (suc h)) (nth_first t.entries i e at))))))
      (differ_as (differ_beside below.differs (flat_map (written_at G (suc h)) (without t.entries i)))
      (joined_perm (written_at G (suc h)) (nth_first t.entries i e at))
      (regrown_joined G k h i (written_at G (suc h)) r t.entries e at)
      (Perm.refl _) (Perm.refl _))
      below.used_pages
      (rw splits_push (inner_runs h (splits steps) (length steps) (length t.entries) _ (length r.split_off) (length r.unused) (length fs)
      f.size.1 len below.long (splits_within steps) below.few below.used)))
    where
      len : length (regrown G h k i r t.entries) ≡ length t.entries + length r.split_off
      len = simp (length-append, length-set, length-map)

  pub grew : (k : K) (n h lo : ℕ) (fs : List ℕ) (t : Tree K h) → 1 ≤ lo → lo ≤ 4 → Fine G h lo t → splits (way_under G k h t) ≤ length fs →
      Grew G k n h lo fs t (way_under G k h t) (writes_under C k n h fs t) (insert_under C k n h fs t)
  grew k n zero lo fs t l m f g = subst (λ ws. Grew G k n zero lo fs t (way_under G k zero t) ws (insert_under C k n zero fs t)) (append-nil _)
      (lift k n zero lo fs t [] (t.entries ++ own ∷ []) fs [] m (omega (arith, e, f.size)) g refl (all-++ _ t.entries _ f.below (tt, tt))
      (joined_perm (records_at zero) (perm_append_singleton own t.entries))
      (differ_as (differ_not _) (Perm.refl _) (joined_perm (written_at G zero) (perm_append_singleton own t.entries)) (Perm.refl _) (Perm.refl _))
      (Perm.refl fs)
      (leaf_runs (length t.entries) _ (length fs) f.size.1 e))
    where
      own : Entry K ℕ
      own = record { key = k; link = n }

      e : length (t.entries ++ own ∷ []) ≡ length t.entries + 1
      e = length-append t.entries (own ∷ [])
  grew k n (suc h) lo fs t l m f g =
      inner (nth_there t.entries (least_growth G k t.entries) (within G k t.entries (omega (arith, f.size)))) (λ u fine run. grew k n h 4 fs u (omega arith) (omega arith) fine run)
    where
      inner : (e : Entry K (Tree K h)) × (slice_get t.entries (least_growth G k t.entries) ≡ Some e) →
          ((u : Tree K h) → Fine G h 4 u → splits (way_under G k h u) ≤ length fs → Grew G k n h 4 fs u (way_under G k h u) (writes_under C k n h fs u) (insert_under C k n h fs u)) →
          Grew G k n (suc h) lo fs t (way_under G k (suc h) t) (writes_under C k n (suc h) fs t) (insert_under C k n (suc h) fs t)
      inner (e, at) below = rw at (step_up k n h lo fs t steps (writes_under C k n h fs e.link) (least_growth G k t.entries) e (insert_under C k n h fs e.link) m f enough at
          (below e.link (record { size = rule.1; below = rule.2 }) (fits (new_root steps && (step t).full) (rw splits_push at enough))))
        where
          steps : List Step
          steps = way_under G k h e.link

          rule : Ruled G (suc h) e
          rule = all_nth _ t.entries (least_growth G k t.entries) e f.below at

          enough : splits (steps ++ step t ∷ []) ≤ length fs
          enough = rw at at g

          fits : (b : Bool) → cond b (length steps + 1) (splits steps) ≤ length fs → splits steps ≤ length fs
          fits true x = omega (arith, splits_within steps)
          fits false x = x

  once_from : (w z : Gist K) (ps fs : List ℕ) → Differ (written G w) (written G z) ps (ps ++ fs) → Nodup (pages w ++ fs) → Nodup (pages z)
  once_from w z ps fs d = Perm.nodup (Perm.symm (more_pages G w z ps fs d))

  adds_from : (w z : Gist K) (k : K) (n : ℕ) (fs : List ℕ) (ws : Written) → Perm (records z) (record { key = k; link = n } ∷ records w) → levels z ≡ levels w + cond (new_root (way G k w)) 1 0 →
      (levels z ≤ 7 → PageRules G z) → (d : Differ (written G w) (written G z) (paged (way G k w)) (paged (way G k w) ++ fs)) → d.come ≡ ws → AddsWriting G w z k n fs ws
  adds_from w z k n fs ws r l p d c = record { adds = record { one_more = r; height = l; rules = p; differ = d; once = once_from w z (paged (way G k w)) fs d }; come_is = c }

  -- A new root takes the one page left; else none is left.
  counts : (run long more left all : ℕ) (b : Bool) → eqb run long ≡ b → more ≡ cond b 1 0 → run + left ≡ all → all ≡ run + cond b 1 0 →
      (more ≡ left) × (cond b 1 0 ≡ more) × (left ≤ 1)
  counts run long more left all true t m l a = (omega arith, omega arith, omega arith)
  counts run long more left all false t m l a = (omega arith, omega arith, omega arith)

  adds_root : (k : K) (n h : ℕ) (fs : List ℕ) (t node : Tree K h) (split_off : List (Tree K h)) (unused : List ℕ) →
      (ws : Written) → Grew G k n h (root_least h) fs t (way_under G k h t) ws (record { node = node; split_off = split_off; unused = unused }) →
      (length split_off ≡ length unused) × (cond (new_root (way_under G k h t)) 1 0 ≡ length split_off) × (length unused ≤ 1) →
      AddsWriting G (root h t) (rooted G k h node split_off unused) k n fs (root_writes G k h (record { node = node; split_off = split_off; unused = unused }) unused split_off ++ ws)
  adds_root k n h fs t node [] [] ws g c = adds_from (root h t) (root h node) k n fs ws
      (rw append-nil at g.records_more)
      (omega (arith, c.1))
      (λ d. (omega arith, g.node_fine.size, g.node_fine.below))
      (differ_as g.differs (Perm.refl _) (perm_eq (sym (append-nil _))) (Perm.refl _) (rw append-nil at g.used_pages))
      g.come_is
  adds_root k n h fs t node (u ∷ []) (f ∷ []) ws g c = adds_from (root h t) (rooted G k h node (u ∷ []) (f ∷ [])) k n fs _
      g.records_more
      (omega (arith, c.1))
      (λ d. (omega arith, (omega arith, omega arith), (entry_ruled G h k node g.split_fine.0.0, (entry_ruled G h k u g.split_fine.0.1, tt))))
      (differ_as (differ_more g.differs [] ((f, _) ∷ [])) (Perm.refl _) (Perm.refl _) (Perm.refl _) (Perm.trans (Perm.symm (perm_append_singleton f g.new)) g.used_pages))
      (ap {B = Written} (λ (x : Written). (f, _) ∷ x) g.come_is)
  adds_root k n h fs t node [] (f ∷ unused) ws g c = absurd (omega (arith, c))
  adds_root k n h fs t node (u ∷ us) [] ws g c = absurd (omega (arith, c))
  adds_root k n h fs t node (u ∷ (u₁ ∷ us)) (f ∷ []) ws g c = absurd (omega (arith, c))
  adds_root k n h fs t node (u ∷ us) (f ∷ (f₁ ∷ unused)) ws g c = absurd (omega (arith, c))

  pub writes_adding : InsertWrites C
  writes_adding empty k n [] rules e = absurd (omega arith)
  writes_adding empty k n (f ∷ []) rules e = adds_from empty (inserted C k n (f ∷ []) empty) k n (f ∷ []) _ (Perm.refl _) refl (λ d. (omega arith, (omega arith, omega arith), (tt, tt)))
      (differ_more (differ_not []) [] ((f, _) ∷ [])) refl
  writes_adding empty k n (f ∷ (f₁ ∷ fs)) rules e = absurd (omega arith)
  writes_adding (root h t) k n fs rules e =
      adds_root k n h fs t _ _ _ _ g (counts (splits steps) (length steps) _ _ (length fs) (new_root steps) refl g.few g.used e)
    where
      steps : List Step
      steps = way_under G k h t

      low : (h : ℕ) → (1 ≤ root_least h) × (root_least h ≤ 4)
      low zero = (omega arith, omega arith)
      low (suc h) = (omega arith, omega arith)

      g : Grew G k n h (root_least h) fs t steps (writes_under C k n h fs t) (insert_under C k n h fs t)
      g = grew k n h (root_least h) fs t (low h).0 (low h).1 (record { size = rules.1; below = rules.2 }) (omega (arith, e))

  pub adds : InsertAdds C
  adds w k n fs rules e = (writes_adding w k n fs rules e).adds

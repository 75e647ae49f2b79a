-- Pools of entries, and how they are dealt to two nodes.
use Rattle.std.proofs.Common.{◌≡◌, ℕ, ◌+◌, ◌<◌, ◌≤◌, Bool, true, false, cond, ltb, ◌⊎◌, inl, inr, List, [], ◌∷◌, ◌++◌, map, length, get_or, take, sym, refl, ap, ◌∙◌, subst, append_assoc, append-nil, arith, length-append}
use lib.ListN.{length-map}
use Rattle.std.proofs.lemmas.Bool.{lt-ltb}
use Rattle.std.proofs.lemmas.Option.{slice_get_within, get_or_from_slice_get}
use Rattle.std.proofs.lemmas.List.{nil_from_length, map_push, length_push, length-take-le, get_or-take, get_or-map}
use Rattle.key_class.specs.Class.{Growing, Coded, Class, Lawful, Shares, Picks}
use Rattle.node.specs.Nodes.{Entry, keys, entry_words, node_words, stay, go}
use Rattle.node.specs.Reading.{count_in}
use Rattle.node.specs.InMemory.{rows_in, pushed_row, Pooled}
use Rattle.node.specs.declared.memory.Pool.{Pool}
use Rattle.node.proofs.Rows.{key_part, link_part}
use Rattle.node.proofs.Places.{Here, EntryAt, taken}
use Rattle.node.proofs.Marks.{stay_nil, go_nil, length_stay, length_go, stay_or_go, stay-take, go-take}
use Rattle.node.proofs.Edits.{pushed_within}

-- What puts the words of an entry into a pool: it is behind the others where there is room.
pub pooled_if : {K : Type 0} (G : Growing K) (p q : Pool) (es : List (Entry K ℕ)) → Pooled G p es → (e : Entry K ℕ) (row : List ℕ) → row ≡ entry_words G e
    → (r : Bool) → r ≡ ltb p.count 15 → q.count ≡ cond r (p.count + 1) p.count → rows_in q ≡ cond r (rows_in p ++ row ∷ []) (rows_in p)
    → (r ≡ ltb (length es) 15) × Pooled G q (cond r (es ++ e ∷ []) es)
pooled_if {K} G p q es is e row rowed r room count rows =
    (room ∙ ap (λ n. ltb n 15) is.many, either r count rows)
  where
    either : (r : Bool) → q.count ≡ cond r (p.count + 1) p.count → rows_in q ≡ cond r (rows_in p ++ row ∷ []) (rows_in p) → Pooled G q (cond r (es ++ e ∷ []) es)
    either true count rows = record {
      many = count ∙ ap (λ n. n + 1) is.many ∙ sym (length_push es e);
      rowed =
          rows ∙ ap (λ (l : List (List ℕ)). l ++ row ∷ []) is.rowed ∙ ap (λ (u : List ℕ). map (entry_words G) es ++ u ∷ []) rowed
          ∙ sym (map_push (entry_words G) es e);
    }
    either false count rows = record { many = count ∙ is.many; rowed = rows ∙ is.rowed }

-- The entries of a node come behind those of a pool, one by one.
pub pooled_more : {K : Type 0} (G : Growing K) (p q : Pool) (es fs : List (Entry K ℕ)) (i : ℕ) → Pooled G p (es ++ take i fs) → length es + length fs ≤ 15
    → (row : List ℕ) → EntryAt G fs i row → (r : Bool) → r ≡ ltb p.count 15 → q.count ≡ cond r (p.count + 1) p.count
    → rows_in q ≡ cond r (rows_in p ++ row ∷ []) (rows_in p) → Pooled G q (es ++ take (i + 1) fs)
pooled_more {K} G p q es fs i is few row t r full count rows =
    let xs : List (Entry K ℕ) = es ++ take i fs in
    let l = slice_get_within fs i t.it t.there in
    let n = length-append es (take i fs) in
    let m = length-take-le i fs (omega arith) in
    let a = pooled_if G p q xs is t.it row t.rowed r full count rows in
    let done : r ≡ true = a.0 ∙ lt-ltb (length xs) 15 (omega arith) in
    subst (Pooled G q)
    (ap (λ (b : Bool). cond b (xs ++ t.it ∷ []) xs) done ∙ append_assoc es (take i fs) (t.it ∷ []) ∙ ap (λ (ys : List (Entry K ℕ)). es ++ ys) (sym (taken fs i row t)))
    a.1

-- The row at a place of a pool, the words of the key in it, and the link.
pub row_in : {K : Type 0} (G : Growing K) (p : Pool) (es : List (Entry K ℕ)) → Pooled G p es → (i : ℕ) → i < length es → (h : Here es i) → get_or p.rows i [] ≡ entry_words G h.it
row_in G p es is i l h =
    let m = is.many in
    sym (get_or-take p.count p.rows i [] (omega arith)) ∙ ap (λ (rs : List (List ℕ)). get_or rs i []) is.rowed
    ∙ get_or-map (entry_words G) es i h.it [] l ∙ ap (entry_words G) (get_or_from_slice_get es i h.it h.it h.there)

key_in : {K : Type 0} {G : Growing K} (C : Coded G) (p : Pool) (es : List (Entry K ℕ)) → Pooled G p es → (i : ℕ) → i < length es → (h : Here es i)
    → take 4 (get_or p.rows i []) ≡ G.squeeze h.it.key
key_in {K} {G} C p es is i l h = ap (take 4) (row_in G p es is i l h) ∙ key_part C h.it

link_in : {K : Type 0} {G : Growing K} (C : Coded G) (p : Pool) (es : List (Entry K ℕ)) → Pooled G p es → (i : ℕ) → i < length es → (h : Here es i)
    → get_or (get_or p.rows i []) 4 0 ≡ h.it.link
link_in {K} {G} C p es is i l h = ap (λ (u : List ℕ). get_or u 4 0) (row_in G p es is i l h) ∙ link_part C h.it

-- The entries before these are on two nodes by their marks.
pub record Dealt {K : Type 0} (G : Growing K) (level : ℕ) (marks : List Bool) (es : List (Entry K ℕ)) (low high : List ℕ) (rows : List (List ℕ)) (goes : List Bool) : Type 0 where
  pub stayed : List (Entry K ℕ)
  pub gone : List (Entry K ℕ)
  pub left : List (Entry K ℕ)
  pub low_is : low ≡ node_words G level stayed
  pub high_is : high ≡ node_words G level gone
  pub rowed : rows ≡ map (entry_words G) left
  pub marked : length left ≤ length goes
  pub stays : stayed ++ stay goes left ≡ stay marks es
  pub leaves : gone ++ go goes left ≡ go marks es

-- What the class picks for the key words of entries are the marks of a split of their keys.
pub picked : {K Q : Type 0} (A : Class K Q) {G : Growing K} (C : Coded G) → A.growing ≡ G → (es : List (Entry K ℕ)) → 13 ≤ length es → length es ≤ 15
    → (words : List (List ℕ)) → words ≡ map (take 4) (map (entry_words G) es) → (goes : List Bool) → Picks A.growing A.split words goes
    → take (length es) goes ≡ A.split (keys es)
picked {K} A {G} C tied es low high words is goes pick =
    let n : length (keys es) ≡ length es = length-map es (λ e. e.key) in
    ap (λ (m : ℕ). take m goes) (sym n)
    ∙ pick (keys es) (ap (λ (B : Growing K). map B.squeeze (keys es)) tied ∙ sym (squeezed es) ∙ sym is) (omega arith) (omega arith)
  where
    squeezed : (es : List (Entry K ℕ)) → map (take 4) (map (entry_words G) es) ≡ map G.squeeze (keys es)
    squeezed [] = refl
    squeezed (e ∷ es) = let a = key_part C e in let b = squeezed es in cc

-- Each node gets at least four of at most 15, and so no more than eleven.
fits : {X : Type 0} (ms : List Bool) (xs : List X) → Shares (length xs) ms → length xs ≤ 15 → (length (stay ms xs) ≤ 12) × (length (go ms xs) ≤ 12)
fits ms xs s few =
    let a = length_stay ms xs s.each in
    let b = length_go ms xs s.each in
    let c = stay_or_go ms in
    (omega (arith, s.four_stay, s.four_go, s.each), omega (arith, s.four_stay, s.four_go, s.each))

-- So it is for what a lawful class picks.
pub each_fits : {K Q : Type 0} (A : Class K Q) → Lawful A → (es : List (Entry K ℕ)) → 13 ≤ length es → length es ≤ 15
    → (length (stay (A.split (keys es)) es) ≤ 12) × (length (go (A.split (keys es)) es) ≤ 12)
each_fits A lawful es low high =
    let n : length (keys es) ≡ length es = length-map es (λ e. e.key) in
    fits (A.split (keys es)) es (subst (λ (m : ℕ). Shares m (A.split (keys es))) n (lawful.splits (keys es) (omega arith) (omega arith))) high

-- The entry whose row comes first.
record Next {K : Type 0} (G : Growing K) (left : List (Entry K ℕ)) (row : List ℕ) (rows : List (List ℕ)) : Type 0 where
  it : Entry K ℕ
  rest : List (Entry K ℕ)
  is : left ≡ it ∷ rest
  first : row ≡ entry_words G it
  others : rows ≡ map (entry_words G) rest

next : {K : Type 0} (G : Growing K) (row : List ℕ) (rows : List (List ℕ)) (left : List (Entry K ℕ)) → row ∷ rows ≡ map (entry_words G) left → Next G left row rows
next G row rows [] e = cc
next G row rows (x ∷ xs) e = record { it = x; rest = xs; is = refl; first = cc; others = cc }

-- There is room for one of no more than twelve.
room : {X : Type 0} (xs : List X) (x : X) (rest all : List X) → xs ++ x ∷ rest ≡ all → length all ≤ 12 → length xs < 12
room xs x rest all e few = omega (arith, ap length e, length-append xs (x ∷ rest))

module _ {K : Type 0} {G : Growing K} (C : Coded G) (level : ℕ) (marks : List Bool) (es : List (Entry K ℕ)) where
  pub dealt_none : (low high : List ℕ) (rows : List (List ℕ)) (goes : List Bool) → low ≡ node_words G level [] → high ≡ node_words G level [] → rows ≡ map (entry_words G) es
      → length es ≤ length goes → take (length es) goes ≡ marks → Dealt G level marks es low high rows goes
  dealt_none low high rows goes a b rowed long m = record {
    stayed = [];
    gone = [];
    left = es;
    low_is = a;
    high_is = b;
    rowed = rowed;
    marked = long;
    stays = sym (stay-take goes es) ∙ ap (λ (ms : List Bool). stay ms es) m;
    leaves = sym (go-take goes es) ∙ ap (λ (ms : List Bool). go ms es) m;
  }

  pub dealt_all : (low high : List ℕ) (rows : List (List ℕ)) (goes : List Bool) → Dealt G level marks es low high rows goes → (length rows ≡ 0) ⊎ (length goes ≡ 0)
      → (low ≡ node_words G level (stay marks es)) × (high ≡ node_words G level (go marks es))
  dealt_all low high rows goes d over =
      let none : d.left ≡ [] = nil_from_length d.left (over_at over) in
      let a : stay goes d.left ≡ [] = ap (stay goes) none ∙ stay_nil goes in
      let b : go goes d.left ≡ [] = ap (go goes) none ∙ go_nil goes in (
        d.low_is ∙ ap (node_words G level) (sym (append-nil d.stayed) ∙ ap (λ (xs : List (Entry K ℕ)). d.stayed ++ xs) (sym a) ∙ d.stays),
        d.high_is ∙ ap (node_words G level) (sym (append-nil d.gone) ∙ ap (λ (xs : List (Entry K ℕ)). d.gone ++ xs) (sym b) ∙ d.leaves),
      )
    where
      over_at : (length rows ≡ 0) ⊎ (length goes ≡ 0) → length d.left ≡ 0
      over_at (inl e) = omega (arith, ap length d.rowed, length-map d.left (entry_words G))
      over_at (inr e) = omega (arith, d.marked)

  -- What is left to come, the first entry with its mark first.
  left_now : {low high : List ℕ} {rows : List (List ℕ)} {goes : List Bool} (d : Dealt G level marks es low high rows goes) (it : Entry K ℕ) (rest : List (Entry K ℕ)) → d.left ≡ it ∷ rest
      → (b : Bool) (goes' : List Bool) → goes ≡ b ∷ goes'
      → (d.stayed ++ stay (b ∷ goes') (it ∷ rest) ≡ stay marks es) × (d.gone ++ go (b ∷ goes') (it ∷ rest) ≡ go marks es)
  left_now {low} {high} {rows} {goes} d it rest is b goes' mark = (
    ap (λ xs. d.stayed ++ xs) (sym (ap (λ ms. stay ms d.left) mark ∙ ap (stay (b ∷ goes')) is)) ∙ d.stays,
    ap (λ xs. d.gone ++ xs) (sym (ap (λ ms. go ms d.left) mark ∙ ap (go (b ∷ goes')) is)) ∙ d.leaves,
  )

  -- The next entry, whose row comes first, goes or stays.
  module _ (low high : List ℕ) (rows : List (List ℕ)) (goes : List Bool) (d : Dealt G level marks es low high rows goes) (row : List ℕ) (rows' : List (List ℕ)) (first : rows ≡ row ∷ rows') (goes' : List Bool) where
    pub dealt_gone : goes ≡ true ∷ goes' → length (go marks es) ≤ 12 → (u : List ℕ) (r : Bool) → r ≡ ltb (count_in high) 12 → u ≡ cond r (pushed_row high row) high
        → Dealt G level marks es low u rows' goes'
    dealt_gone mark few u r full words =
        let n = next G row rows' d.left (sym first ∙ d.rowed) in
        let a = left_now d n.it n.rest n.is true goes' mark in
        record {
          stayed = d.stayed;
          gone = d.gone ++ n.it ∷ [];
          left = n.rest;
          low_is = d.low_is;
          high_is = pushed_within C level d.gone high d.high_is (room d.gone n.it _ _ a.1 few) n.it row n.first u r full words;
          rowed = n.others;
          marked = omega (arith, d.marked, ap length mark, ap length n.is);
          stays = a.0;
          leaves = append_assoc d.gone (n.it ∷ []) (go goes' n.rest) ∙ a.1;
        }

    pub dealt_stayed : goes ≡ false ∷ goes' → length (stay marks es) ≤ 12 → (u : List ℕ) (r : Bool) → r ≡ ltb (count_in low) 12 → u ≡ cond r (pushed_row low row) low
        → Dealt G level marks es u high rows' goes'
    dealt_stayed mark few u r full words =
        let n = next G row rows' d.left (sym first ∙ d.rowed) in
        let a = left_now d n.it n.rest n.is false goes' mark in
        record {
          stayed = d.stayed ++ n.it ∷ [];
          gone = d.gone;
          left = n.rest;
          low_is = pushed_within C level d.stayed low d.low_is (room d.stayed n.it _ _ a.0 few) n.it row n.first u r full words;
          high_is = d.high_is;
          rowed = n.others;
          marked = omega (arith, d.marked, ap length mark, ap length n.is);
          stays = append_assoc d.stayed (n.it ∷ []) (stay goes' n.rest) ∙ a.0;
          leaves = a.1;
        }

-- The words of a node after an entry is written, put behind the others or taken out.
use Rattle.std.proofs.Common.{◌≡◌, ℕ, suc, ◌+◌, ◌-◌, ◌*◌, ◌<◌, ◌≤◌, Bool, true, false, cond, ltb, List, [], ◌∷◌, ◌++◌, length, get_or, take, drop, set, replicate, sym, ap, ◌∙◌, append_assoc, append-nil, arith, length-append}
use borrow.Rule.Slice.PartMut.{put_mid}
use Rattle.std.specs.List.{copy_within, flat_map}
use Rattle.std.proofs.lemmas.List.Edits.{length-remove}
use Rattle.std.proofs.lemmas.Option.{slice_get_within}
use Rattle.std.proofs.lemmas.Bool.{lt-ltb}
use Rattle.std.proofs.lemmas.List.{take_all, take_at, drop_all, drop-drop, drop_more, drop-replicate, get_or_append_left, get_or-take, length-drop, length_push, length-set, length-take-le, take_more, set-append_right, set_split, replicate-append-replicate}
use Rattle.key_class.specs.Class.{Growing, Coded}
use Rattle.node.specs.Nodes.{Entry, entry_words, node_words, without}
use Rattle.node.specs.Reading.{count_in}
use Rattle.node.specs.InMemory.{with_row, pushed_row}
use Rattle.node.proofs.Places.{EntryAt, taken, zeros, laid, front, node_laid, laid_append, count_is, words_before, words_from}

-- The first four words of a row are copied to place i, and its last word is written behind them.
pub put_words : (w part row : List ℕ) (i : ℕ) → length w ≡ 64 → length row ≡ 5 → part ≡ take 4 row → i < 12
    → set (put_mid (4 + 5 * i) (4 + 5 * i + 5 - 1 - (4 + 5 * i)) w part) (4 + 5 * i + 5 - 1) (get_or row 4 0) ≡ with_row w i row
put_words w part row i long five same low =
    let a : ℕ = 4 + 5 * i in
    let link : ℕ = get_or row 4 0 in
    let size : length (take a w) ≡ a = length-take-le a w (omega arith) in
    let back : a + 5 - 1 - a ≡ 4 = omega arith in
    let four : a + 4 - a ≡ 4 = omega arith in
    let last : a + 5 - 1 ≡ a + 4 = omega arith in
    let nine : a + 4 + 1 ≡ 9 + 5 * i = omega arith in
    let rest : drop 4 (drop a w) ≡ get_or w (a + 4) 0 ∷ drop (9 + 5 * i) w =
    drop-drop 4 a w ∙ drop_more w (a + 4) 0 (omega arith) ∙ ap (λ (n : ℕ). get_or w (a + 4) 0 ∷ drop n w) nine in
    let whole : take 4 row ++ link ∷ [] ≡ row = sym (take_more row 4 0 (omega arith)) ∙ take_all 5 row (omega arith) in
    ap (λ (v : List ℕ). set (put_mid a (a + 5 - 1 - a) w v) (a + 5 - 1) link) same
    ∙ ap (λ (n : ℕ). set (put_mid a n w (take 4 row)) (a + 5 - 1) link) back
    ∙ ap (λ (n : ℕ). set (put_mid a 4 w (take 4 row)) n link) last
    ∙ set-append_right (take a w) (take 4 row ++ drop 4 (drop a w)) a (a + 4) link size (omega arith)
    ∙ ap (λ (n : ℕ). take a w ++ set (take 4 row ++ drop 4 (drop a w)) n link) four
    ∙ ap (λ l. take a w ++ l) (set-append_right (take 4 row) (drop 4 (drop a w)) 4 4 link (length-take-le 4 row (omega arith)) (omega arith))
    ∙ ap (λ (l : List ℕ). take a w ++ (take 4 row ++ set l 0 link)) rest
    ∙ ap (λ l. take a w ++ l) (sym (append_assoc (take 4 row) (link ∷ []) (drop (9 + 5 * i) w)))
    ∙ ap (λ l. take a w ++ (l ++ drop (9 + 5 * i) w)) whole

pub length_with : (w row : List ℕ) (i : ℕ) → length w ≡ 64 → length row ≡ 5 → i < 12 → length (with_row w i row) ≡ 64
length_with w row i long five low =
    let size = length-take-le (4 + 5 * i) w (omega arith) in
    let a = length-append (take (4 + 5 * i) w) (row ++ drop (9 + 5 * i) w) in
    let b = length-append row (drop (9 + 5 * i) w) in
    let d = length-drop (9 + 5 * i) w in
    omega arith

-- The count stays.
pub count_with : (w u row : List ℕ) (i : ℕ) → u ≡ with_row w i row → length w ≡ 64 → i < 12 → count_in u ≡ count_in w
count_with w u row i is long low =
    let size = length-take-le (4 + 5 * i) w (omega arith) in
    ap count_in is
    ∙ get_or_append_left (take (4 + 5 * i) w) (row ++ drop (9 + 5 * i) w) 0 1 (omega arith) ∙ get_or-take (4 + 5 * i) w 1 0 (omega arith)

-- The words from entry i + 1 on are copied to entry i, and zeros come behind them.
closed : (w : List ℕ) (i : ℕ) → length w ≡ 64 → i < 12
    → with_row (copy_within w (9 + 5 * i) 64 (4 + 5 * i)) 11 (replicate 5 0) ≡ take (4 + 5 * i) w ++ (drop (9 + 5 * i) w ++ replicate 5 0)
closed w i long low =
    let a : ℕ = 4 + 5 * i in
    let n : ℕ = 64 - (9 + 5 * i) in
    let tail : List ℕ = drop (9 + 5 * i) w in
    let last : List ℕ = drop (a + n) w in
    let size = length-take-le a w (omega arith) in
    let size_tail = length-drop (9 + 5 * i) w in
    let size_last = length-drop (a + n) w in
    let both = length-append (take a w) tail in
    let all = length-append (take a w ++ tail) last in
    let copied : copy_within w (9 + 5 * i) 64 a ≡ (take a w ++ tail) ++ last = ap (λ (l : List ℕ). (take a w ++ l) ++ last) (take_all n tail (omega arith)) in
    ap (λ (v : List ℕ). with_row v 11 (replicate 5 0)) copied
    ∙ ap (λ (v : List ℕ). v ++ (replicate 5 0 ++ drop 64 ((take a w ++ tail) ++ last))) (take_at (take a w ++ tail) last 59 (omega arith))
    ∙ ap (λ (v : List ℕ). (take a w ++ tail) ++ (replicate 5 0 ++ v)) (drop_all 64 ((take a w ++ tail) ++ last) (omega arith))
    ∙ append_assoc (take a w) tail (replicate 5 0)

-- One entry more has five zeros fewer behind it.
fewer_zeros : (n : ℕ) → drop 5 (zeros n) ≡ zeros (n + 1)
fewer_zeros n = let e : 60 - 5 * n - 5 ≡ 60 - 5 * (n + 1) = omega arith in rw e at (drop-replicate {X = ℕ} 5 (60 - 5 * n) 0)

more_zeros : (n : ℕ) → 1 ≤ n → n ≤ 12 → zeros n ++ replicate 5 0 ≡ zeros (n - 1)
more_zeros n some few = let e : 60 - 5 * n + 5 ≡ 60 - 5 * (n - 1) = omega arith in rw e at (replicate-append-replicate {A = ℕ} (60 - 5 * n) 5 0)

pub without_past : {A : Type 0} (xs : List A) (i : ℕ) → length xs ≤ i → without xs i ≡ xs
without_past {A} xs i l =
    ap (λ (a : List A). a ++ drop (suc i) xs) (take_all i xs l) ∙ ap (λ (b : List A). xs ++ b) (drop_all (suc i) xs (omega arith)) ∙ append-nil xs

module _ {K : Type 0} {G : Growing K} (C : Coded G) where
  -- An entry between others.
  between : (level n : ℕ) (before after : List (Entry K ℕ)) (e : Entry K ℕ) (rest : List ℕ)
      → front G level n before ++ (entry_words G e ++ (flat_map (entry_words G) after ++ rest)) ≡ laid G level n (before ++ e ∷ after) rest
  between level n before after e rest =
      ap (λ l. front G level n before ++ l) (sym (append_assoc (entry_words G e) (flat_map (entry_words G) after) rest))
      ∙ sym (laid_append G level n before (e ∷ after) rest)

  -- What is behind place i.
  words_behind : (level : ℕ) (es : List (Entry K ℕ)) (w : List ℕ) → w ≡ node_words G level es → (i : ℕ) → i < length es
      → drop (9 + 5 * i) w ≡ flat_map (entry_words G) (drop (suc i) es) ++ zeros (length es)
  words_behind level es w is i l =
      let nine : 9 + 5 * i ≡ 4 + 5 * suc i = omega arith in
      ap (λ (n : ℕ). drop n w) nine ∙ words_from C level es w is (suc i) (omega arith)

  -- Behind the last place is nothing.
  zeros_behind : (level : ℕ) (es : List (Entry K ℕ)) (w : List ℕ) → w ≡ node_words G level es → drop (9 + 5 * length es) w ≡ zeros (length es + 1)
  zeros_behind level es w is =
      let nine : 9 + 5 * length es ≡ 4 + 5 * length es + 5 = omega arith in
      ap (λ (n : ℕ). drop n w) nine ∙ sym (drop-drop 5 (4 + 5 * length es) w)
      ∙ ap (drop 5) (words_from C level es w is (length es) (omega arith))
      ∙ ap (λ (fs : List (Entry K ℕ)). drop 5 (flat_map (entry_words G) fs ++ zeros (length es))) (drop_all (length es) es (omega arith))
      ∙ fewer_zeros (length es)

  pub replaced : (level : ℕ) (es : List (Entry K ℕ)) (w : List ℕ) → w ≡ node_words G level es → (i : ℕ) → i < length es
      → (e : Entry K ℕ) (row : List ℕ) → row ≡ entry_words G e → (u : List ℕ) → u ≡ with_row w i row → u ≡ node_words G level (set es i e)
  replaced level es w is i l e row rowed u put =
      put
      ∙ ap (with_row w i) rowed
      ∙ ap (λ (v : List ℕ). v ++ (entry_words G e ++ drop (9 + 5 * i) w)) (words_before C level es w is i (omega arith))
      ∙ ap (λ (v : List ℕ). front G level (length es) (take i es) ++ (entry_words G e ++ v)) (words_behind level es w is i l)
      ∙ between level (length es) (take i es) (drop (suc i) es) e (zeros (length es))
      ∙ ap (λ (fs : List (Entry K ℕ)). laid G level (length es) fs (zeros (length es))) (sym (set_split es i e l))
      ∙ ap (λ (n : ℕ). laid G level n (set es i e) (zeros n)) (sym (length-set es i e))
      ∙ sym (node_laid G level (set es i e))

  pushed : (level : ℕ) (es : List (Entry K ℕ)) (w : List ℕ) → w ≡ node_words G level es → (e : Entry K ℕ)
      → pushed_row w (entry_words G e) ≡ node_words G level (es ++ e ∷ [])
  pushed level es w is e =
      ap (λ (n : ℕ). set (with_row w n (entry_words G e)) 1 (n + 1)) (count_is G level es w is)
      ∙ ap (λ (v : List ℕ). set (v ++ (entry_words G e ++ drop (9 + 5 * length es) w)) 1 (length es + 1))
      (words_before C level es w is (length es) (omega arith) ∙ ap (front G level (length es)) (take_all (length es) es (omega arith)))
      ∙ ap (λ (v : List ℕ). front G level (length es + 1) es ++ (entry_words G e ++ v)) (zeros_behind level es w is)
      ∙ between level (length es + 1) es [] e (zeros (length es + 1))
      ∙ ap (λ (n : ℕ). laid G level n (es ++ e ∷ []) (zeros n)) (sym (length_push es e))
      ∙ sym (node_laid G level (es ++ e ∷ []))

  -- What pushes the words of an entry: it is put behind the others where there is room.
  pub pushed_if : (level : ℕ) (es : List (Entry K ℕ)) (w : List ℕ) → w ≡ node_words G level es
      → (e : Entry K ℕ) (row : List ℕ) → row ≡ entry_words G e
      → (u : List ℕ) (r : Bool) → r ≡ ltb (count_in w) 12 → u ≡ cond r (pushed_row w row) w
      → (r ≡ ltb (length es) 12) × (u ≡ node_words G level (cond r (es ++ e ∷ []) es))
  pushed_if level es w is e row rowed u r room push =
      (room ∙ ap (λ n. ltb n 12) (count_is G level es w is), either r push)
    where
      either : (r : Bool) → u ≡ cond r (pushed_row w row) w → u ≡ node_words G level (cond r (es ++ e ∷ []) es)
      either true push = push ∙ ap (pushed_row w) rowed ∙ pushed level es w is e
      either false push = push ∙ is

  pub pushed_within : (level : ℕ) (es : List (Entry K ℕ)) (w : List ℕ) → w ≡ node_words G level es → length es < 12
      → (e : Entry K ℕ) (row : List ℕ) → row ≡ entry_words G e
      → (u : List ℕ) (r : Bool) → r ≡ ltb (count_in w) 12 → u ≡ cond r (pushed_row w row) w → u ≡ node_words G level (es ++ e ∷ [])
  pushed_within level es w is few e row rowed u r room push =
      let p = pushed_if level es w is e row rowed u r room push in
      p.1 ∙ ap (λ (b : Bool). node_words G level (cond b (es ++ e ∷ []) es)) (p.0 ∙ lt-ltb (length es) 12 few)

  -- The entries fs come behind es, one by one.
  pub pushed_more : (level : ℕ) (es fs : List (Entry K ℕ)) (i : ℕ) (w : List ℕ) → w ≡ node_words G level (es ++ take i fs) → length es + length fs ≤ 12
      → (row : List ℕ) → EntryAt G fs i row
      → (u : List ℕ) (r : Bool) → r ≡ ltb (count_in w) 12 → u ≡ cond r (pushed_row w row) w → u ≡ node_words G level (es ++ take (i + 1) fs)
  pushed_more level es fs i w is few row t u r room push =
      let l = slice_get_within fs i t.it t.there in
      let m = length-take-le i fs (omega arith) in
      let n = length-append es (take i fs) in
      pushed_within level (es ++ take i fs) w is (omega arith) t.it row t.rowed u r room push
      ∙ ap (node_words G level) (append_assoc es (take i fs) (t.it ∷ []) ∙ ap (λ (xs : List (Entry K ℕ)). es ++ xs) (sym (taken fs i row t)))

  pub removed : (level : ℕ) (es : List (Entry K ℕ)) (w : List ℕ) → w ≡ node_words G level es → length w ≡ 64 → (i : ℕ) → i < length es → length es ≤ 12
      → (v : List ℕ) (s d : ℕ) → s ≡ 4 + 5 * (i + 1) → d ≡ 4 + 5 * i → v ≡ copy_within w s (length w) d
      → (u : List ℕ) → u ≡ with_row v 11 (replicate 5 0)
      → set u 1 (count_in u - 1) ≡ node_words G level (without es i)
  removed level es w is long i l few v s d from to copied u put =
      let nine : s ≡ 9 + 5 * i = omega arith in
      let moved : v ≡ copy_within w (9 + 5 * i) 64 (4 + 5 * i) = copied ∙ cc in
      let now : u ≡ front G level (length es) (take i es) ++ (flat_map (entry_words G) (drop (suc i) es) ++ zeros (length es - 1)) =
      put ∙ ap (λ (x : List ℕ). with_row x 11 (replicate 5 0)) moved ∙ closed w i long (omega arith)
      ∙ ap (λ (x : List ℕ). x ++ (drop (9 + 5 * i) w ++ replicate 5 0)) (words_before C level es w is i (omega arith))
      ∙ ap (λ (x : List ℕ). front G level (length es) (take i es) ++ (x ++ replicate 5 0)) (words_behind level es w is i l)
      ∙ ap (λ x. front G level (length es) (take i es) ++ x)
      (append_assoc (flat_map (entry_words G) (drop (suc i) es)) (zeros (length es)) (replicate 5 0)
      ∙ ap (λ (x : List ℕ). flat_map (entry_words G) (drop (suc i) es) ++ x) (more_zeros (length es) (omega arith) few)) in
      let size = length-remove es i l in
      let fewer : length es - 1 ≡ length (without es i) = omega arith in
      ap (λ (x : List ℕ). set x 1 (count_in x - 1)) now
      ∙ sym (laid_append G level (length es - 1) (take i es) (drop (suc i) es) (zeros (length es - 1)))
      ∙ ap (λ (n : ℕ). laid G level n (without es i) (zeros n)) fewer
      ∙ sym (node_laid G level (without es i))

-- How the rows of five words lie in a page, and what the words of a node are made of.
use Rattle.std.proofs.Common.{◌≡◌, ℕ, zero, suc, ◌+◌, ◌-◌, ◌*◌, ◌<◌, ◌≤◌, List, [], ◌∷◌, ◌++◌, map, length, get_or, take, drop, replicate, Some, sym, refl, ap, ◌∙◌, append_assoc, arith, length-append, length-drop}
use Rattle.std.specs.List.{flat_map, AllByRecursion}
use Rattle.std.specs.Option.{option_map}
use Rattle.std.specs.Simd.{first_chunks}
use Rattle.std.proofs.lemmas.List.{take-append-drop, take_all, take_at, drop_at, drop-drop, drop_more, length-take-le, get_or_at}
use Rattle.key_class.specs.Class.{Growing, Coded}
use Rattle.node.specs.Nodes.{Entry, entry_words, node_words}
use Rattle.node.specs.Reading.{level_in, count_in, rows, entry_in}

-- The first of more rows.
pub first_rows : (k n : ℕ) (w : List ℕ) → k ≤ n → take k (first_chunks 5 n w) ≡ first_chunks 5 k w
first_rows zero n w l = refl
first_rows (suc k) zero w l = absurd (omega arith)
first_rows (suc k) (suc n) w l = ap (λ rs. take 5 w ∷ rs) (first_rows k n (drop 5 w) (omega arith))

-- The first of the rows that are left at i.
pub groups_more : (n i : ℕ) (w : List ℕ) → i < n → first_chunks 5 (n - i) (drop (4 + 5 * i) w) ≡ take 5 (drop (4 + 5 * i) w) ∷ first_chunks 5 (n - (i + 1)) (drop (4 + 5 * (i + 1)) w)
groups_more n i w l =
    let e : n - i ≡ suc (n - (i + 1)) = omega arith in
    let f : 4 + 5 * i + 5 ≡ 4 + 5 * (i + 1) = omega arith in
    ap (λ m. first_chunks 5 m (drop (4 + 5 * i) w)) e
    ∙ ap (λ v. take 5 (drop (4 + 5 * i) w) ∷ first_chunks 5 (n - (i + 1)) v) (drop-drop 5 (4 + 5 * i) w ∙ ap (λ m. drop m w) f)

five_at : (w : List ℕ) (a : ℕ) → a + 5 ≤ length w → take 5 (drop a w) ≡ get_or w a 0 ∷ get_or w (a + 1) 0 ∷ get_or w (a + 2) 0 ∷ get_or w (a + 3) 0 ∷ get_or w (a + 4) 0 ∷ []
five_at w a l =
    let s1 : a + 1 + 1 ≡ a + 2 = omega arith in
    let s2 : a + 2 + 1 ≡ a + 3 = omega arith in
    let s3 : a + 3 + 1 ≡ a + 4 = omega arith in
    let e0 = drop_more w a 0 (omega arith) in
    let e1 = drop_more w (a + 1) 0 (omega arith) in
    let e2 = drop_more w (a + 2) 0 (omega arith) in
    let e3 = drop_more w (a + 3) 0 (omega arith) in
    let e4 = drop_more w (a + 4) 0 (omega arith) in
    let all : drop a w ≡ get_or w a 0 ∷ get_or w (a + 1) 0 ∷ get_or w (a + 2) 0 ∷ get_or w (a + 3) 0 ∷ get_or w (a + 4) 0 ∷ drop (a + 4 + 1) w = cc in
    ap (take 5) all

-- A row is its five words.
pub five_words : (r : List ℕ) → length r ≡ 5 → get_or r 0 0 ∷ get_or r 1 0 ∷ get_or r 2 0 ∷ get_or r 3 0 ∷ get_or r 4 0 ∷ [] ≡ r
five_words r e = sym (five_at r 0 (omega arith)) ∙ take_all 5 r (omega arith)

-- A row is read by the words of its key and its link.
pub entry_parts : {K : Type 0} (G : Growing K) (w : List ℕ) (n : ℕ) (r : List ℕ) → w ≡ take 4 r → n ≡ get_or r 4 0 → option_map (λ k. record { key = k; link = n }) (G.unsqueeze w) ≡ entry_in G r
entry_parts G w n r e f = ap (λ m. option_map (λ k. record { key = k; link = m }) (G.unsqueeze w)) f ∙ ap (λ u. option_map (λ k. record { key = k; link = get_or r 4 0 }) (G.unsqueeze u)) e

-- The words of the key of row i, and its link.
pub row_key : (w : List ℕ) (i : ℕ) → 9 + 5 * i ≤ length w
    → take 4 (take 5 (drop (4 + 5 * i) w)) ≡ get_or w (4 + 5 * i) 0 ∷ get_or w (4 + 5 * i + 1) 0 ∷ get_or w (4 + 5 * i + 2) 0 ∷ get_or w (4 + 5 * i + 3) 0 ∷ []
row_key w i l = ap (take 4) (five_at w (4 + 5 * i) (omega arith))

pub row_link : (w : List ℕ) (i : ℕ) → 9 + 5 * i ≤ length w → get_or (take 5 (drop (4 + 5 * i) w)) 4 0 ≡ get_or w (8 + 5 * i) 0
row_link w i l =
    let e : 4 + 5 * i + 4 ≡ 8 + 5 * i = omega arith in
    ap (λ r. get_or r 4 0) (five_at w (4 + 5 * i) (omega arith)) ∙ ap (λ n. get_or w n 0) e

-- The rows and what stands behind them.
pub rows_joined : (n : ℕ) (v : List ℕ) → flat_map (λ r. r) (first_chunks 5 n v) ++ drop (5 * n) v ≡ v
rows_joined zero v = refl
rows_joined (suc n) v =
    let e : 5 * suc n ≡ 5 + 5 * n = omega arith in
    append_assoc (take 5 v) (flat_map (λ r. r) (first_chunks 5 n (drop 5 v))) (drop (5 * suc n) v)
    ∙ ap (λ u. take 5 v ++ (flat_map (λ r. r) (first_chunks 5 n (drop 5 v)) ++ u)) (ap (λ m. drop m v) e ∙ sym (drop-drop (5 * n) 5 v))
    ∙ ap (λ u. take 5 v ++ u) (rows_joined n (drop 5 v))
    ∙ take-append-drop 5 v

pub length_rows : (n : ℕ) (v : List ℕ) → length (first_chunks 5 n v) ≡ n
length_rows zero v = refl
length_rows (suc n) v = ap suc (length_rows n (drop 5 v))

pub all_fives : (n : ℕ) (v : List ℕ) → 5 * n ≤ length v → AllByRecursion (λ r. length r ≡ 5) (first_chunks 5 n v)
all_fives zero v l = tt
all_fives (suc n) v l = (length-take-le 5 v (omega arith), all_fives n (drop 5 v) (omega (arith, length-drop 5 v)))

-- A page whose words 2 and 3 are zero: its head, its rows, and what stands behind them.
pub page_is : (w : List ℕ) → 4 ≤ length w → get_or w 2 0 ≡ 0 → get_or w 3 0 ≡ 0
    → w ≡ level_in w ∷ count_in w ∷ 0 ∷ 0 ∷ (flat_map (λ r. r) (rows w) ++ drop (4 + 5 * count_in w) w)
page_is [] l e f = absurd (omega arith)
page_is (a ∷ []) l e f = absurd (omega arith)
page_is (a ∷ b ∷ []) l e f = absurd (omega arith)
page_is (a ∷ b ∷ c ∷ []) l e f = absurd (omega arith)
page_is (a ∷ b ∷ c ∷ d ∷ v) l e f =
    let w : List ℕ = a ∷ b ∷ c ∷ d ∷ v in
    let g = rows_joined b v in
    let h = drop-drop (5 * b) 4 w in
    cc

module _ {K : Type 0} {G : Growing K} (C : Coded G) where
  pub length_entry : (e : Entry K ℕ) → length (entry_words G e) ≡ 5
  length_entry e = simp length-append (omega (arith, C.four_words e.key))

  pub length_entries : (es : List (Entry K ℕ)) → length (flat_map (entry_words G) es) ≡ 5 * length es
  length_entries [] = refl
  length_entries (e ∷ es) =
      length-append (entry_words G e) (flat_map (entry_words G) es) ∙ omega (arith, length_entry e, length_entries es)

  -- The key's words and the link in the words of an entry.
  pub key_part : (e : Entry K ℕ) → take 4 (entry_words G e) ≡ G.squeeze e.key
  key_part e = take_at (G.squeeze e.key) (e.link ∷ []) 4 (C.four_words e.key)

  pub link_part : (e : Entry K ℕ) → get_or (entry_words G e) 4 0 ≡ e.link
  link_part e = get_or_at (G.squeeze e.key) e.link [] 0 4 (C.four_words e.key)

  -- The entry that was written is read back.
  pub entry_back : (e : Entry K ℕ) → entry_in G (entry_words G e) ≡ Some e
  entry_back e =
      sym (entry_parts G (G.squeeze e.key) e.link (entry_words G e) (sym (key_part e)) (sym (link_part e)))
      ∙ ap (option_map (λ k. record { key = k; link = e.link })) (C.round_trip e.key)

  first_rows_of : (es : List (Entry K ℕ)) (pad : List ℕ) → first_chunks 5 (length es) (flat_map (entry_words G) es ++ pad) ≡ map (entry_words G) es
  first_rows_of [] pad = refl
  first_rows_of (e ∷ es) pad =
      let v : List ℕ = flat_map (entry_words G) es ++ pad in
      let a = append_assoc (entry_words G e) (flat_map (entry_words G) es) pad in
      let t = take_at (entry_words G e) v 5 (length_entry e) in
      let d = drop_at (entry_words G e) v 5 (length_entry e) in
      ap (λ u. take 5 u ∷ first_chunks 5 (length es) (drop 5 u)) a
      ∙ ap (λ r. r ∷ first_chunks 5 (length es) (drop 5 (entry_words G e ++ v))) t
      ∙ ap (λ u. entry_words G e ∷ first_chunks 5 (length es) u) d
      ∙ ap (λ rs. entry_words G e ∷ rs) (first_rows_of es pad)

  pub rows_of : (level : ℕ) (es : List (Entry K ℕ)) → rows (node_words G level es) ≡ map (entry_words G) es
  unfolding node_words
  rows_of level es = first_rows_of es (replicate (60 - 5 * length es) 0)

  pub zeros_of : (level : ℕ) (es : List (Entry K ℕ)) → drop (4 + 5 * length es) (node_words G level es) ≡ replicate (60 - 5 * length es) 0
  unfolding node_words
  zeros_of level es =
      sym (drop-drop (5 * length es) 4 (node_words G level es))
      ∙ drop_at (flat_map (entry_words G) es) (replicate (60 - 5 * length es) 0) (5 * length es) (length_entries es)

-- Where an entry lies in the words of its node.
use Rattle.std.proofs.Common.{◌≡◌, ℕ, zero, suc, ◌+◌, ◌-◌, ◌*◌, ◌<◌, ◌≤◌, List, [], ◌∷◌, ◌++◌, map, length, get_or, take, drop, replicate, Some, None, Option, sym, refl, ap, ◌∙◌, append_assoc, arith}
use Rattle.std.specs.Option.{option_map}
use Rattle.std.specs.List.{flat_map, slice_get}
use Rattle.std.proofs.lemmas.Option.{slice_get-map, slice_get_within, get_or_from_slice_get}
use Rattle.std.proofs.lemmas.Grind.{flat_map-append}
use Rattle.std.proofs.lemmas.List.{take-append-drop, take_at, take_more, drop_at, get_or-drop, length-take-le}
use Rattle.key_class.specs.Class.{Growing, Coded}
use Rattle.node.specs.Nodes.{Entry, entry_words, node_words}
use Rattle.node.specs.Reading.{level_in, rows, entry_in}
use Rattle.node.proofs.Rows.{length_entries, key_part, link_part, entry_back, rows_of}

-- The element at place i, between those before it and those behind it.
pub record Here {X : Type 0} (xs : List X) (i : ℕ) : Type 0 where
  pub it : X
  pub there : slice_get xs i ≡ Some it
  pub so_far : take (i + 1) xs ≡ take i xs ++ it ∷ []
  pub left : drop i xs ≡ it ∷ drop (i + 1) xs

pub here : {X : Type 0} (xs : List X) (i : ℕ) → i < length xs → Here xs i
here [] i l = absurd (omega arith)
here (x ∷ xs) zero l = record { it = x; there = refl; so_far = refl; left = refl }
here (x ∷ xs) (suc i) l =
    let r = here xs i (omega arith) in
    let e : suc i + 1 ≡ suc (i + 1) = omega arith in
    record {
      it = r.it;
      there = r.there;
      so_far = ap (λ n. take n (x ∷ xs)) e ∙ ap (λ ys. x ∷ ys) r.so_far;
      left = r.left ∙ ap (λ n. r.it ∷ drop n (x ∷ xs)) (sym e);
    }

-- The four words from place n on.
abbrev pub four_at : List ℕ → ℕ → List ℕ
four_at w n = get_or w n 0 ∷ get_or w (n + 1) 0 ∷ get_or w (n + 2) 0 ∷ get_or w (n + 3) 0 ∷ []

-- What stands at the five places from n on.
pub record Five (w : List ℕ) (n : ℕ) (four : List ℕ) (x : ℕ) : Type 0 where
  pub keyed : four_at w n ≡ four
  pub linked : get_or w (n + 4) 0 ≡ x

five_at : (w : List ℕ) (n : ℕ) (four rest : List ℕ) (x : ℕ) → length four ≡ 4 → drop n w ≡ four ++ x ∷ rest → Five w n four x
five_at w n [] rest x f e = absurd (omega arith)
five_at w n (a ∷ []) rest x f e = absurd (omega arith)
five_at w n (a ∷ b ∷ []) rest x f e = absurd (omega arith)
five_at w n (a ∷ b ∷ c ∷ []) rest x f e = absurd (omega arith)
five_at w n (a ∷ b ∷ c ∷ d ∷ []) rest x f e =
    let at : (j : ℕ) → get_or w (n + j) 0 ≡ get_or (a ∷ b ∷ c ∷ d ∷ x ∷ rest) j 0 = λ j. sym (get_or-drop n w j 0) ∙ ap (λ (u : List ℕ). get_or u j 0) e in
    let z : n + 0 ≡ n = omega arith in
    let e0 : get_or w n 0 ≡ a = ap (λ (m : ℕ). get_or w m 0) (sym z) ∙ at 0 in
    let e1 : get_or w (n + 1) 0 ≡ b = at 1 in
    let e2 : get_or w (n + 2) 0 ≡ c = at 2 in
    let e3 : get_or w (n + 3) 0 ≡ d = at 3 in
    record { keyed = cc; linked = at 4 }
five_at w n (a ∷ b ∷ c ∷ d ∷ y ∷ more) rest x f e = absurd (omega arith)

-- The zeros behind n entries.
abbrev pub zeros : ℕ → List ℕ
zeros n = replicate (60 - 5 * n) 0

-- A node's words with a count of its own, and with any words behind the entries.
abbrev pub laid : {K : Type 0} → Growing K → ℕ → ℕ → List (Entry K ℕ) → List ℕ → List ℕ
laid G level n es rest = level ∷ n ∷ 0 ∷ 0 ∷ (flat_map (entry_words G) es ++ rest)

-- Its first words, up to the place behind the entries.
abbrev pub front : {K : Type 0} → Growing K → ℕ → ℕ → List (Entry K ℕ) → List ℕ
front G level n es = level ∷ n ∷ 0 ∷ 0 ∷ flat_map (entry_words G) es

pub node_laid : {K : Type 0} (G : Growing K) (level : ℕ) (es : List (Entry K ℕ)) → node_words G level es ≡ laid G level (length es) es (zeros (length es))
unfolding node_words
node_laid G level es = refl

pub laid_append : {K : Type 0} (G : Growing K) (level n : ℕ) (es fs : List (Entry K ℕ)) (rest : List ℕ)
    → laid G level n (es ++ fs) rest ≡ front G level n es ++ (flat_map (entry_words G) fs ++ rest)
laid_append G level n es fs rest =
    ap (λ l. level ∷ n ∷ 0 ∷ 0 ∷ l)
    (ap (λ l. l ++ rest) (flat_map-append (entry_words G) es fs) ∙ append_assoc (flat_map (entry_words G) es) (flat_map (entry_words G) fs) rest)

pub count_is : {K : Type 0} (G : Growing K) (level : ℕ) (es : List (Entry K ℕ)) (w : List ℕ) → w ≡ node_words G level es → get_or w 1 0 ≡ length es
count_is G level es w is = ap (λ (u : List ℕ). get_or u 1 0) (is ∙ node_laid G level es)

pub level_is : {K : Type 0} (G : Growing K) (level : ℕ) (es : List (Entry K ℕ)) (w : List ℕ) → w ≡ node_words G level es → level_in w ≡ level
level_is G level es w is = ap level_in (is ∙ node_laid G level es)

-- The entry at place i, whose row is r.
pub record EntryAt {K : Type 0} (G : Growing K) (es : List (Entry K ℕ)) (i : ℕ) (r : List ℕ) : Type 0 where
  pub it : Entry K ℕ
  pub there : slice_get es i ≡ Some it
  pub rowed : r ≡ entry_words G it

pub taken : {K : Type 0} {G : Growing K} (es : List (Entry K ℕ)) (i : ℕ) (r : List ℕ) (t : EntryAt G es i r) → take (i + 1) es ≡ take i es ++ t.it ∷ []
taken {K} es i r t = take_more es i t.it (slice_get_within es i t.it t.there) ∙ ap (λ (e : Entry K ℕ). take i es ++ e ∷ []) (get_or_from_slice_get es i t.it t.it t.there)

module _ {K : Type 0} {G : Growing K} (C : Coded G) where
  pub length_front : (level n : ℕ) (es : List (Entry K ℕ)) (i : ℕ) → i ≤ length es → length (front G level n (take i es)) ≡ 4 + 5 * i
  length_front level n es i l = omega (arith, length_entries C (take i es), length-take-le i es l)

  -- A node as the words before place i, and those from there on.
  pub cut : (level : ℕ) (es : List (Entry K ℕ)) (w : List ℕ) → w ≡ node_words G level es → (i : ℕ)
      → w ≡ front G level (length es) (take i es) ++ (flat_map (entry_words G) (drop i es) ++ zeros (length es))
  cut level es w is i =
      is ∙ node_laid G level es
      ∙ ap (λ (l : List (Entry K ℕ)). laid G level (length es) l (zeros (length es))) (sym (take-append-drop i es))
      ∙ laid_append G level (length es) (take i es) (drop i es) (zeros (length es))

  pub words_before : (level : ℕ) (es : List (Entry K ℕ)) (w : List ℕ) → w ≡ node_words G level es → (i : ℕ) → i ≤ length es
      → take (4 + 5 * i) w ≡ front G level (length es) (take i es)
  words_before level es w is i l =
      ap (take (4 + 5 * i)) (cut level es w is i)
      ∙ take_at (front G level (length es) (take i es)) (flat_map (entry_words G) (drop i es) ++ zeros (length es)) (4 + 5 * i) (length_front level (length es) es i l)

  pub words_from : (level : ℕ) (es : List (Entry K ℕ)) (w : List ℕ) → w ≡ node_words G level es → (i : ℕ) → i ≤ length es
      → drop (4 + 5 * i) w ≡ flat_map (entry_words G) (drop i es) ++ zeros (length es)
  words_from level es w is i l =
      ap (drop (4 + 5 * i)) (cut level es w is i)
      ∙ drop_at (front G level (length es) (take i es)) (flat_map (entry_words G) (drop i es) ++ zeros (length es)) (4 + 5 * i) (length_front level (length es) es i l)

  pub rows_are : (level : ℕ) (es : List (Entry K ℕ)) (w : List ℕ) → w ≡ node_words G level es → rows w ≡ map (entry_words G) es
  rows_are level es w is = ap rows is ∙ rows_of C level es

  row_at : (level : ℕ) (es : List (Entry K ℕ)) (w : List ℕ) → w ≡ node_words G level es → (i : ℕ)
      → slice_get (rows w) i ≡ option_map (entry_words G) (slice_get es i)
  row_at level es w is i = ap (λ (rs : List (List ℕ)). slice_get rs i) (rows_are level es w is) ∙ slice_get-map (entry_words G) es i

  -- Where there is no row, there is no entry.
  pub none_at : (level : ℕ) (es : List (Entry K ℕ)) (w : List ℕ) → w ≡ node_words G level es → (i : ℕ) → None ≡ slice_get (rows w) i → slice_get es i ≡ None
  none_at level es w is i h = go (slice_get es i) (h ∙ row_at level es w is i)
    where
      go : (o : Option (Entry K ℕ)) → None ≡ option_map (entry_words G) o → o ≡ None
      go None h = refl
      go (Some e) h = cc

  pub at_place : (level : ℕ) (es : List (Entry K ℕ)) (w : List ℕ) → w ≡ node_words G level es → (i : ℕ) (r : List ℕ) → Some r ≡ slice_get (rows w) i → EntryAt G es i r
  at_place level es w is i r h = go (slice_get es i) refl (h ∙ row_at level es w is i)
    where
      go : (o : Option (Entry K ℕ)) → slice_get es i ≡ o → Some r ≡ option_map (entry_words G) o → EntryAt G es i r
      go None e h = cc
      go (Some x) e h = record { it = x; there = e; rowed = cc }

  -- What the row at a place is read as.
  pub entry_at : (level : ℕ) (es : List (Entry K ℕ)) (w : List ℕ) → w ≡ node_words G level es → (i : ℕ) (r : List ℕ) → Some r ≡ slice_get (rows w) i
      → entry_in G r ≡ slice_get es i
  entry_at level es w is i r h = let t = at_place level es w is i r h in ap (entry_in G) t.rowed ∙ entry_back C t.it ∙ sym t.there

  pub key_at : (level : ℕ) (es : List (Entry K ℕ)) (w : List ℕ) → w ≡ node_words G level es → (i : ℕ) (r : List ℕ) → Some r ≡ slice_get (rows w) i
      → G.unsqueeze (take 4 r) ≡ option_map (λ e. e.key) (slice_get es i)
  key_at level es w is i r h =
      let t = at_place level es w is i r h in
      ap (λ (u : List ℕ). G.unsqueeze (take 4 u)) t.rowed ∙ ap G.unsqueeze (key_part C t.it) ∙ C.round_trip t.it.key ∙ ap (option_map (λ e. e.key)) (sym t.there)

  pub link_at : (level : ℕ) (es : List (Entry K ℕ)) (w : List ℕ) → w ≡ node_words G level es → (i : ℕ) (r : List ℕ) → Some r ≡ slice_get (rows w) i
      → Some (get_or r 4 0) ≡ option_map (λ e. e.link) (slice_get es i)
  link_at level es w is i r h =
      let t = at_place level es w is i r h in
      ap (λ (u : List ℕ). Some (get_or u 4 0)) t.rowed ∙ ap Some (link_part C t.it) ∙ ap (option_map (λ e. e.link)) (sym t.there)

  -- The same of the words of the page, by their places in it.
  pub words_at : (level : ℕ) (es : List (Entry K ℕ)) (w : List ℕ) → w ≡ node_words G level es → (i : ℕ) → i < length es → (h : Here es i)
      → Five w (4 + 5 * i) (G.squeeze h.it.key) h.it.link
  words_at level es w is i l h =
      let rest : List ℕ = flat_map (entry_words G) (drop (i + 1) es) in
      five_at w (4 + 5 * i) (G.squeeze h.it.key) (rest ++ zeros (length es)) h.it.link (C.four_words h.it.key)
      (words_from level es w is i (omega arith)
      ∙ ap (λ (xs : List (Entry K ℕ)). flat_map (entry_words G) xs ++ zeros (length es)) h.left
      ∙ append_assoc (entry_words G h.it) rest (zeros (length es))
      ∙ append_assoc (G.squeeze h.it.key) (h.it.link ∷ []) (rest ++ zeros (length es)))

  pub key_words_at : (level : ℕ) (es : List (Entry K ℕ)) (w : List ℕ) → w ≡ node_words G level es → (i : ℕ) → i < length es
      → G.unsqueeze (four_at w (4 + 5 * i)) ≡ option_map (λ e. e.key) (slice_get es i)
  key_words_at level es w is i l =
      let h = here es i l in
      ap G.unsqueeze (words_at level es w is i l h).keyed ∙ C.round_trip h.it.key ∙ ap (option_map (λ e. e.key)) (sym h.there)

  pub link_word_at : (level : ℕ) (es : List (Entry K ℕ)) (w : List ℕ) → w ≡ node_words G level es → (i : ℕ) → i < length es
      → Some (get_or w (8 + 5 * i) 0) ≡ option_map (λ e. e.link) (slice_get es i)
  link_word_at level es w is i l =
      let h = here es i l in
      let eight : 8 + 5 * i ≡ 4 + 5 * i + 4 = omega arith in
      ap Some (ap (λ (n : ℕ). get_or w n 0) eight ∙ (words_at level es w is i l h).linked) ∙ ap (option_map (λ e. e.link)) (sym h.there)

-- What each question tells of a page, and that the words of a node answer each with yes.
use Rattle.std.proofs.Common.{◌≡◌, ℕ, zero, suc, ◌+◌, ◌-◌, ◌*◌, ◌<◌, Bool, true, false, ◌&&◌, eqb, leb, List, [], ◌∷◌, ◌++◌, map, length, get_or, take, drop, replicate, is_some, Some, None, Option, sym, refl, ap, ◌∙◌, arith, length-drop}
use lib.ListN.{length-map}
use Rattle.std.specs.Option.{option_map}
use Rattle.std.specs.List.{list_all, cons_option, AllByRecursion}
use Rattle.std.specs.Simd.{first_chunks}
use Rattle.std.proofs.lemmas.List.Folds.{flat_map-map}
use Rattle.std.proofs.lemmas.List.{take_all, take_more}
use Rattle.std.proofs.lemmas.Bool.{false≢true, eqb-true, leb-true, le-leb, and_parts, and_from}
use Rattle.key_class.specs.Class.{Growing, Coded}
use Rattle.node.specs.Nodes.{Entry, IsNode, entry_words, node_words, link_fits}
use Rattle.node.specs.Reading.{level_in, count_in, rows, level_fits, count_fits, rest_is_zero, keys_fit, links_fit, unless, refusal_of, entries_in}
use Rattle.node.specs.declared.refusal.NodeRefusal.{NodeRefusal}
use Rattle.node.specs.declared.refusal.NodeRefusal.TheVariants.{BadLevel, BadCount, NotZero, BadKey, BadLink}
use Rattle.node.proofs.Rows.{groups_more, length_rows, all_fives, page_is, key_part, link_part, entry_back, rows_of, zeros_of}

-- The rows from place i on.
abbrev pub left : List ℕ → ℕ → List (List ℕ)
left w i = first_chunks 5 (count_in w - i) (drop (4 + 5 * i) w)

-- They pass where the first passes and the others do; b says whether the first does.
pub at_row : (f : List ℕ → Bool) (w : List ℕ) (i : ℕ) (b : Bool) → i < count_in w → f (take 5 (drop (4 + 5 * i) w)) ≡ b → list_all f (left w i) ≡ (b && list_all f (left w (i + 1)))
at_row f w i b l h = ap (list_all f) (groups_more (count_in w) i w l) ∙ ap (λ c. c && list_all f (left w (i + 1))) h

-- Each question has a yes.
pub record Fits {K : Type 0} (G : Growing K) (w : List ℕ) : Type 0 where
  pub level : level_fits w ≡ true
  pub count : count_fits w ≡ true
  pub rest : rest_is_zero w ≡ true
  pub keys : keys_fit G w ≡ true
  pub links : links_fit w ≡ true

unless_none : (b : Bool) (e : NodeRefusal) (next : Option NodeRefusal) → unless b e next ≡ None → (b ≡ true) × (next ≡ None)
unless_none true e next h = (refl, h)
unless_none false e next h = cc

pub fits_from_none : {K : Type 0} (G : Growing K) (w : List ℕ) → refusal_of G w ≡ None → Fits G w
fits_from_none G w h =
    let a = unless_none (level_fits w) BadLevel _ h in
    let b = unless_none (count_fits w) BadCount _ a.1 in
    let c = unless_none (rest_is_zero w) NotZero _ b.1 in
    let d = unless_none (keys_fit G w) BadKey _ c.1 in
    let e = unless_none (links_fit w) BadLink None d.1 in
    record { level = a.0; count = b.0; rest = c.0; keys = d.0; links = e.0 }

pub none_from_fits : {K : Type 0} (G : Growing K) (w : List ℕ) → Fits G w → refusal_of G w ≡ None
none_from_fits G w f = simp (f.level, f.count, f.rest, f.keys, f.links)

zeros : (xs : List ℕ) → list_all (λ x. eqb x 0) xs ≡ true → xs ≡ replicate (length xs) 0
zeros [] h = refl
zeros (x ∷ xs) h =
    let p = and_parts (eqb x 0) (list_all (λ y. eqb y 0) xs) h in
    let e = eqb-true x 0 p.0 in
    let f = zeros xs p.1 in
    cc

all_zero : (n : ℕ) → list_all (λ x. eqb x 0) (replicate n 0) ≡ true
all_zero zero = refl
all_zero (suc n) = all_zero n

whole_row : (r : List ℕ) → length r ≡ 5 → take 4 r ++ get_or r 4 0 ∷ [] ≡ r
whole_row r l = sym (take_more r 4 0 (omega arith)) ∙ take_all 5 r (omega arith)

entry_links : {K : Type 0} (G : Growing K) (level : ℕ) (rs : List (List ℕ)) → list_all (λ r. link_fits level (get_or r 4 0)) rs ≡ true → AllByRecursion (λ e. link_fits level e.link ≡ true) (entries_in G rs)
entry_links G level [] h = tt
entry_links {K} G level (r ∷ rs) h =
    let p = and_parts (link_fits level (get_or r 4 0)) (list_all (λ s. link_fits level (get_or s 4 0)) rs) h in
    go (G.unsqueeze (take 4 r)) p.0 (entry_links G level rs p.1)
  where
    go : (o : Option K) → link_fits level (get_or r 4 0) ≡ true → AllByRecursion (λ e. link_fits level e.link ≡ true) (entries_in G rs)
        → AllByRecursion (λ e. link_fits level e.link ≡ true) (cons_option (option_map (λ k. record { key = k; link = get_or r 4 0 }) o) (entries_in G rs))
    go None here ih = ih
    go (Some k) here ih = (here, ih)

module _ {K : Type 0} {G : Growing K} (C : Coded G) where
  -- The words of the entries read are the rows.
  rows_back : (rs : List (List ℕ)) → AllByRecursion (λ r. length r ≡ 5) rs → list_all (λ r. is_some (G.unsqueeze (take 4 r))) rs ≡ true → map (entry_words G) (entries_in G rs) ≡ rs
  rows_back [] five h = refl
  rows_back (r ∷ rs) five h =
      let p = and_parts (is_some (G.unsqueeze (take 4 r))) (list_all (λ s. is_some (G.unsqueeze (take 4 s))) rs) h in
      go (G.unsqueeze (take 4 r)) refl p.0 (rows_back rs five.1 p.1)
    where
      go : (o : Option K) → G.unsqueeze (take 4 r) ≡ o → is_some o ≡ true → map (entry_words G) (entries_in G rs) ≡ rs
          → map (entry_words G) (cons_option (option_map (λ k. record { key = k; link = get_or r 4 0 }) o) (entries_in G rs)) ≡ r ∷ rs
      go None e t ih = absurd (false≢true t)
      go (Some k) e t ih =
          ap (λ l. l ∷ map (entry_words G) (entries_in G rs)) (ap (λ u. u ++ get_or r 4 0 ∷ []) (C.only_squeezed (take 4 r) k e) ∙ whole_row r five.0)
          ∙ ap (λ l. r ∷ l) ih

  -- The entries read from the words of entries are these.
  pub entries_back : (es : List (Entry K ℕ)) → entries_in G (map (entry_words G) es) ≡ es
  entries_back [] = refl
  entries_back (e ∷ es) =
      ap (λ o. cons_option o (entries_in G (map (entry_words G) es))) (entry_back C e) ∙ ap (λ l. e ∷ l) (entries_back es)

  all_keys : (es : List (Entry K ℕ)) → list_all (λ r. is_some (G.unsqueeze (take 4 r))) (map (entry_words G) es) ≡ true
  all_keys [] = refl
  all_keys (e ∷ es) =
      and_from (is_some (G.unsqueeze (take 4 (entry_words G e)))) (list_all (λ r. is_some (G.unsqueeze (take 4 r))) (map (entry_words G) es))
      (ap (λ u. is_some (G.unsqueeze u)) (key_part C e) ∙ ap is_some (C.round_trip e.key))
      (all_keys es)

  all_links : (level : ℕ) (es : List (Entry K ℕ)) → AllByRecursion (λ e. link_fits level e.link ≡ true) es → list_all (λ r. link_fits level (get_or r 4 0)) (map (entry_words G) es) ≡ true
  all_links level [] h = refl
  all_links level (e ∷ es) h =
      and_from (link_fits level (get_or (entry_words G e) 4 0)) (list_all (λ r. link_fits level (get_or r 4 0)) (map (entry_words G) es))
      (ap (link_fits level) (link_part C e) ∙ h.0)
      (all_links level es h.1)

  -- Words that answer each question with yes are those of a node: of the entries read.
  pub node_from_fits : (w : List ℕ) → length w ≡ 64 → Fits G w → IsNode (level_in w) (entries_in G (rows w)) × (w ≡ node_words G (level_in w) (entries_in G (rows w)))
  unfolding node_words
  node_from_fits w l f =
      let n : ℕ = count_in w in
      let es : List (Entry K ℕ) = entries_in G (rows w) in
      let lv = and_parts (leb 1 (level_in w)) (leb (level_in w) 7) f.level in
      let ct = and_parts (leb 1 n) (leb n 12) f.count in
      let some = leb-true 1 n ct.0 in
      let few = leb-true n 12 ct.1 in
      let rest = and_parts (eqb (get_or w 2 0) 0 && eqb (get_or w 3 0) 0) (list_all (λ x. eqb x 0) (drop (4 + 5 * n) w)) f.rest in
      let two = and_parts (eqb (get_or w 2 0) 0) (eqb (get_or w 3 0) 0) rest.0 in
      let five : AllByRecursion (λ r. length r ≡ 5) (rows w) = all_fives n (drop 4 w) (omega (arith, length-drop 4 w)) in
      let back : map (entry_words G) es ≡ rows w = rows_back (rows w) five f.keys in
      let many : length es ≡ n = sym (length-map es (entry_words G)) ∙ ap length back ∙ length_rows n (drop 4 w) in
      let page = page_is w (omega arith) (eqb-true (get_or w 2 0) 0 two.0) (eqb-true (get_or w 3 0) 0 two.1) in
      let pad : length (drop (4 + 5 * n) w) ≡ 60 - 5 * length es = omega (arith, length-drop (4 + 5 * n) w) in
      let nought = zeros (drop (4 + 5 * n) w) rest.1 in
      let joint = flat_map-map (λ r. r) (entry_words G) es in
      (record { low = leb-true 1 (level_in w) lv.0; high = leb-true (level_in w) 7 lv.1; some = omega arith; few = omega arith; links = entry_links G (level_in w) (rows w) f.links }, cc)

  -- The words of a node answer each question with yes.
  pub fits_from_node : (level : ℕ) (es : List (Entry K ℕ)) → IsNode level es → Fits G (node_words G level es)
  unfolding node_words
  fits_from_node level es h = record {
    level = and_from (leb 1 level) (leb level 7) (le-leb 1 level h.low) (le-leb level 7 h.high);
    count = and_from (leb 1 (length es)) (leb (length es) 12) (le-leb 1 (length es) h.some) (le-leb (length es) 12 h.few);
    rest = ap (list_all (λ x. eqb x 0)) (zeros_of C level es) ∙ all_zero (60 - 5 * length es);
    keys = ap (list_all (λ r. is_some (G.unsqueeze (take 4 r)))) (rows_of C level es) ∙ all_keys es;
    links = ap (list_all (λ r. link_fits level (get_or r 4 0))) (rows_of C level es) ∙ all_links level es h.links;
  }

-- Entries as they stand on a page: their keys, their links, and what is done to them.
use Rattle.std.proofs.Common.{◌≡◌, ℕ, zero, suc, ◌≤◌, Bool, true, false, List, [], ◌∷◌, ◌++◌, map, length, set, Some, None, sym, refl, ap, arith}
use Rattle.std.specs.Option.{option_map}
use Rattle.std.specs.List.{slice_get}
use Rattle.std.proofs.lemmas.List.{map-set, map-append}
use Rattle.key_class.specs.Class.{Growing}
use Rattle.key_class.specs.Joined.{joined}
use Rattle.std.proofs.lemmas.Option.{none-some}
use Rattle.node.specs.Nodes.{Entry, keys, stay, go, without}
use Rattle.gist.specs.Tree.{Link, link_number, union_of}
use Rattle.gist.specs.Insert.{least, least_growth}
use Rattle.tree_pages.specs.OneNode.{least_place}
use Rattle.tree_pages.specs.Laid.{on_page}

module _ {K : Type 0} (h : ℕ) where
  abbrev pub numbered : Entry K (Link K h) → Entry K ℕ
  numbered e = record { key = e.key; link = link_number K h e.link }

  pub keys_on_page : (es : List (Entry K (Link K h))) → keys (on_page h es) ≡ keys es
  keys_on_page [] = refl
  keys_on_page (e ∷ es) = ap {B = List K} (λ ks. e.key ∷ ks) (keys_on_page es)

  pub stay_on_page : (bs : List Bool) (es : List (Entry K (Link K h))) → stay bs (on_page h es) ≡ on_page h (stay bs es)
  stay_on_page [] es = refl
  stay_on_page (b ∷ bs) [] = refl
  stay_on_page (true ∷ bs) (e ∷ es) = stay_on_page bs es
  stay_on_page (false ∷ bs) (e ∷ es) = ap {B = List (Entry K ℕ)} (λ xs. numbered e ∷ xs) (stay_on_page bs es)

  pub go_on_page : (bs : List Bool) (es : List (Entry K (Link K h))) → go bs (on_page h es) ≡ on_page h (go bs es)
  go_on_page [] es = refl
  go_on_page (b ∷ bs) [] = refl
  go_on_page (true ∷ bs) (e ∷ es) = ap {B = List (Entry K ℕ)} (λ xs. numbered e ∷ xs) (go_on_page bs es)
  go_on_page (false ∷ bs) (e ∷ es) = go_on_page bs es

  pub without_on_page : (es : List (Entry K (Link K h))) (i : ℕ) → without (on_page h es) i ≡ on_page h (without es i)
  without_on_page [] zero = refl
  without_on_page [] (suc i) = refl
  without_on_page (e ∷ es) zero = refl
  without_on_page (e ∷ es) (suc i) = ap {B = List (Entry K ℕ)} (λ xs. numbered e ∷ xs) (without_on_page es i)

  pub set_on_page : (es : List (Entry K (Link K h))) (i : ℕ) (e : Entry K (Link K h)) → set (on_page h es) i (numbered e) ≡ on_page h (set es i e)
  set_on_page es i e = sym (map-set numbered es i e)

  pub append_on_page : (es fs : List (Entry K (Link K h))) → on_page h es ++ on_page h fs ≡ on_page h (es ++ fs)
  append_on_page es fs = sym (map-append numbered es fs)

  pub key_on_page : (es : List (Entry K (Link K h))) (i : ℕ) → option_map (λ x. x.key) (slice_get (on_page h es) i) ≡ option_map (λ x. x.key) (slice_get es i)
  key_on_page [] i = refl
  key_on_page (x ∷ es) zero = refl
  key_on_page (x ∷ es) (suc i) = key_on_page es i

  pub link_on_page : (es : List (Entry K (Link K h))) (i : ℕ) → option_map (λ x. x.link) (slice_get (on_page h es) i) ≡ option_map (λ x. link_number K h x.link) (slice_get es i)
  link_on_page [] i = refl
  link_on_page (x ∷ es) zero = refl
  link_on_page (x ∷ es) (suc i) = link_on_page es i

  pub growth_on_page : (G : Growing K) (k : K) (es : List (Entry K (Link K h))) → least_growth G k (on_page h es) ≡ least_growth G k es
  growth_on_page G k es = ap least (same es)
    where
      same : (es : List (Entry K (Link K h))) → map (λ e. G.growth e.key k) (on_page h es) ≡ map (λ e. G.growth e.key k) es
      same [] = refl
      same (e ∷ es) = ap {B = List ℕ} (λ ns. G.growth e.key k ∷ ns) (same es)

module _ {K : Type 0} (G : Growing K) where
  -- The place of the least growth, where there are entries.
  pub place_none : (k : K) (es : List (Entry K ℕ)) → 1 ≤ length es → None ≡ least_place G k es → ⊥
  place_none k [] l e = omega arith
  place_none k (x ∷ es) l e = none-some _ e

  pub place_some : (k : K) (es : List (Entry K ℕ)) (i : ℕ) → Some i ≡ least_place G k es → i ≡ least_growth G k es
  place_some k [] i e = absurd (none-some _ (sym e))
  place_some k (x ∷ es) i e = cc

  -- The key of entries on a page.
  pub same_key : (h : ℕ) (k x : K) (es : List (Entry K (Link K h))) → Some x ≡ joined G (keys (on_page h es)) → x ≡ union_of G k es
  same_key h k x [] e = absurd (none-some _ (sym e))
  same_key h k x (y ∷ ys) e = let a : joined G (keys (on_page h (y ∷ ys))) ≡ joined G (keys (y ∷ ys)) = ap (joined G) (keys_on_page h (y ∷ ys)) in cc

  pub no_key : {L : Type 0} (es : List (Entry K L)) → 1 ≤ length es → None ≡ joined G (keys es) → ⊥
  no_key [] l e = omega arith
  no_key (x ∷ es) l e = none-some _ e

-- Nodes within the rules: what a split and a new entry come to.
use Rattle.std.proofs.Common.{◌≡◌, ℕ, suc, ◌<◌, ◌≤◌, Bool, List, [], ◌∷◌, map, length, Some, refl, ◌∙◌, arith}
use lib.ListN.{length-map}
use Rattle.std.specs.List.{AllByRecursion}
use Rattle.key_class.specs.Class.{Growing, Class, Lawful, Shares, staying, going}
use Rattle.key_class.specs.Joined.{joined as union-all}
use Rattle.node.specs.Nodes.{Entry, keys, stay, go}
use Rattle.node.proofs.Marks.{length_stay, length_go, stay_or_go}
use Rattle.gist.specs.Tree.{Tree, union_of, entry_for}
use Rattle.gist.specs.Insert.{least_growth}
use Rattle.gist.specs.Rules.{Between, Ruled}
use Rattle.gist.proofs.Lists.{least_within}

module _ {K : Type 0} (G : Growing K) where
  -- A node of lo to 12 entries, ruled below.
  pub record Fine (h lo : ℕ) (t : Tree K h) : Type 0 where
    pub size : Between lo 12 (length t.entries)
    pub below : AllByRecursion (Ruled G h) t.entries

  -- Entries have a union, the same whatever the key in reserve.
  pub union_there : {L : Type 0} (k : K) (es : List (Entry K L)) → 1 ≤ length es → union-all G (keys es) ≡ Some (union_of G k es)
  union_there k [] l = absurd (omega arith)
  union_there k (e ∷ es) l = refl

  pub entry_ruled : (h : ℕ) (k : K) (t : Tree K h) → Fine h 4 t → Ruled G (suc h) (entry_for G h k t)
  entry_ruled h k t f = (union_there k t.entries (omega (arith, f.size)), f.size, f.below)

  -- The entry of the least growth is one of the entries.
  pub within : {L : Type 0} (k : K) (es : List (Entry K L)) → 1 ≤ length es → least_growth G k es < length es
  within k es l =
      let n = length-map es (λ e. G.growth e.key k) in
      omega (arith, least_within (map (λ e. G.growth e.key k) es) (omega arith))

module _ {K Q : Type 0} (C : Class K Q) (law : Lawful C) where
  -- Both parts of a split have 4 to 11 entries.
  pub split_sizes : {L : Type 0} (es : List (Entry K L)) → 13 ≤ length es → length es ≤ 15 →
      Between 4 12 (length (stay (C.split (keys es)) es)) × Between 4 12 (length (go (C.split (keys es)) es))
  split_sizes {L} es a b = sizes (C.split (keys es)) (s.each ∙ n) s.four_stay s.four_go
    where
      n : length (keys es) ≡ length es
      n = length-map es (λ (x : Entry K L). x.key)

      s : Shares (length (keys es)) (C.split (keys es))
      s = law.splits (keys es) (omega (arith, n)) (omega (arith, n))

      sizes : (bs : List Bool) → length bs ≡ length es → 4 ≤ staying bs → 4 ≤ going bs → Between 4 12 (length (stay bs es)) × Between 4 12 (length (go bs es))
      sizes bs m s4 g4 = omega (arith, length_stay bs es m, length_go bs es m, stay_or_go bs)

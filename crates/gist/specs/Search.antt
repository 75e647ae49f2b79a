-- Search: depth first, by rising places, through the entries that may hold a match.
use Rattle.std.specs.Prelude.{ℕ, zero, suc, cond, List, [], ◌∷◌}
use Rattle.std.specs.List.{flat_map}
use Rattle.key_class.specs.Class.{Class}
use Rattle.node.specs.Nodes.{Entry}
use Rattle.gist.specs.Tree.{Link, Gist, empty, root}

abbrev pub found_at : {K Q : Type 0} → Class K Q → Q → (h : ℕ) → Entry K (Link K h) → List (Entry K ℕ)
found_at C q zero e = cond (C.matches e.key q) (e ∷ []) []
found_at C q (suc h) e = cond (C.may_hold e.key q) (flat_map (found_at C q h) e.link.entries) []

abbrev pub found : {K Q : Type 0} → Class K Q → Q → Gist K → List (Entry K ℕ)
found C q empty = []
found C q (root h t) = flat_map (found_at C q h) t.entries

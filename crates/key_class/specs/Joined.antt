-- The union of keys, joined from the first to the last.
use Rattle.std.specs.Prelude.{List, [], ◌∷◌, Some, None, Option}
use Rattle.key_class.specs.Class.{Growing}

abbrev pub joined_onto : {K : Type 0} → Growing K → K → List K → K
joined_onto G a [] = a
joined_onto G a (k ∷ ks) = joined_onto G (G.union a k) ks

-- No keys have no union.
abbrev pub joined : {K : Type 0} → Growing K → List K → Option K
joined G [] = None
joined G (k ∷ ks) = Some (joined_onto G k ks)

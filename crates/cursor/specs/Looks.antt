-- One turn of a search: the node of the page in hand is loaded, and one entry of it looked at.
use Rattle.std.specs.Prelude.{◌≡◌, ℕ, ◌<◌, List, ◌∷◌, Some, None, Option}
use Rattle.std.specs.Option.{option_map}
use Rattle.page_store.specs.Pages.{Pages}
use Rattle.key_class.specs.Class.{Class}
use Rattle.node.specs.Nodes.{Entry}
use Rattle.node.specs.InMemory.{words_in}
use Rattle.node.specs.declared.memory.Node.{Node}
use Rattle.tree_pages.specs.OneNode.{loaded}
use Rattle.cursor.specs.Ways.{steps_ahead}
use Rattle.cursor.specs.Awaits.{Awaits, entry}
use Rattle.cursor.specs.declared.way.Way.{Way}
use Rattle.cursor.specs.declared.looking.Outcome.{Outcome}
use Rattle.cursor.specs.declared.looking.Outcome.TheVariants.{Match, SamePage, OtherPage}

-- A node that was held is held still; where there was none, now that of the page, if it can be read.
abbrev pub Loads : Pages → ℕ → Option Node → Option Node → Type 0
Loads s page None o = option_map words_in o ≡ loaded s page
Loads s page (Some n) o = o ≡ Some n

-- What a look at one entry leaves to give on the way v. On the same page the node n is still held, on another none is.
abbrev pub Left : {K Q : Type 0} → Class K Q → Pages → Q → Node → Way → List (Entry K ℕ) → Outcome K → Type 0
Left {K} C s q n v todo (Match f) = (rest : List (Entry K ℕ)) × (todo ≡ entry f ∷ rest) × Awaits C s q (record { way = v; node = Some n }) rest
Left C s q n v todo SamePage = Awaits C s q (record { way = v; node = Some n }) todo
Left C s q n v todo OtherPage = Awaits C s q (record { way = v; node = None }) todo

-- A look with the node n in hand led from the way w to v.
pub record Looked {K Q : Type 0} (C : Class K Q) (q : Q) (n : Node) (w v : Way) (r : Outcome K) : Type 0 where
  pub less : steps_ahead v < steps_ahead w
  pub says : (s : Pages) (todo : List (Entry K ℕ)) → Awaits C s q (record { way = w; node = Some n }) todo → Left C s q n v todo r

-- What a search that is worked off leaves in the log.
use Rattle.std.specs.Prelude.{◌≡◌, ℕ, true, List, ◌++◌, map, vec_items}
use Rattle.page_store.specs.Pages.{Pages}
use Rattle.page_store.specs.declared.store.PageStore.{Ghosts as StoreGhosts}
use Rattle.key_class.specs.declared.class.Key.{Ghosts as KeyGhosts}
use Rattle.key_class.specs.declared.class.KeyClass.{Ghosts as ClassGhosts}
use Rattle.node.specs.Nodes.{Entry}
use Rattle.intervals.specs.Intervals.{interval_class}
use Rattle.intervals.specs.declared.interval.Interval.{Interval}
use Rattle.intervals.specs.declared.interval.IntervalQuery.{IntervalQuery}
use Rattle.index.specs.Searching.{ToCome}
use Rattle.index.specs.declared.search.Search.{Search}
use Rattle.feeders.specs.declared.answer.Answer.{Answer}
use Rattle.feeders.specs.declared.answer.Answer.TheVariants.{Found}
use Rattle.feeders.specs.declared.log.Log.{Log}

abbrev pub found_answers : List (Entry Interval ℕ) → List Answer
found_answers es = map (λ e. Found e.link) es

-- All records that were still to come are noted, in their order, unless memory ran out.
pub record Lists {S : Type 0} {CG : ClassGhosts Interval IntervalQuery} {KG : KeyGhosts Interval} {SG : StoreGhosts S} (s : Pages) (x : Search Interval S IntervalQuery CG KG SG) (before after : Log) : Type 0 where
  pub says : (all : List (Entry Interval ℕ)) → ToCome interval_class s x all → after.whole ≡ true
      → vec_items after.answers ≡ vec_items before.answers ++ found_answers all

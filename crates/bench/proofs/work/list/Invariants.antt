use Rattle.cursor.specs.Awaits.{left_to_do}
use Rattle.index.specs.Searching.{cursor_in}
use Rattle.bench.proofs.work.list.Given as goal

abbrev pub decreases-loop-found : goal.decreases-loop-found
decreases-loop-found g l = left_to_do (cursor_in l.search)

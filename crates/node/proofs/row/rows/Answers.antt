use Rattle.std.proofs.Common.{drop, arith}
use Rattle.std.proofs.lemmas.List.{take_all, length-drop}
use Rattle.std.proofs.lemmas.Grind.{common_steps}
use Rattle.node.proofs.Rows.{first_rows}
use Rattle.node.proofs.row.rows.Goals as goal

pub returns : goal.returns
returns c = grind (arith, common_steps, first_rows, take_all 60 (drop 4 c.args.words.now), length-drop 4 c.args.words.now)

use Rattle.std.proofs.Common.{arith}
use Rattle.tree_pages.proofs.Standing.{stands}
use Rattle.index.proofs.index.Index.begin.Goals as goal

pub returns-clause-begins : goal.returns-clause-begins
returns-clause-begins g c = record {
  says = λ before w st. c.start-cursor.ensures.says _ _ w st.on.rules (stands _ before _ w st.on) (grind (arith, st.starts));
}

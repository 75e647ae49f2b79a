use Rattle.std.proofs.Common.{sym, subst}
use Rattle.std.proofs.Math.Logic.{∥∥₁_map}
use Rattle.std.proofs.lemmas.Result.{err_from_is_err_and}
use Rattle.key_class.specs.Class.{Coded}
use Rattle.index.proofs.Recording.{removes, refuses, tree_removed, removes_from_a_tree}
use Rattle.index.proofs.index.Index.remove.Goals as goal

pub invariant_of-self : goal.invariant_of-self
invariant_of-self g c =
    let r = refuses g.K.KeyClass.class (subst Coded (sym g.met.K.KeyClass.tied) g.met.K.Key.coded) g.met.K.KeyClass.lawful _ _ c.args.self.now.shape _ _ _ c.in_err-self.ensures in
    record { stands = ∥∥₁_map c.args.self.now.stands (tree_removed _ r) }

pub returns-in_err-self : goal.returns-in_err-self
returns-in_err-self g c =
    let r = refuses g.K.KeyClass.class (subst Coded (sym g.met.K.KeyClass.tied) g.met.K.Key.coded) g.met.K.KeyClass.lawful _ _ c.args.self.now.shape _ _ _ c.in_err-self.ensures in
    let p = err_from_is_err_and c.from_residual.result c.from_residual.ensures.1 in
    rw (p.1, p.2) (record { removes = r; tree = removes_from_a_tree _ r c.args.self.now.stands })

pub invariant_of-self-2 : goal.invariant_of-self-2
invariant_of-self-2 g c =
    let r = removes g.K.KeyClass.class (subst Coded (sym g.met.K.KeyClass.tied) g.met.K.Key.coded) g.met.K.KeyClass.lawful _ _ c.args.self.now.shape _ _ _ c.saturating_sub-self.result c.saturating_sub-self.ensures c.in_ok-self.ensures in
    record { stands = ∥∥₁_map c.args.self.now.stands (tree_removed _ r) }

pub returns : goal.returns
returns g c =
    let r = removes g.K.KeyClass.class (subst Coded (sym g.met.K.KeyClass.tied) g.met.K.Key.coded) g.met.K.KeyClass.lawful _ _ c.args.self.now.shape _ _ _ c.saturating_sub-self.result c.saturating_sub-self.ensures c.in_ok-self.ensures in
    record { removes = r; tree = removes_from_a_tree _ r c.args.self.now.stands }

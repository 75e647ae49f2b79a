use Rattle.std.proofs.Math.Logic.{∥∥₁_map}
use Rattle.std.proofs.lemmas.Result.{err_from_is_err_and}
use Rattle.index.proofs.Recording.{next_is, inserts, refuses_insert, tree_inserted, inserts_into_a_tree}
use Rattle.index.proofs.index.Index.insert.Goals as goal

pub invariant_of-self : goal.invariant_of-self
invariant_of-self g c =
    let r = refuses_insert g.K.KeyClass.class _ _ c.args.self.now.shape _ _ _ (next_is _ _ _ _ c.checked_add.ensures c.in_ok-number.ensures.value) c.in_err-root.ensures in
    record { stands = ∥∥₁_map c.args.self.now.stands (tree_inserted _ r) }

pub returns-in_err-root : goal.returns-in_err-root
returns-in_err-root g c =
    let r = refuses_insert g.K.KeyClass.class _ _ c.args.self.now.shape _ _ _ (next_is _ _ _ _ c.checked_add.ensures c.in_ok-number.ensures.value) c.in_err-root.ensures in
    let p = err_from_is_err_and c.from_residual-in_err-root.result c.from_residual-in_err-root.ensures.1 in
    rw (p.1, p.2) (record { inserts = r; tree = inserts_into_a_tree _ r c.args.self.now.stands })

pub invariant_of-self-2 : goal.invariant_of-self-2
invariant_of-self-2 g c =
    let r = inserts g.K.KeyClass.class g.met.K.KeyClass.lawful _ _ c.args.self.now.shape _ _ c.in_ok-root.root c.saturating_add-self.result
    (next_is _ _ _ _ c.checked_add.ensures c.in_ok-number.ensures.value) c.saturating_add-self.ensures c.in_ok-root.ensures in
    record { stands = ∥∥₁_map c.args.self.now.stands (tree_inserted _ r) }

pub returns : goal.returns
returns g c =
    let r = inserts g.K.KeyClass.class g.met.K.KeyClass.lawful _ _ c.args.self.now.shape _ _ c.in_ok-root.root c.saturating_add-self.result
    (next_is _ _ _ _ c.checked_add.ensures c.in_ok-number.ensures.value) c.saturating_add-self.ensures c.in_ok-root.ensures in
    record { inserts = r; tree = inserts_into_a_tree _ r c.args.self.now.stands }

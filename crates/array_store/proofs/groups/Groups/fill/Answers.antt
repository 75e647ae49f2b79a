use Rattle.std.proofs.Common.{refl, arith}
use Rattle.array_store.proofs.Edited.{fill_edits}
use Rattle.array_store.proofs.groups.Groups.fill.Goals as goal

pub returns : goal.returns
returns c = λ held. record {
  size = refl;
  words =
      rw c.copy_from_slice.ensures.after
      (fill_edits c.args.self.now.words c.deref_mut.ensures.value c.body.ensures.start c.body.ensures.end c.told-words (omega arith) held);
}

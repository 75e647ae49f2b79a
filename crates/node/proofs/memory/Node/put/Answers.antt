use Rattle.std.proofs.Common.{ℕ, ◌+◌, ◌-◌, set, get_or, ap, ◌∙◌}
use borrow.Rule.Slice.PartMut.{put_mid}
use Rattle.node.proofs.Edits.{put_words}
use Rattle.node.proofs.memory.Node.put.Goals as goal

pub returns : goal.returns
returns c =
    let w = c.args.self.now.words in
    let part = c.copy_from_slice.new.self in
    let row = c.args.row.now in
    ap (λ (a : ℕ). set (put_mid a (a + 5 - 1 - a) w part) (a + 5 - 1) (get_or row 4 0)) c.start-at.ensures
    ∙ put_words w part row c.args.i c.args.self.now.long c.told-row (c.copy_from_slice.ensures.after ∙ c.key_words.ensures) c.requires

use Rattle.std.proofs.Common.{length, sym, ap, ◌∙◌}
use Rattle.key_class.proofs.Coding.{length_keys}
use Rattle.key_class.proofs.keys.Keys.len.Goals as goal

pub returns : goal.returns
returns g c = sym (length_keys g.K.Key.growing c.self.inside.words.now c.self.invariant) ∙ ap length c.self.view_is

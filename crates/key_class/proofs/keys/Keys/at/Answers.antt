use Rattle.std.proofs.Common.{◌∙◌, sym, arith}
use Rattle.key_class.proofs.Coding.{there}
use Rattle.key_class.proofs.keys.Keys.at.Goals as goal

pub offset_bounds-words-i : goal.offset_bounds-words-i
offset_bounds-words-i g c = let t = there g.K.Key.growing c.args.self.now c.self.inside.words.now c.args.i c.self.invariant c.self.view_is c.requires in omega arith

pub bounds-words-i : goal.bounds-words-i
bounds-words-i g c = (there g.K.Key.growing c.args.self.now c.self.inside.words.now c.args.i c.self.invariant c.self.view_is c.requires).within

pub unreachable-requires : goal.unreachable-requires
unreachable-requires g c =
    let t = there g.K.Key.growing c.args.self.now c.self.inside.words.now c.args.i c.self.invariant c.self.view_is c.requires in cc (c.in-None.ensures, t.of_words)

pub returns : goal.returns
returns g c =
    let t = there g.K.Key.growing c.args.self.now c.self.inside.words.now c.args.i c.self.invariant c.self.view_is c.requires in
    t.of_keys ∙ sym t.of_words ∙ sym c.in-Some.ensures

use Rattle.std.proofs.Common.{◌≡◌, List, length, take, refl, ap, arith, subst, ◌∙◌}
use Rattle.std.proofs.lemmas.Bool.{false≢true}
use Rattle.key_class.specs.Quadratic.{quadratic}
use Rattle.key_class.proofs.Coding.{read, length_keys}
use Rattle.key_class.proofs.Seeding.{seeds_first_worst}
use Rattle.key_class.proofs.Sharing.{quadratic_shares}
use Rattle.key_class.proofs.quadratic.quadratic_split.Goals as goal

pub returns-then-not-contains-clause-seeds : goal.returns-then-not-contains-clause-seeds
returns-then-not-contains-clause-seeds g c = λ d ks _. seeds_first_worst g.K.Key.growing d ks

pub returns-in_default-clause-picks : goal.returns-in_default-clause-picks
returns-in_default-clause-picks g c = λ ks e _ _.
    let all = (read g.met.K.Key.coded ks c.args.words.now e).all in absurd (false≢true (rw c.in_default.is at (c.new-2.ensures.some.1 all)))

pub returns-in_default-clause-seeds : goal.returns-in_default-clause-seeds
returns-in_default-clause-seeds g c = λ d ks _. seeds_first_worst g.K.Key.growing d ks

pub returns-in_default-clause-shares : goal.returns-in_default-clause-shares
returns-in_default-clause-shares g c = λ ks _. quadratic_shares g.K.Key.growing ks

pub marks-requires : goal.marks-requires
marks-requires g c =
    let n = length_keys g.K.Key.growing c.args.words.now (c.in-Some.ensures.some.0 refl) in let e = ap length c.in-Some.ensures.keys in grind arith

pub returns-clause-picks : goal.returns-clause-picks
returns-clause-picks g c = λ ks e _ _.
    subst (λ (l : List g.row.K.Denot). take (length l) c.marks.result ≡ quadratic g.K.Key.growing l) (c.in-Some.ensures.keys ∙ (read g.met.K.Key.coded ks c.args.words.now e).keys) c.marks.ensures

pub returns-clause-seeds : goal.returns-clause-seeds
returns-clause-seeds g c = λ d ks _. seeds_first_worst g.K.Key.growing d ks

pub returns-clause-shares : goal.returns-clause-shares
returns-clause-shares g c = λ ks _. quadratic_shares g.K.Key.growing ks

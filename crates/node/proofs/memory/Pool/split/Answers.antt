use Rattle.std.proofs.Common.{◌≡◌, ◌∷◌, inl, inr, map, take, length, ap, ◌∙◌, arith}
use Rattle.std.proofs.lemmas.List.{take-map}
use Rattle.std.specs.Slice.Iter.{iter_rest}
use Rattle.std.specs.Iterator.Adapters.{zip_first, zip_second}
use Rattle.node.specs.Nodes.{keys}
use Rattle.node.proofs.Pools.{picked, each_fits, dealt_none, dealt_all, dealt_gone, dealt_stayed}
use Rattle.node.proofs.memory.Pool.split.Goals as goal

pub loop-row-init : goal.loop-row-init
loop-row-init g c = λ es is low high.
    let p = c.args.self.now in
    let same = c.into_iter-row-iterator.ensures.into_iter_gives in
    let rows : iter_rest c.into_iter-row-iterator.result.a ≡ take p.count p.rows = ap (λ z. iter_rest (zip_first z)) same ∙ ap iter_rest c.zip-row-items.ensures.first ∙ c.iter.ensures.rest in
    let goes : iter_rest c.into_iter-row-iterator.result.b ≡ c.pick_split-goes.result = ap (λ z. iter_rest (zip_second z)) same ∙ c.zip-row-items.ensures.second.0 in
    let words : take p.count c.keys.result ≡ map (take 4) (take p.count p.rows) = ap (take p.count) c.keys.ensures ∙ take-map (take 4) p.count p.rows in
    dealt_none g.met.K.Key.coded c.args.level (g.K.KeyClass.class.split (keys es)) es c.new-stay.result.words c.new-go.result.words _ _
    c.new-stay.ensures c.new-go.ensures (rows ∙ is.rowed) (omega (arith, ap length goes))
    (ap (take (length es)) goes
    ∙ picked g.K.KeyClass.class g.met.K.Key.coded g.met.K.KeyClass.tied es low high (take p.count c.keys.result) (words ∙ ap (map (take 4)) is.rowed) c.pick_split-goes.result c.pick_split-goes.ensures)

pub loop-row-preserved-then-goes : goal.loop-row-preserved-then-goes
loop-row-preserved-then-goes g c = λ es is low high.
    let s = c.in-Some.ensures.steps in
    dealt_gone g.met.K.Key.coded c.args.level (g.K.KeyClass.class.split (keys es)) es c.loop-row.stay.words c.loop-row.go.words _ _ (c.loop-row.invariant es is low high)
    c.in-Some.row.now _ s.0 (iter_rest c.next.new.self.b) (s.1 ∙ ap (λ b. b ∷ iter_rest c.next.new.self.b) c.if-goes.true) (each_fits g.K.KeyClass.class g.met.K.KeyClass.lawful es low high).1
    c.push_row.new.self.words c.push_row.result c.push_row.ensures.full c.push_row.ensures.words

pub loop-row-preserved : goal.loop-row-preserved
loop-row-preserved g c = λ es is low high.
    let s = c.in-Some.ensures.steps in
    dealt_stayed g.met.K.Key.coded c.args.level (g.K.KeyClass.class.split (keys es)) es c.loop-row.stay.words c.loop-row.go.words _ _ (c.loop-row.invariant es is low high)
    c.in-Some.row.now _ s.0 (iter_rest c.next.new.self.b) (s.1 ∙ ap (λ b. b ∷ iter_rest c.next.new.self.b) c.if-goes.false) (each_fits g.K.KeyClass.class g.met.K.KeyClass.lawful es low high).0
    c.push_row-else-goes.new.self.words c.push_row-else-goes.result c.push_row-else-goes.ensures.full c.push_row-else-goes.ensures.words

pub returns : goal.returns
returns g c = λ es is low high.
    let d = c.loop-row.invariant es is low high in
    let all = dealt_all g.met.K.Key.coded c.args.level (g.K.KeyClass.class.split (keys es)) es c.loop-row.stay.words c.loop-row.go.words _ _ d in
    elim c.in-None.ensures.steps [ inl a ↦ all (inl a.1.0) | inr b ↦ all (inr b.1.0) ]

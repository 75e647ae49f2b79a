use Rattle.std.proofs.Common.{suc, sym, ◌∙◌, arith}
use Rattle.std.proofs.lemmas.Bool.{both_ways}
use Rattle.page_store.proofs.Calling.{writes_ok, writes_refused, gives_ok, gives_refused}
use Rattle.removal.proofs.Joining.{many_in}
use Rattle.removal.proofs.Rooting.{levels_are, stays, goes, gives_way, no_child}
use Rattle.removal.proofs.whole.settle.Goals as goal

pub returns-in_err-map_err : goal.returns-in_err-map_err
returns-in_err-map_err g c = record {
  says = λ h u is st few held. absurd (both_ways _ (writes_refused c.write.result c.in_err-map_err.ensures.variant c.write.ensures).free held);
}

pub returns-then-count-root_least : goal.returns-then-count-root_least
returns-then-count-root_least g c = record {
  says = λ h u is st few held.
      let many = many_in g.K.Key.growing (suc h) h u.entries st in
      let least = c.root_least.ensures h (levels_are h u is) in
      let k = writes_ok c.write.result c.in_ok-map_err.ensures.variant c.write.ensures in
      stays g.K.Key.growing h u is (c.words.ensures ∙ st) (omega (arith, c.count.ensures, c.if-count-root_least.true)) k;
}

pub returns-in_err-map_err-2 : goal.returns-in_err-map_err-2
returns-in_err-map_err-2 g c = record {
  says = λ h u is st few held. absurd (both_ways _ (gives_refused c.give_back.result c.in_err-map_err-2.ensures.variant c.give_back.ensures).free held);
}

pub returns-then-root-le1 : goal.returns-then-root-le1
returns-then-root-le1 g c = record {
  says = λ h u is st few held.
      let many = many_in g.K.Key.growing (suc h) h u.entries st in
      let least = c.root_least.ensures h (levels_are h u is) in
      goes g.K.Key.growing h u is c.if-root-le1.true (omega (arith, c.count.ensures, c.if-count-root_least.false)) (gives_ok c.give_back.result c.in_ok-map_err-2.ensures.variant c.give_back.ensures);
}

pub returns-in_err-page : goal.returns-in_err-page
returns-in_err-page g c = record {
  says = λ h u is st few held. absurd (no_child h u is c.if-root-le1.false few (sym c.in_err-page.ensures.ok_part ∙ c.link.ensures _ _ st));
}

pub returns : goal.returns
returns g c = record {
  says = λ h u is st few held.
      let many = many_in g.K.Key.growing (suc h) h u.entries st in
      let least = c.root_least.ensures h (levels_are h u is) in
      gives_way g.K.Key.growing h u is c.if-root-le1.false few (omega (arith, c.count.ensures, c.if-count-root_least.false))
      (sym c.in_ok-page.ensures.ok_part ∙ c.link.ensures _ _ st) (gives_ok c.give_back.result c.in_ok-map_err-2.ensures.variant c.give_back.ensures);
}

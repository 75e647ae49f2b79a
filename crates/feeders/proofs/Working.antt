-- A search worked off, record by record.
use Rattle.std.proofs.Common.{◌≡◌, ℕ, true, List, [], ◌∷◌, ◌++◌, Some, None, vec_items, sym, refl, ap, ◌∙◌, subst}
use Rattle.std.proofs.lemmas.List.{append_assoc, append-nil}
use Rattle.page_store.specs.Pages.{Pages}
use Rattle.page_store.specs.declared.store.PageStore.{Ghosts as StoreGhosts}
use Rattle.key_class.specs.declared.class.Key.{Ghosts as KeyGhosts}
use Rattle.key_class.specs.declared.class.KeyClass.{Ghosts as ClassGhosts}
use Rattle.node.specs.Nodes.{Entry}
use Rattle.intervals.specs.Intervals.{interval_class}
use Rattle.intervals.specs.declared.interval.Interval.{Interval}
use Rattle.intervals.specs.declared.interval.IntervalQuery.{IntervalQuery}
use Rattle.cursor.specs.declared.found.Found.{Found as FoundRecord}
use Rattle.index.specs.Searching.{ToCome, Nexts}
use Rattle.index.specs.declared.search.Search.{Search}
use Rattle.feeders.specs.declared.answer.Answer.{Answer}
use Rattle.feeders.specs.declared.answer.Answer.TheVariants.{Found}
use Rattle.feeders.specs.declared.log.Log.{Log}
use Rattle.feeders.specs.Listing.{found_answers, Lists}

-- Of all that was to come from x, what is noted and what y has still to give are the whole.
pub record Left {S : Type 0} {CG : ClassGhosts Interval IntervalQuery} {KG : KeyGhosts Interval} {SG : StoreGhosts S} (s : Pages) (y : Search Interval S IntervalQuery CG KG SG) (all : List (Entry Interval ℕ)) (before log : Log) : Type 0 where
  pub rest : List (Entry Interval ℕ)
  pub come : ToCome interval_class s y rest
  pub noted : log.whole ≡ true → vec_items log.answers ++ found_answers rest ≡ vec_items before.answers ++ found_answers all

pub record Worked {S : Type 0} {CG : ClassGhosts Interval IntervalQuery} {KG : KeyGhosts Interval} {SG : StoreGhosts S} (s t : Pages) (x y : Search Interval S IntervalQuery CG KG SG) (before log : Log) : Type 0 where
  pub pages : t ≡ s
  pub says : (all : List (Entry Interval ℕ)) → ToCome interval_class s x all → Left s y all before log

module _ {S : Type 0} {CG : ClassGhosts Interval IntervalQuery} {KG : KeyGhosts Interval} {SG : StoreGhosts S} where
  pub none_yet : (s : Pages) (x : Search Interval S IntervalQuery CG KG SG) (log : Log) → Worked s s x x log log
  none_yet s x log = record { pages = refl; says = λ all c. record { rest = all; come = c; noted = λ w. refl } }

  -- One record more.
  pub one_more : (s t u : Pages) (x y z : Search Interval S IntervalQuery CG KG SG) (before log log' : Log) (f : FoundRecord Interval) → Worked s t x y before log → u ≡ t → Nexts interval_class t y z (Some f)
      → (log'.whole ≡ true → log.whole ≡ true) → (log'.whole ≡ true → vec_items log'.answers ≡ vec_items log.answers ++ Found f.number ∷ []) → Worked s u x z before log'
  one_more s t u x y z before log log' f w same n was noted = record {
    pages = same ∙ w.pages;
    says = λ all c.
        let l = w.says all c in
        let o = (subst (λ (p : Pages). Nexts interval_class p y z (Some f)) w.pages n).says l.rest l.come in
        record {
          rest = o.0;
          come = o.2;
          noted = λ whole.
              ap (λ (xs : List Answer). xs ++ found_answers o.0) (noted whole) ∙ append_assoc (vec_items log.answers) (Found f.number ∷ []) (found_answers o.0)
              ∙ ap (λ (es : List (Entry Interval ℕ)). vec_items log.answers ++ found_answers es) (sym o.1) ∙ l.noted (was whole);
        };
  }

  pub no_more : (s t : Pages) (x y z : Search Interval S IntervalQuery CG KG SG) (before log : Log) → Worked s t x y before log → Nexts interval_class t y z None → Lists s x before log
  no_more s t x y z before log w n = record {
    says = λ all c whole.
        let l = w.says all c in
        let o = (subst (λ (p : Pages). Nexts interval_class p y z None) w.pages n).says l.rest l.come in
        sym (append-nil (vec_items log.answers)) ∙ ap (λ (es : List (Entry Interval ℕ)). vec_items log.answers ++ found_answers es) (sym o.0) ∙ l.noted whole;
  }

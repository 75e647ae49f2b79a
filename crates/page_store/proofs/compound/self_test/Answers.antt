use Rattle.std.proofs.Common.{◌≡◌, set, is_some, Some, None, Option, ap, ◌∙◌}
use Rattle.std.proofs.lemmas.Bool.{both_ways}
use Rattle.page_store.specs.Pages.{Pages, Words}
use Rattle.page_store.proofs.Calling.{took_words, took_given, read_ok, read_refused, give_ok}
use Rattle.page_store.proofs.compound.self_test.Goals as goal

same_words : (x : Option Words) (v w : Words) → x ≡ Some v → x ≡ Some w → v ≡ w
same_words x v w e f = cc

pub returns-in_err-read : goal.returns-in_err-read
returns-in_err-read g c =
    absurd (both_ways _ (read_refused c.in_err-read.ensures).0.free (ap is_some (took_words c.in_ok-page.ensures)))

pub returns : goal.returns
returns g c =
    let took = c.in_ok-page.ensures in
    let read = read_ok c.in_ok-read.ensures in
    let back = give_ok c.in_ok-give_back.ensures in
    let given : _ = record { held = ap is_some (took_words took); pages = back.pages ∙ ap (λ (x : Pages). set x c.in_ok-page.page None) read.pages } in (
      took_given took given,
      same_words _ _ _ read.words (took_words took),
      (took.within, took.was_free),
    )

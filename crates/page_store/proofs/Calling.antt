-- What a caller knows after each call, by its answer.
use Rattle.std.proofs.Common.{◌≡◌, ℕ, ◌<◌, ◌≤◌, true, false, ltb, length, set, is_some, is_ok, Some, None, Ok, Err, Option, Result, unwrap_or, sym, ap, ◌∙◌, ⊎_elim, arith}
use Rattle.std.proofs.lemmas.List.{get_or-set_same, set-set, set-get_or}
use Rattle.std.proofs.lemmas.Bool.{cond-true, cond-false, cases_Bool, lt-ltb, le-ltb, true≢false, false≢true}
use Rattle.std.proofs.lemmas.Bool.Decides.{nat_tests}
use Rattle.page_store.specs.Pages.{Pages, Words, at}
use Rattle.page_store.specs.Refusals.{answer}
use Rattle.page_store.specs.Calls.{changed, Took, Reads, Writes, GivesBack}
use Rattle.page_store.specs.declared.refusal.StoreRefusal.{StoreRefusal}
use Rattle.page_store.specs.declared.refusal.StoreRefusal.TheVariants.{OutOfRange, NotHeld}
use Rattle.page_store.proofs.Counting.{held_below}

abbrev pub Held : Pages → ℕ → Type 0
Held s p = is_some (at s p) ≡ true

-- The three answers.
pub answer_held : (s : Pages) (p : ℕ) → Held s p → answer s p ≡ Ok tt
unfolding answer
answer_held s p h = cond-true _ _ _ (lt-ltb p (length s) (held_below s p h)) ∙ cond-true _ _ _ h

pub answer_free : (s : Pages) (p : ℕ) → p < length s → is_some (at s p) ≡ false → answer s p ≡ Err NotHeld
unfolding answer
answer_free s p l h = cond-true _ _ _ (lt-ltb p (length s) l) ∙ cond-false _ _ _ h

pub answer_outside : (s : Pages) (p : ℕ) → length s ≤ p → answer s p ≡ Err OutOfRange
unfolding answer
answer_outside s p l = cond-false _ _ _ (le-ltb p (length s) l)

-- It depends on the size, and on whether the page is held, alone.
pub answer_same : (s t : Pages) (p : ℕ) → length t ≡ length s → is_some (at t p) ≡ is_some (at s p) → answer t p ≡ answer s p
unfolding answer
answer_same s t p l h = let a = ap (λ (n : ℕ). ltb p n) l in cc

pub held_by_ok : (s : Pages) (p : ℕ) → Ok tt ≡ answer s p → Held s p
unfolding answer
held_by_ok s p e = grind (arith, nat_tests)

pub free_by_err : (s : Pages) (p : ℕ) (e : StoreRefusal) → Err e ≡ answer s p → is_some (at s p) ≡ false
free_by_err s p e h = ⊎_elim
    (λ (k : Held s p). let a = answer_held s p k in let z : ◌≡◌ {A = ℕ} 0 1 = cc in absurd (omega arith))
    (λ (k : is_some (at s p) ≡ false). k)
    (cases_Bool (is_some (at s p)))

pub changed_held : (s : Pages) (p : ℕ) (x : Option Words) → Held s p → changed s p x ≡ set s p x
unfolding changed
changed_held s p x h = cond-true _ _ _ h

pub changed_free : (s : Pages) (p : ℕ) (x : Option Words) → is_some (at s p) ≡ false → changed s p x ≡ s
unfolding changed
changed_free s p x h = cond-false _ _ _ h

some_value : (x : Option Words) (v w : Words) → is_some x ≡ true → v ≡ unwrap_or x w → x ≡ Some v
some_value None v w h e = cc
some_value (Some u) v w h e = ap Some (sym e)

none_value : (x : Option Words) (v w : Words) → is_some x ≡ false → v ≡ unwrap_or x w → v ≡ w
none_value None v w h e = e
none_value (Some u) v w h e = cc

pub record ReadOk (s t : Pages) (p : ℕ) (v : Words) : Type 0 where
  pub words : at s p ≡ Some v
  pub pages : t ≡ s

pub read_ok : {s t : Pages} {p : ℕ} {w v : Words} → Reads s t p w v (Ok tt) → ReadOk s t p v
read_ok {s} {t} {p} {w} {v} h = record {
  words = some_value (at s p) v w (held_by_ok s p h.answers) h.buffer;
  pages = h.pages;
}

pub record Refused (s t : Pages) (p : ℕ) : Type 0 where
  pub free : is_some (at s p) ≡ false
  pub pages : t ≡ s

pub read_refused : {s t : Pages} {p : ℕ} {w v : Words} {e : StoreRefusal} → Reads s t p w v (Err e) → Refused s t p × (v ≡ w)
read_refused {s} {t} {p} {w} {v} {e} h =
    let f = free_by_err s p e h.answers in
    (record { free = f; pages = h.pages }, none_value (at s p) v w f h.buffer)

pub record ChangeOk (s t : Pages) (p : ℕ) (x : Option Words) : Type 0 where
  pub held : Held s p
  pub pages : t ≡ set s p x

change_ok : (s t : Pages) (p : ℕ) (x : Option Words) → Ok tt ≡ answer s p → t ≡ changed s p x → ChangeOk s t p x
change_ok s t p x h e = let k = held_by_ok s p h in record { held = k; pages = e ∙ changed_held s p x k }

change_refused : (s t : Pages) (p : ℕ) (x : Option Words) (e : StoreRefusal) → Err e ≡ answer s p → t ≡ changed s p x → Refused s t p
change_refused s t p x e h f = let k = free_by_err s p e h in record { free = k; pages = f ∙ changed_free s p x k }

pub write_ok : {s t : Pages} {p : ℕ} {w : Words} → Writes s t p w (Ok tt) → ChangeOk s t p (Some w)
write_ok {s} {t} {p} {w} h = change_ok s t p (Some w) h.answers h.pages

pub write_refused : {s t : Pages} {p : ℕ} {w : Words} {e : StoreRefusal} → Writes s t p w (Err e) → Refused s t p
write_refused {s} {t} {p} {w} {e} h = change_refused s t p (Some w) e h.answers h.pages

pub give_ok : {s t : Pages} {p : ℕ} → GivesBack s t p (Ok tt) → ChangeOk s t p None
give_ok {s} {t} {p} h = change_ok s t p None h.answers h.pages

pub give_refused : {s t : Pages} {p : ℕ} {e : StoreRefusal} → GivesBack s t p (Err e) → Refused s t p
give_refused {s} {t} {p} {e} h = change_refused s t p None e h.answers h.pages

pub took_words : {s t : Pages} {w : Words} {p : ℕ} → Took s t w p → at t p ≡ Some w
took_words {s} {t} {w} {p} h = ap (λ (x : Pages). at x p) h.pages ∙ get_or-set_same s p (Some w) None h.within

-- A page taken and then written was taken with those words; taken and then given back, it was not taken at all.
pub took_written : {s t u : Pages} {v w : Words} {p : ℕ} → Took s t v p → ChangeOk t u p (Some w) → Took s u w p
took_written {s} {t} {u} {v} {w} {p} h k = record {
  within = h.within;
  was_free = h.was_free;
  pages = k.pages ∙ ap (λ (x : Pages). set x p (Some w)) h.pages ∙ set-set s p (Some v) (Some w);
}

pub took_given : {s t u : Pages} {w : Words} {p : ℕ} → Took s t w p → ChangeOk t u p None → u ≡ s
took_given {s} {t} {u} {w} {p} h k =
    k.pages ∙ ap (λ (x : Pages). set x p None) h.pages ∙ set-set s p (Some w) None ∙ ap (set s p) (sym h.was_free) ∙ set-get_or s p None

-- The same, by whether the answer is Ok.
pub reads_ok : {s t : Pages} {p : ℕ} {w v : Words} (r : Result Unit StoreRefusal) → true ≡ is_ok r → Reads s t p w v r → ReadOk s t p v
reads_ok (Ok u) o h = read_ok h
reads_ok (Err e) o h = absurd (true≢false o)

pub reads_refused : {s t : Pages} {p : ℕ} {w v : Words} (r : Result Unit StoreRefusal) → false ≡ is_ok r → Reads s t p w v r → Refused s t p
reads_refused (Ok u) o h = absurd (false≢true o)
reads_refused (Err e) o h = (read_refused h).0

pub writes_ok : {s t : Pages} {p : ℕ} {w : Words} (r : Result Unit StoreRefusal) → true ≡ is_ok r → Writes s t p w r → ChangeOk s t p (Some w)
writes_ok (Ok u) o h = write_ok h
writes_ok (Err e) o h = absurd (true≢false o)

pub writes_refused : {s t : Pages} {p : ℕ} {w : Words} (r : Result Unit StoreRefusal) → false ≡ is_ok r → Writes s t p w r → Refused s t p
writes_refused (Ok u) o h = absurd (false≢true o)
writes_refused (Err e) o h = write_refused h

pub gives_ok : {s t : Pages} {p : ℕ} (r : Result Unit StoreRefusal) → true ≡ is_ok r → GivesBack s t p r → ChangeOk s t p None
gives_ok (Ok u) o h = give_ok h
gives_ok (Err e) o h = absurd (true≢false o)

pub gives_refused : {s t : Pages} {p : ℕ} (r : Result Unit StoreRefusal) → false ≡ is_ok r → GivesBack s t p r → Refused s t p
gives_refused (Ok u) o h = absurd (false≢true o)
gives_refused (Err e) o h = give_refused h

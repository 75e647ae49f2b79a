-- The refusals of a page store, their numbers, and when each is due.
use Rattle.std.specs.Prelude.{ℕ, cond, length, is_some, Ok, Err, Result, nat_lt}
use Rattle.page_store.specs.Pages.{Pages, at}
use Rattle.page_store.specs.declared.refusal.StoreRefusal.{StoreRefusal}
use Rattle.page_store.specs.declared.refusal.StoreRefusal.TheVariants.{OutOfRange, NotHeld, NoFreePage}

abbrev pub number_of : StoreRefusal → ℕ
number_of OutOfRange = 41
number_of NotHeld = 42
number_of NoFreePage = 43

-- What a call that names page p answers. Is p below the size? Is it held? The first no decides.
unfoldable pub answer : Pages → ℕ → Result Unit StoreRefusal
answer s p = cond (nat_lt p (length s)) (cond (is_some (at s p)) (Ok tt) (Err NotHeld)) (Err OutOfRange)

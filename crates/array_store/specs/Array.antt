-- What an array store means, and the words that it lies in.
use Rattle.std.specs.Prelude.{ℕ, ◌*◌, List, drop, vec_items}
use Rattle.page_store.specs.Pages.{Pages}
use Rattle.array_store.specs.Layout.{pages_of}
use Rattle.array_store.specs.declared.store.ArrayStore.{ArrayStore}

abbrev pub words_in : ArrayStore → List ℕ
words_in s = vec_items s.groups.words

abbrev pub pages_in : ArrayStore → Pages
pages_in s = pages_of (words_in s) s.groups.size

-- The words past the last page, which no call touches.
abbrev pub words_past : ArrayStore → List ℕ
words_past s = drop (65 * s.groups.size) (words_in s)

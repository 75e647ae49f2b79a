-- What a page store means: each page number below its size is free, or held with its 64 words.
use Rattle.std.specs.Prelude.{ℕ, ◌+◌, List, [], ◌∷◌, replicate, Some, None, Option, slice_index_or}

abbrev pub Words : Type 0
Words = List ℕ

-- The place in the list is the page number; None is a free page, Some a held one.
abbrev pub Pages : Type 0
Pages = List (Option Words)

-- The page p; None past the size too.
abbrev pub at : Pages → ℕ → Option Words
at s p = slice_index_or s p None

abbrev pub one_if_free : Option Words → ℕ
one_if_free None = 1
one_if_free (Some w) = 0

-- How many pages are free.
abbrev pub free_pages : Pages → ℕ
free_pages [] = 0
free_pages (x ∷ s) = one_if_free x + free_pages s

-- The words of a page just taken.
abbrev pub zeros : Words
zeros = replicate 64 0

-- That each call keeps what the fields of a store say of each other.
use Rattle.std.proofs.Common.{◌≡◌, ℕ, ◌+◌, ◌-◌, ◌*◌, ◌<◌, ◌≤◌, true, false, List, length, get_or, set, is_some, Some, None, Ok, vec_items, Option, sym, refl, ap, ◌∙◌, ⊎_elim, arith}
use Rattle.std.proofs.lemmas.Bool.{cases_lt}
use Rattle.page_store.specs.Pages.{Words, zeros, free_pages}
use Rattle.page_store.specs.Refusals.{answer}
use Rattle.page_store.proofs.Calling.{held_by_ok}
use Rattle.page_store.proofs.Counting.{all_free, none_from, written_free, taken_free, given_free}
use Rattle.array_store.specs.Layout.{page_at, pages_of, listed_page, cleared, Spare}
use Rattle.array_store.specs.Groups.{EditsPage}
use Rattle.array_store.specs.declared.groups.Groups.{Groups}
use Rattle.array_store.specs.Array.{words_in, pages_in}
use Rattle.array_store.specs.declared.store.ArrayStore.{ArrayStore}
use Rattle.array_store.specs.Laws.{length_pages, at_pages, held_within}
use Rattle.array_store.proofs.Laid.{cleared_mark, cleared_page, cleared_pages}
use Rattle.array_store.proofs.Edited.{other_word, other_page, edited_pages}
use Rattle.array_store.proofs.Listed.{Listing, Unlisted, listing_kept, unlisted_kept, listing_rest, unlisted_first, spare_first, listing_more}

abbrev Unused : List ℕ → ℕ → ℕ → Type 0
Unused ws size fresh = (p : ℕ) → fresh ≤ p → p < size → is_some (page_at ws p) ≡ false

abbrev Marks : List ℕ → ℕ → Type 0
Marks ws size = (p : ℕ) → p < size → get_or ws (65 * p) 0 ≤ 1

-- The ghost fields of a store of the groups g.
abbrev pub Owed : Groups → ℕ → ℕ → ℕ → Type 0
Owed g fresh head listed = record {
  few : g.size ≤ 4096;
  within : fresh ≤ g.size;
  counted : listed + (g.size - fresh) ≡ free_pages (pages_of (vec_items g.words) g.size);
  unused : Unused (vec_items g.words) g.size fresh;
  spare : (i : ℕ) → i < listed → Spare (vec_items g.words) fresh (listed_page (vec_items g.words) head i);
  marks : Marks (vec_items g.words) g.size;
  apart : (i j : ℕ) → i < j → j < listed → listed_page (vec_items g.words) head i ≡ listed_page (vec_items g.words) head j → ⊥;
}

-- A store just made.
pub owed_made : (g : Groups) (us : List ℕ) → vec_items g.words ≡ cleared us g.size → 65 * g.size ≤ length us → g.size ≤ 4096 → Owed g 0 0 0
owed_made g us c room few =
    let e = ap free_pages (cleared_pages us g.size room) in
    let f = all_free g.size in
    rw c record {
      few = few;
      within = omega arith;
      counted = omega arith;
      unused = λ p lo hi. ap is_some (cleared_page us g.size p room hi);
      spare = λ i h. absurd (omega arith);
      marks = λ p h. omega (arith, cleared_mark us g.size p room h);
      apart = λ i j h g. absurd (omega arith);
    }

listing : (s : ArrayStore) → Listing (words_in s) s.fresh s.head s.listed
listing s = record { spare = s.spare; apart = s.apart }

-- A page that is taken is the first of the list, or else the first fresh one.
pub head_free : (s : ArrayStore) → 0 < s.listed → Spare (words_in s) s.groups.size s.head
head_free s h = let p = spare_first (listing s) h in (omega (arith, s.within, p.0), p.1)

pub fresh_free : (s : ArrayStore) → s.fresh < s.groups.size → Spare (words_in s) s.groups.size s.fresh
fresh_free s h = (h, s.unused s.fresh (omega arith) h)

-- A page that `check` allows is held: it is no listed page and no fresh one.
abbrev pub Allows : ArrayStore → ℕ → Type 0
Allows s p = Ok tt ≡ answer (pages_in s) p

pub allowed_within : (s : ArrayStore) (p : ℕ) → Allows s p → p < s.groups.size
allowed_within s p a = held_within (words_in s) s.groups.size p (held_by_ok (pages_in s) p a)

pub allowed_held : (s : ArrayStore) (p : ℕ) → Allows s p → is_some (page_at (words_in s) p) ≡ true
allowed_held s p a = ap is_some (sym (at_pages (words_in s) s.groups.size p (allowed_within s p a))) ∙ held_by_ok (pages_in s) p a

pub allowed_room : (s : ArrayStore) (p : ℕ) → Allows s p → 65 * p + 65 ≤ length (words_in s)
allowed_room s p a = omega (arith, s.groups.room, s.groups.words.ok, allowed_within s p a)

free_apart : (s : ArrayStore) (p : ℕ) → Allows s p → (q : ℕ) → is_some (page_at (words_in s) q) ≡ false → q ≡ p → ⊥
free_apart s p a q f e = grind (arith, allowed_held)

unlisted : (s : ArrayStore) (p : ℕ) → Allows s p → Unlisted (words_in s) s.head s.listed p
unlisted s p a = λ i h. free_apart s p a (listed_page (words_in s) s.head i) (s.spare i h).1

-- Only the group of page p differs, in the groups g.
module _ (s : ArrayStore) {g : Groups} {p : ℕ} {x : Option Words} (e : EditsPage s.groups g p x) (l : p < s.groups.size) where
  marks_kept : Marks (vec_items g.words) s.groups.size
  marks_kept q h = grind (arith, e.words.mark, other_word e.words q (65 * q), s.marks p, s.marks q)

  keeps : (fresh head listed : ℕ) → s.fresh ≤ fresh → fresh ≤ s.groups.size
      → listed + (s.groups.size - fresh) ≡ free_pages (set (pages_in s) p x)
      → ((q : ℕ) → fresh ≤ q → q < s.groups.size → q ≡ p → ⊥) → Listing (vec_items g.words) fresh head listed → Owed g fresh head listed
  keeps fresh head listed le w c ne m = rw e.size record {
    few = s.few;
    within = w;
    counted = c ∙ sym (ap free_pages (edited_pages e.words s.groups.size l));
    unused = λ q lo hi. ap is_some (other_page e.words q (ne q lo hi)) ∙ s.unused q (omega arith) hi;
    spare = m.spare;
    marks = marks_kept;
    apart = m.apart;
  }

-- A page allowed is written, or given back; then it is the first of the list.
still_listed : (s : ArrayStore) {g : Groups} {p : ℕ} {x : Option Words} → Allows s p → EditsPage s.groups g p x
    → Listing (vec_items g.words) s.fresh s.head s.listed
still_listed s {g} {p} a e = listing_kept e.words (omega arith) (listing s) (unlisted s p a)

pub keeps_written : (s : ArrayStore) {g : Groups} {p : ℕ} {w : Words} → Allows s p → EditsPage s.groups g p (Some w)
    → Owed g s.fresh s.head s.listed
keeps_written s {g} {p} {w} a e =
    let f = written_free (pages_in s) _ p w (held_by_ok (pages_in s) p a) refl in
    keeps s e (allowed_within s p a) s.fresh s.head s.listed (omega arith) s.within (s.counted ∙ sym f)
    (λ q lo hi. free_apart s p a q (s.unused q lo hi)) (still_listed s a e)

pub keeps_given : (s : ArrayStore) {g : Groups} {p : ℕ} → Allows s p → EditsPage s.groups g p None
    → get_or (vec_items g.words) (65 * p + 1) 0 ≡ s.head → Owed g s.fresh p (s.listed + 1)
keeps_given s {g} {p} a e link =
    let l = allowed_within s p a in
    let f = given_free (pages_in s) _ p (held_by_ok (pages_in s) p a) refl in
    let below : p < s.fresh =
    ⊎_elim (λ (b : p < s.fresh). b) (λ (b : s.fresh ≤ p). absurd (free_apart s p a p (s.unused p b l) refl)) (cases_lt p s.fresh) in
    keeps s e l s.fresh p (s.listed + 1) (omega arith) s.within (omega (arith, s.counted))
    (λ q lo hi. free_apart s p a q (s.unused q lo hi))
    (listing_more p link (still_listed s a e) (unlisted_kept e.words s.head s.listed (unlisted s p a)) (below, ap is_some e.words.here))

-- A free page is taken.
one_less : (s : ArrayStore) (p : ℕ) → Spare (words_in s) s.groups.size p → free_pages (set (pages_in s) p (Some zeros)) + 1 ≡ free_pages (pages_in s)
one_less s p f =
    let n = length_pages (words_in s) s.groups.size in
    taken_free (pages_in s) _ p zeros (omega (arith, f.0)) (at_pages (words_in s) s.groups.size p f.0 ∙ none_from _ f.1) refl

pub keeps_listed : (s : ArrayStore) {g : Groups} (next : ℕ) → 0 < s.listed → next ≡ get_or (words_in s) (65 * s.head + 1) 0
    → EditsPage s.groups g s.head (Some zeros) → Owed g s.fresh next (s.listed - 1)
keeps_listed s {g} next h link e =
    let p = spare_first (listing s) h in
    let f = one_less s s.head (head_free s h) in
    keeps s e (head_free s h).0 s.fresh next (s.listed - 1) (omega arith) s.within (omega (arith, s.counted))
    (λ q lo hi g. omega (arith, p.0))
    (rw link (listing_kept e.words (omega arith) (listing_rest (listing s)) (unlisted_first (listing s))))

pub keeps_fresh : (s : ArrayStore) {g : Groups} → s.fresh < s.groups.size → EditsPage s.groups g s.fresh (Some zeros)
    → Owed g (s.fresh + 1) s.head s.listed
keeps_fresh s {g} h e =
    let f = one_less s s.fresh (fresh_free s h) in
    keeps s e h (s.fresh + 1) s.head s.listed (omega arith) (omega arith) (omega (arith, s.counted))
    (λ q lo hi g. omega arith)
    (listing_kept e.words (omega arith) (listing s) (λ i g q. omega (arith, (s.spare i g).0)))

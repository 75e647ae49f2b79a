-- The list of the free pages, and how it goes with each edit of a page.
use Rattle.std.proofs.Common.{◌≡◌, ℕ, zero, suc, ◌+◌, ◌-◌, ◌*◌, ◌<◌, ◌≤◌, List, get_or, is_some, Option, sym, ap, ◌∙◌, subst, arith}
use Rattle.page_store.specs.Pages.{Words}
use Rattle.array_store.specs.Layout.{listed_page, Spare, Edits}
use Rattle.array_store.proofs.Edited.{other_page, same_listed}

pub record Listing (ws : List ℕ) (fresh head listed : ℕ) : Type 0 where
  pub spare : (i : ℕ) → i < listed → Spare ws fresh (listed_page ws head i)
  pub apart : (i j : ℕ) → i < j → j < listed → listed_page ws head i ≡ listed_page ws head j → ⊥

-- No listed page is p.
abbrev pub Unlisted : List ℕ → ℕ → ℕ → ℕ → Type 0
Unlisted ws head listed p = (i : ℕ) → i < listed → listed_page ws head i ≡ p → ⊥

-- An edit of a page that is not listed.
pub listing_kept : {us vs : List ℕ} {p : ℕ} {x : Option Words} {fresh more head listed : ℕ} → Edits us vs p x → fresh ≤ more
    → Listing us fresh head listed → Unlisted us head listed p → Listing vs more head listed
listing_kept {us} {vs} {p} {x} {fresh} {more} {head} {listed} e le l ne =
    let same : (i : ℕ) → i < listed → listed_page vs head i ≡ listed_page us head i = λ i h. same_listed e i head (λ j g. ne j (omega arith)) in
    record {
      spare = λ i h. subst (λ (q : ℕ). Spare vs more q) (sym (same i h)) (
        omega (arith, (l.spare i h).0),
        ap is_some (other_page e (listed_page us head i) (ne i h)) ∙ (l.spare i h).1,
      );
      apart = λ i j h g f. l.apart i j h g (sym (same i (omega arith)) ∙ f ∙ same j g);
    }

pub unlisted_kept : {us vs : List ℕ} {p : ℕ} {x : Option Words} → Edits us vs p x → (head listed : ℕ)
    → Unlisted us head listed p → Unlisted vs head listed p
unlisted_kept e head listed ne = λ i h f. ne i h (sym (same_listed e i head (λ j g. ne j (omega arith))) ∙ f)

-- The list without its first page.
pub listing_rest : {ws : List ℕ} {fresh head listed : ℕ} → Listing ws fresh head listed → Listing ws fresh (get_or ws (65 * head + 1) 0) (listed - 1)
unfolding listed_page
listing_rest l = record {
  spare = λ i h. l.spare (suc i) (omega arith);
  apart = λ i j h g. l.apart (suc i) (suc j) (omega arith) (omega arith);
}

pub unlisted_first : {ws : List ℕ} {fresh head listed : ℕ} → Listing ws fresh head listed → Unlisted ws (get_or ws (65 * head + 1) 0) (listed - 1) head
unfolding listed_page
unlisted_first l = λ i h f. l.apart 0 (suc i) (omega arith) (omega arith) (sym f)

pub spare_first : {ws : List ℕ} {fresh head listed : ℕ} → Listing ws fresh head listed → 0 < listed → Spare ws fresh head
unfolding listed_page
spare_first l h = l.spare 0 h

-- The list with one more page, before the others.
pub listing_more : {ws : List ℕ} {fresh head listed : ℕ} (p : ℕ) → get_or ws (65 * p + 1) 0 ≡ head → Listing ws fresh head listed
    → Unlisted ws head listed p → Spare ws fresh p → Listing ws fresh p (listed + 1)
unfolding listed_page
listing_more {ws} {fresh} {head} {listed} p link l ne s = record { spare = spare; apart = apart } where
  next : (i : ℕ) → listed_page ws p (suc i) ≡ listed_page ws head i
  next i = ap (λ (h : ℕ). listed_page ws h i) link

  spare : (i : ℕ) → i < listed + 1 → Spare ws fresh (listed_page ws p i)
  spare zero h = s
  spare (suc i) h = subst (λ (q : ℕ). Spare ws fresh q) (sym (next i)) (l.spare i (omega arith))

  apart : (i j : ℕ) → i < j → j < listed + 1 → listed_page ws p i ≡ listed_page ws p j → ⊥
  apart i zero h g f = omega arith
  apart zero (suc j) h g f = ne j (omega arith) (sym (f ∙ next j))
  apart (suc i) (suc j) h g f = l.apart i j (omega arith) (omega arith) (sym (next i) ∙ f ∙ next j)

-- Entries written to one page, or to two.
use Rattle.std.proofs.Common.{◌≡◌, ℕ, ◌≤◌, List, length, set, Some, None, Ok, Err, Option, Result, sym, refl, ap, ◌∙◌, arith}
use Rattle.std.specs.Result.{result_ok}
use Rattle.page_store.specs.Pages.{Pages, Words, free_pages}
use Rattle.page_store.specs.Calls.{Took, Takes}
use Rattle.page_store.specs.declared.refusal.StoreRefusal.{StoreRefusal}
use Rattle.page_store.proofs.Calling.{Held, changed_held}
use Rattle.key_class.specs.Class.{Growing, Class, Lawful}
use Rattle.key_class.specs.Joined.{joined}
use Rattle.node.specs.Nodes.{Entry, keys, stay, go}
use Rattle.node.specs.InMemory.{words_in, Stands}
use Rattle.node.specs.declared.memory.Node.{Node}
use Rattle.tree_pages.specs.OneNode.{Saves}
use Rattle.tree_pages.proofs.Over.{set_held}
use Rattle.gist.proofs.Nodes.{split_sizes}
use Rattle.insertion.specs.Filling.{OnePage, TwoPages, Filled, SharedBy, Shares}
use Rattle.insertion.specs.declared.change.Change.{Change}

-- The page that a take gave.
pub taken : {s t : Pages} {w : Words} {p : ℕ} (r : Result ℕ StoreRefusal) → Some p ≡ result_ok r → Takes s t w r → Took s t w p
taken {s} {t} {w} {p} (Ok q) e h = let same : p ≡ q = cc in rw same h
taken {s} {t} {w} {p} (Err x) e h = cc

module _ {K : Type 0} {G : Growing K} where
  pub saved : {s t : Pages} {p : ℕ} {n : Node} {k : K} (level : ℕ) (es : List (Entry K ℕ)) → Stands G n level es → length es ≤ 12 → Held s p → Saves G s t p n (Some k)
      → OnePage G s t p level es k
  saved {s} {t} {p} {n} {k} level es st few h v = record {
    few = few;
    pages = v.pages ∙ changed_held s p _ h ∙ ap (λ (w : Words). set s p (Some w)) st;
    key = sym (v.union level es h st);
  }

  pub shared : {s t u : Pages} {p q : ℕ} {stays : Node} (goes : Node) {k m : K} (level : ℕ) (xs ys : List (Entry K ℕ)) → Stands G stays level xs → Stands G goes level ys
      → Held s p → Took s t (words_in goes) q → Some m ≡ joined G (keys ys) → Saves G t u p stays (Some k) → TwoPages G s u p level xs ys k (record { key = m; link = q })
  shared {s} {t} {u} {p} {q} {stays} goes {k} {m} level xs ys sx sy h took new v =
      let h' : Held t p = rw took.pages (set_held s q _ p h) in
      record {
        free = (took.within, took.was_free);
        pages = v.pages ∙ changed_held t p _ h' ∙ rw (took.pages, sx, sy) refl;
        key = sym (v.union level xs h' sx);
        new_key = sym new;
      }

-- Of thirteen entries, those that stay and those that go.
pub added : {K Q : Type 0} {G : Growing K} {C : Class K Q} {s t : Pages} {p : ℕ} {stays goes : Node} → Lawful C → (level : ℕ) (es : List (Entry K ℕ)) → length es ≡ 13 → Held s p → 1 ≤ free_pages s
    → Stands G stays level (stay (C.split (keys es)) es) → Stands G goes level (go (C.split (keys es)) es) → (r : Option (Change K)) → Shares G s t p stays goes r → Filled G C s t p level es r
added {K} {Q} {G} {C} {s} {t} {p} law level es many h f sx sy r sh =
    let size = split_sizes C law es (omega arith) (omega arith) in
    filled r (sh.says level _ _ sx sy (omega (arith, size)) (omega (arith, size)) h f)
  where
    filled : (r : Option (Change K)) → SharedBy G s t p level (stay (C.split (keys es)) es) (go (C.split (keys es)) es) r → Filled G C s t p level es r
    filled None b = b
    filled (Some c) b = rw b.1 (record { many = many; two = b.2 })

-- The way of a cursor through a tree: the places that it has still to work off, and its steps.
use Rattle.std.specs.Prelude.{◌≡◌, ℕ, zero, suc, ◌+◌, ◌-◌, ◌*◌, ◌<◌, ◌≤◌, ◌⊎◌, List, [], ◌∷◌, reverse, Some, None, Option}
use Rattle.tree_pages.specs.declared.root.Root.{Root}
use Rattle.cursor.specs.declared.place.Place.{Place}
use Rattle.cursor.specs.declared.way.Way.{Way}

-- The place in hand and those above it, up to the root's.
abbrev pub ahead : Way → List Place
ahead w = reverse w.places.items

-- The first entry of a page, and the entry after a place.
abbrev pub first_of : ℕ → Place
first_of page = record { page = page; next = 0 }

abbrev pub after : Place → Place
after p = record { page = p.page; next = p.next + 1 }

-- The most steps that an entry of a page of this height can take, with all below it: one at the entry, and where it has
-- a child one at each of the child's entries and one to leave it.
abbrev pub entry_steps : ℕ → ℕ
entry_steps zero = 1
entry_steps (suc h) = 12 * entry_steps h + 2

-- The most steps that places can take, the first of this height and each of the next one higher.
abbrev pub steps_left : ℕ → List Place → ℕ
steps_left h [] = 0
steps_left h (p ∷ ps) = (1 + (12 - p.next) * entry_steps h) + steps_left (suc h) ps

abbrev pub steps_ahead : Way → ℕ
steps_ahead w = steps_left w.height (ahead w)

-- The way to the root of a tree; to its end where there is none, and where it has not 1 to 7 levels.
abbrev pub Started : Option Root → Way → Type 0
Started None w = ahead w ≡ []
Started (Some r) w =
    (1 ≤ r.levels → r.levels ≤ 7 → (ahead w ≡ first_of r.page ∷ []) × (w.height + 1 ≡ r.levels))
    × ((r.levels < 1) ⊎ (7 < r.levels) → ahead w ≡ [])

-- What is in hand.
abbrev pub Here : Way → Option Place → Type 0
Here w None = ahead w ≡ []
Here w (Some p) = (ps : List Place) × (ahead w ≡ p ∷ ps)

-- What a step makes of a way w: the place in hand is replaced by p, a page is gone down to, the page in hand is left.
pub record Put (w v : Way) (p : Place) : Type 0 where
  pub height : v.height ≡ w.height
  pub places : (x : Place) (ps : List Place) → ahead w ≡ x ∷ ps → ahead v ≡ p ∷ ps

pub record Pushed (w v : Way) (page : ℕ) : Type 0 where
  pub height : v.height + 1 ≡ w.height
  pub places : ahead v ≡ first_of page ∷ ahead w

pub record Popped (w v : Way) : Type 0 where
  pub above : (x : Place) (ps : List Place) → ahead w ≡ x ∷ ps → (v.height ≡ w.height + 1) × (ahead v ≡ ps)

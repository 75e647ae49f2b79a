-- The quadratic split: the two keys that are worst together begin two groups, and the others follow in order.
use Rattle.std.specs.Prelude.{◌≡◌, ℕ, ◌+◌, ◌-◌, ◌<◌, ◌≤◌, max, Bool, true, false, if◌then◌else◌, ◌⊎◌, List, [], ◌∷◌, length, ◌==◌, nat_lt, slice_index_or}
use Rattle.key_class.specs.Class.{Growing}
use Rattle.key_class.specs.declared.groups.Group.{Group}
use Rattle.key_class.specs.declared.groups.Groups.{Groups}
use Rattle.key_class.specs.declared.groups.Seeds.{Seeds}

-- The larger growth of two keys, of the one for the other.
abbrev pub larger_growth : {K : Type 0} → Growing K → K → K → ℕ
larger_growth G a b = max (G.growth a b) (G.growth b a)

-- A later pair is taken only where it is worse.
abbrev pub worse : Seeds → Seeds → Seeds
worse old new = if nat_lt old.growth new.growth then new else old

-- The key a at place i beside each of the keys from place j on.
abbrev pub worst_after : {K : Type 0} → Growing K → K → ℕ → ℕ → List K → Seeds → Seeds
worst_after G a i j [] s = s
worst_after G a i j (k ∷ ks) s = worst_after G a i (j + 1) ks (worse s (record { first = i; second = j; growth = larger_growth G a k }))

-- Each of the keys from place i on beside each later one.
abbrev pub worst_from : {K : Type 0} → Growing K → ℕ → List K → Seeds → Seeds
worst_from G i [] s = s
worst_from G i (a ∷ ks) s = worst_from G (i + 1) ks (worst_after G a i (i + 1) ks s)

abbrev pub first_pair : Seeds
first_pair = record { first = 0; second = 1; growth = 0 }

abbrev pub seeds_of : {K : Type 0} → Growing K → List K → Seeds
seeds_of G ks = worst_from G 0 ks first_pair

-- How many keys are in the groups, and in neither yet.
abbrev pub size : {K : Type 0} → Groups K → ℕ
size g = g.stay.count + g.go.count + g.left

-- The groups of n keys with one seed each.
abbrev pub begun : {K : Type 0} → K → K → ℕ → Groups K
begun a b n = record { stay = record { union = a; count = 1 }; go = record { union = b; count = 1 }; left = n - 2 }

-- The group with the key k too.
abbrev pub one_more : {K : Type 0} → Growing K → Group K → K → Group K
one_more G g k = record { union = G.union g.union k; count = g.count + 1 }

-- Whether the next key k goes. Where a group needs all that are left to have four, it gets them; else the key goes to
-- the group that grows less, on a tie to the smaller one, and then to the one that stays.
abbrev pub goes_next : {K : Type 0} → Growing K → Groups K → K → Bool
goes_next G g k =
    let stay_grows = G.growth g.stay.union k in
    let go_grows = G.growth g.go.union k in
    if g.stay.count + g.left == 4 then false
    else if g.go.count + g.left == 4 then true
    else if go_grows == stay_grows then nat_lt g.go.count g.stay.count
    else nat_lt go_grows stay_grows

abbrev pub placed : {K : Type 0} → Growing K → Groups K → K → Bool → Groups K
placed G g k true = record { stay = g.stay; go = one_more G g.go k; left = g.left - 1 }
placed G g k false = record { stay = one_more G g.stay k; go = g.go; left = g.left - 1 }

-- The key k at place p, with the seeds s: whether it goes, and the groups then.
abbrev pub mark : {K : Type 0} → Growing K → Seeds → ℕ → Groups K → K → Bool
mark G s p g k = if p == s.first then false else if p == s.second then true else goes_next G g k

abbrev pub next : {K : Type 0} → Growing K → Seeds → ℕ → Groups K → K → Groups K
next G s p g k = if p == s.first then g else if p == s.second then g else placed G g k (goes_next G g k)

abbrev pub marks_from : {K : Type 0} → Growing K → Seeds → ℕ → Groups K → List K → List Bool
marks_from G s p g [] = []
marks_from G s p g (k ∷ ks) = mark G s p g k ∷ marks_from G s (p + 1) (next G s p g k) ks

abbrev pub split_at : {K : Type 0} → Growing K → K → Seeds → List K → List Bool
split_at G d s ks = marks_from G s 0 (begun (slice_index_or ks s.first d) (slice_index_or ks s.second d) (length ks)) ks

abbrev pub quadratic : {K : Type 0} → Growing K → List K → List Bool
quadratic G [] = []
quadratic G (k ∷ ks) = split_at G k (seeds_of G (k ∷ ks)) (k ∷ ks)

-- What the seeds are: of n places the first pair, by the first place and then the second, whose W is greatest.
abbrev pub Before : (i j p q : ℕ) → Type 0
Before i j p q = (i < p) ⊎ ((i ≡ p) × (j < q))

pub record FirstWorst (W : ℕ → ℕ → ℕ) (n : ℕ) (s : Seeds) : Type 0 where
  pub ordered : s.first < s.second
  pub below : s.second < n
  pub growth_is : s.growth ≡ W s.first s.second
  pub worst : (i j : ℕ) → i < j → j < n → W i j ≤ s.growth
  pub first_such : (i j : ℕ) → i < j → j < n → Before i j s.first s.second → W i j < s.growth

-- The larger growth of the keys at two places.
abbrev pub larger_at : {K : Type 0} → Growing K → K → List K → ℕ → ℕ → ℕ
larger_at G d ks i j = larger_growth G (slice_index_or ks i d) (slice_index_or ks j d)

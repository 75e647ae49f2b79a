-- Which 64 words are a node: the questions, in their order.
use Rattle.std.specs.Prelude.{ℕ, ◌+◌, ◌*◌, Bool, true, false, ◌&&◌, List, take, drop, is_some, Some, None, Option, ◌==◌, nat_eq, nat_le, slice_index}
use Rattle.std.specs.List.{list_all, filter_map}
use Rattle.std.specs.Option.{option_map}
use Rattle.std.specs.Simd.{first_chunks}
use Rattle.key_class.specs.Class.{Growing}
use Rattle.node.specs.Nodes.{Entry, link_fits}
use Rattle.node.specs.declared.refusal.NodeRefusal.{NodeRefusal}
use Rattle.node.specs.declared.refusal.NodeRefusal.TheVariants.{BadLevel, BadCount, NotZero, BadKey, BadLink}

abbrev pub number_of : NodeRefusal → ℕ
number_of BadLevel = 51
number_of BadCount = 52
number_of NotZero = 53
number_of BadKey = 54
number_of BadLink = 55

abbrev pub level_in : List ℕ → ℕ
level_in w = slice_index w 0

abbrev pub count_in : List ℕ → ℕ
count_in w = slice_index w 1

-- The five words of each entry.
abbrev pub rows : List ℕ → List (List ℕ)
rows w = first_chunks 5 (count_in w) (drop 4 w)

abbrev pub level_fits : List ℕ → Bool
level_fits w = nat_le 1 (level_in w) && nat_le (level_in w) 7

abbrev pub count_fits : List ℕ → Bool
count_fits w = nat_le 1 (count_in w) && nat_le (count_in w) 12

abbrev pub rest_is_zero : List ℕ → Bool
rest_is_zero w = (slice_index w 2 == 0 && slice_index w 3 == 0) && list_all (λ x. nat_eq x 0) (drop (4 + 5 * count_in w) w)

abbrev pub keys_fit : {K : Type 0} → Growing K → List ℕ → Bool
keys_fit G w = list_all (λ r. is_some (G.unsqueeze (take 4 r))) (rows w)

abbrev pub links_fit : List ℕ → Bool
links_fit w = list_all (λ r. link_fits (level_in w) (slice_index r 4)) (rows w)

abbrev pub unless : Bool → NodeRefusal → Option NodeRefusal → Option NodeRefusal
unless true e next = next
unless false e next = Some e

-- Is the level 1 to 7? Is the count 1 to 12? Is the rest zero? Do all keys unsqueeze? Does each link fit? The first no decides.
abbrev pub refusal_of : {K : Type 0} → Growing K → List ℕ → Option NodeRefusal
refusal_of G w = unless (level_fits w) BadLevel (unless (count_fits w) BadCount (unless (rest_is_zero w) NotZero (unless (keys_fit G w) BadKey (unless (links_fit w) BadLink None))))

-- The entry of a row; none where its first four words are no key's.
abbrev pub entry_in : {K : Type 0} → Growing K → List ℕ → Option (Entry K ℕ)
entry_in G r = option_map (λ k. record { key = k; link = slice_index r 4 }) (G.unsqueeze (take 4 r))

-- The entries of a node that is read; a row of no key is passed over.
abbrev pub entries_in : {K : Type 0} → Growing K → List (List ℕ) → List (Entry K ℕ)
entries_in G rs = filter_map (entry_in G) rs

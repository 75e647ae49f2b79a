-- Worked examples of the definitions.
use Rattle.std.specs.Prelude.{◌≡◌, ℕ, true, false, [], ◌∷◌, ◌++◌, map, length, replicate, pos, Some, None}
use Rattle.std.proofs.Common.{arith}
use Rattle.gist.specs.Insert.{least_growth}
use Rattle.gist.specs.Remove.{mended, removed}
use Rattle.gist.specs.Search.{found}
use Rattle.gist.specs.Tree.{levels, pages, written}
use Rattle.intervals.specs.Intervals.{meets, interval_growing, interval_class}
use Rattle.intervals.specs.declared.interval.Interval.{Interval}
use Rattle.intervals.specs.declared.interval.IntervalQuery.TheVariants.{Meets, Inside}
use Rattle.member_sets.specs.Joining.{members_of}
use Rattle.member_sets.specs.Members.{has_member}
use Rattle.member_sets.specs.Sets.{growth, matches, set_class}
use Rattle.member_sets.specs.declared.key.SetKey.{SetKey}
use Rattle.member_sets.specs.declared.key.SetQuery.TheVariants.{HasAll, LiesWithin}
use Rattle.member_sets.specs.declared.members.Members.{Members}
use Rattle.rectangles.specs.Rectangles.{holds_point, rectangle_growing}
use Rattle.rectangles.specs.declared.rectangle.Rectangle.{Rectangle}
use Rattle.std.specs.Option.{option_map}
use Rattle.worked_examples.specs.Trees.{point, from, takes, points, less, page, leaf, from_30_to_40, leaf_on, entry_to, three_leaves, outline}

abbrev pub from_10_to_20 : Interval
from_10_to_20 = record { low = 10; high = 20; ordered = omega arith }

abbrev pub from_20_to_25 : Interval
from_20_to_25 = record { low = 20; high = 25; ordered = omega arith }

abbrev pub from_21_to_25 : Interval
from_21_to_25 = record { low = 21; high = 25; ordered = omega arith }

-- Ten by ten, with the left edge at x.
abbrev pub ten_by_ten : ℕ → ℕ → Rectangle → Type 0
ten_by_ten x y a = (a.left ≡ pos x) × (a.bottom ≡ pos 0) × (a.right ≡ pos y) × (a.top ≡ pos 10)

-- Sets by their members.
abbrev pub zero_alone : Members
zero_alone = members_of 1 0 0 0

abbrev pub zero_and_one : Members
zero_and_one = members_of 3 0 0 0

abbrev pub one_two_three : Members
one_two_three = members_of 14 0 0 0

abbrev pub five_alone : Members
five_alone = members_of 32 0 0 0

abbrev pub no_members : Members
no_members = members_of 0 0 0 0

abbrev pub key : (s : Members) → has_member s ≡ true → SetKey
key s p = record { members = s; some = p }

pub record WorkedExamples : Type 0 where
  pub interval_meets_at_its_end : meets from_10_to_20 from_20_to_25 ≡ true
  pub interval_does_not_meet_past_its_end : meets from_10_to_20 from_21_to_25 ≡ false
  pub rectangle_holds_its_corner : (a : Rectangle) → ten_by_ten 0 10 a → holds_point a (pos 10) (pos 10) ≡ true
  pub rectangle_does_not_hold_past_its_edge : (a : Rectangle) → ten_by_ten 0 10 a → holds_point a (pos 11) (pos 0) ≡ false
  pub rectangle_grows_by_area : (a b : Rectangle) → ten_by_ten 0 10 a → ten_by_ten 20 30 b → rectangle_growing.growth a b ≡ 200
  pub set_grows_by_what_it_lacks : (p : has_member zero_and_one ≡ true) (q : has_member one_two_three ≡ true) → growth (key zero_and_one p) (key one_two_three q) ≡ 2
  pub every_set_has_all_of_the_empty_one : (a : SetKey) → matches a (HasAll no_members) ≡ true
  pub no_set_lies_within_the_empty_one : (a : SetKey) → matches a (LiesWithin no_members) ≡ false
  pub of_thirteen_equal_sets_even_places_stay : (p : has_member zero_alone ≡ true)
      → set_class.split (replicate 13 (key zero_alone p))
      ≡ false ∷ true ∷ false ∷ true ∷ false ∷ true ∷ false ∷ true ∷ false ∷ true ∷ false ∷ true ∷ false ∷ []
  pub of_twelve_and_another_nine_stay : (p : has_member zero_alone ≡ true) (q : has_member five_alone ≡ true)
      → set_class.split (replicate 12 (key zero_alone p) ++ key five_alone q ∷ []) ≡ replicate 9 false ++ replicate 4 true
  pub twelve_points_lie_on_one_page : written interval_growing (points 12) ≡ (0, leaf (from 0 12)) ∷ []
  pub the_thirteenth_needs_two_pages : takes 12 (points 12) ≡ 2
  pub then_0_to_5_stay_and_6_to_12_go : written interval_growing (points 13)
      ≡ (2, page 2 ((0, 5, 0) ∷ (6, 12, 1) ∷ [])) ∷ (0, leaf (from 0 6)) ∷ (1, leaf (from 6 7)) ∷ []
  pub without_0_1_and_2_one_leaf_is_left : option_map (written interval_growing) (less (less (less (Some (points 13)) 0) 1) 2)
      ≡ Some ((1, leaf (from 6 7 ++ from 3 3)) ∷ [])
  pub without_0_the_key_above_is_formed_anew : option_map (written interval_growing) (less (Some (points 13)) 0)
      ≡ Some ((2, page 2 ((1, 5, 0) ∷ (6, 12, 1) ∷ [])) ∷ (0, leaf (from 1 5)) ∷ (1, leaf (from 6 7)) ∷ [])
  pub seventy_eight_points_have_two_levels : levels (points 78) ≡ 2
  pub the_next_needs_three_pages : takes 78 (points 78) ≡ 3
  pub then_there_are_three_levels_on_sixteen_pages : (levels (points 79) ≡ 3) × (length (pages (points 79)) ≡ 16)
  pub a_search_in_three_levels_finds_in_order : map (λ r. r.link) (found interval_class (Meets from_30_to_40) (points 79)) ≡ from 31 11
  pub a_search_goes_into_pages_that_do_not_match : map (λ r. r.link) (found interval_class (Inside from_30_to_40) (points 79)) ≡ from 31 11
  pub without_0_1_and_2_one_page_fewer : option_map (λ w. length (pages w)) (less (less (less (Some (points 79)) 0) 1) 2) ≡ Some 15
  pub a_wide_key_may_grow_less : least_growth interval_growing (point 15) (entry_to (leaf_on 7 (0 ∷ 10 ∷ [])) ∷ entry_to (leaf_on 8 (21 ∷ [])) ∷ []) ≡ 0
  pub on_a_tie_the_lowest_place : least_growth interval_growing (point 15) (entry_to (leaf_on 7 (20 ∷ [])) ∷ entry_to (leaf_on 8 (10 ∷ [])) ∷ []) ≡ 0
  pub the_partner_is_chosen_by_the_key_formed_anew : outline (mended interval_class 0 (point 38) three_leaves 1 (leaf_on 8 (20 ∷ 21 ∷ 22 ∷ []))) ≡ (7, 7) ∷ (9, 4) ∷ []
  pub a_record_of_another_number_is_not_found : removed interval_class (point 0) 2 (points 79) ≡ None

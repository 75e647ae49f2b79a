use Rattle.std.proofs.Common.{◌≡◌, ℕ, zero, suc, ◌/◌, ◌%◌, ◌^◌, true, false, eqb, refl, ap, ◌∙◌, ⊎_elim}
use native.Mathlib.Nat.{zero-div}
use Rattle.std.proofs.lemmas.Bool.{both_ways, cases_Bool}
use Rattle.member_sets.specs.Members.{bit, word, member, all_below, some_below, count_below, contains}
use Rattle.member_sets.specs.declared.key.SetKey.{SetKey}
use Rattle.member_sets.specs.Below.{some_tells}
use Rattle.member_sets.specs.Covering.{contains_tells}
use Rattle.node.specs.Nodes.{node_words}
use Rattle.worked_examples.specs.Examples.{no_members}
use Rattle.worked_examples.proofs.worked_examples_hold.Goals as goal

no_word : (j : ℕ) → word no_members j ≡ 0
no_word zero = refl
no_word (suc zero) = refl
no_word (suc (suc zero)) = refl
no_word (suc (suc (suc zero))) = refl
no_word (suc (suc (suc (suc j)))) = refl

no_member : (k : ℕ) → member no_members k ≡ false
unfolding member
no_member k = ap (λ n. bit n (k % 32)) (no_word (k / 32)) ∙ ap (λ n. eqb (n % 2) 1) (zero-div (2 ^ (k % 32)))

-- A set has a member, and the empty one has not that.
none_within : (a : SetKey) → contains no_members a.members ≡ false
none_within a = ⊎_elim
    (λ (h : contains no_members a.members ≡ true).
    let m = (some_tells 128 (member a.members)).0 a.some in
    absurd (both_ways _ (no_member m.0) ((contains_tells no_members a.members).0 h m.0 m.1 m.2)))
    (λ (h : contains no_members a.members ≡ false). h)
    (cases_Bool (contains no_members a.members))

pub returns : goal.returns
unfolding member all_below some_below count_below node_words
returns c = record {
  interval_meets_at_its_end = refl;
  interval_does_not_meet_past_its_end = refl;
  rectangle_holds_its_corner = λ a h. simp (h.0, h.1, h.2, h.3);
  rectangle_does_not_hold_past_its_edge = λ a h. simp (h.0, h.1, h.2, h.3);
  rectangle_grows_by_area = λ a b h k. simp (h.0, h.1, h.2, h.3, k.0, k.1, k.2, k.3);
  set_grows_by_what_it_lacks = λ p q. refl;
  every_set_has_all_of_the_empty_one = λ a. refl;
  no_set_lies_within_the_empty_one = none_within;
  of_thirteen_equal_sets_even_places_stay = λ p. refl;
  of_twelve_and_another_nine_stay = λ p q. refl;
  twelve_points_lie_on_one_page = refl;
  the_thirteenth_needs_two_pages = refl;
  then_0_to_5_stay_and_6_to_12_go = refl;
  without_0_1_and_2_one_leaf_is_left = refl;
  without_0_the_key_above_is_formed_anew = refl;
  seventy_eight_points_have_two_levels = refl;
  the_next_needs_three_pages = refl;
  then_there_are_three_levels_on_sixteen_pages = (refl, refl);
  a_search_in_three_levels_finds_in_order = refl;
  a_search_goes_into_pages_that_do_not_match = refl;
  without_0_1_and_2_one_page_fewer = refl;
  a_wide_key_may_grow_less = refl;
  on_a_tie_the_lowest_place = refl;
  the_partner_is_chosen_by_the_key_formed_anew = refl;
  a_record_of_another_number_is_not_found = refl;
}

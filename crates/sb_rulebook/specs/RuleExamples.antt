-- Computed examples of what follows, rule by rule, and of verdicts, levels and limits.
use Rattle.std.specs.Prelude.{◌≡◌, ℕ, pos, negsuc, true, false, List, [], ◌∷◌, ◌++◌, map, codes, Option, Some, None, option_map, Ok, Err, refl}
use Rattle.sb_lit.specs.declared.clause.Lit.{Lit}
use Rattle.sb_lang.specs.Regex.{Regex, none, eps, set, cat, neg, star, rep, path}
use Rattle.sb_lang.specs.Order.{regex_eq}
use Rattle.sb_lang.specs.Constructors.{any_character}
use Rattle.sb_meaning.specs.Terms.{Term, boolean, integer, text, constant, word, numeral}
use Rattle.sb_meaning.specs.Terms as symbol
use Rattle.sb_meaning.specs.Values.{Text, Int, Truth}
use Rattle.sb_rulebook.specs.Refusals.{Refusal, unknown_id, repeated, not_normal, wrong_target, not_closed, rule_broken, wrong_verdict}
use Rattle.sb_rulebook.specs.Atoms.{Atom, bool_atom, in_atom, le_atom, sum_atom, and_atom, iff_atom, truths_of, is_well_formed}
use Rattle.sb_rulebook.specs.Lines.{Line, regex_line, atom_line, expansion_line, dead_line, assertion_line, rule_line, learned_line, gate, step, set_node, rep_node, alt_node, path_node, said_sat, said_unsat, said_unknown, said_unsupported}
use Rattle.sb_rulebook.specs.Kept.{AllKept, Asked, nothing_kept, with_numbers, dropped_above, all_dropped}
use Rattle.sb_rulebook.specs.Expansions.{is_expansion}
use Rattle.sb_rulebook.specs.Gates.{is_gate}
use Rattle.sb_rulebook.specs.BoundClauses.{is_order, is_linear}
use Rattle.sb_rulebook.specs.Splits.{is_step, is_empty}
use Rattle.sb_rulebook.specs.Brought.{newest_format}
use Rattle.sb_rulebook.specs.ClauseRules.{is_translation}
use Rattle.sb_rulebook.specs.Follows.{by_rule}
use Rattle.sb_rulebook.specs.Verdicts.{Question, refusal_of, denies, denied_by}
use Rattle.sb_rulebook.specs.Relevant.{lies_between}
use Rattle.sb_rulebook.specs.Tables.{is_table}
use Rattle.sb_rulebook.specs.KeptLaws.{are_distinct, has_targets_below, names_regex_of, is_orderly_clause, is_rising}
use Rattle.sb_rulebook.specs.ProofExamples.{computing}
use Rattle.sb_rulebook.specs.TranslationExamples.{plus, minus, of}
use Rattle.sb_script.specs.Brought.{a_check_of, is_brought}
use Rattle.sb_script.specs.Pieces.{constant_piece, word_piece}
use Rattle.sb_script.specs.Sums.{int_constant, length_of}

abbrev a : Regex
a = set ((0x61, 0x61) ∷ [])

abbrev b : Regex
b = set ((0x62, 0x62) ∷ [])

-- Gates.

abbrev gates : List Atom
gates = bool_atom 0 ∷ bool_atom 1 ∷ and_atom (plus 0 ∷ minus 1 ∷ []) ∷ iff_atom (plus 0) (plus 1) ∷ le_atom
    (length_of 2) (pos 4) ∷ in_atom (constant_piece 2 ∷ []) (rep any_character 0 4) ∷ []

a_literal_and_its_negation : is_gate gates (plus 0 ∷ plus 1 ∷ minus 1 ∷ []) ≡ true
unfolding computing
a_literal_and_its_negation = refl

a_conjunction_gives_each : is_gate gates (minus 1 ∷ minus 2 ∷ []) ≡ true
unfolding computing
a_conjunction_gives_each = refl

all_give_a_conjunction : is_gate gates (minus 0 ∷ plus 1 ∷ plus 2 ∷ []) ≡ true
unfolding computing
all_give_a_conjunction = refl

no_gate_with_a_literal_less : is_gate gates (minus 0 ∷ plus 2 ∷ []) ≡ false
unfolding computing
no_gate_with_a_literal_less = refl

an_equivalence : is_gate gates (minus 0 ∷ plus 1 ∷ minus 3 ∷ []) ≡ true
unfolding computing
an_equivalence = refl

both_false_give_an_equivalence : is_gate gates (plus 0 ∷ plus 1 ∷ plus 3 ∷ []) ≡ true
unfolding computing
both_false_give_an_equivalence = refl

one_true_gives_none : is_gate gates (plus 0 ∷ minus 1 ∷ plus 3 ∷ []) ≡ false
unfolding computing
one_true_gives_none = refl

a_length_and_its_membership : is_gate gates (minus 4 ∷ plus 5 ∷ []) ≡ true
unfolding computing
a_length_and_its_membership = refl

a_membership_and_its_length : is_gate gates (plus 4 ∷ minus 5 ∷ []) ≡ true
unfolding computing
a_membership_and_its_length = refl

not_both : is_gate gates (minus 4 ∷ minus 5 ∷ []) ≡ false
unfolding computing
not_both = refl

-- Order and linear: x is 0, its length at most 2, 5, -1; n is 1, at most 5.

abbrev bounds : List Atom
bounds =
    le_atom (length_of 0) (pos 2) ∷ le_atom (length_of 0) (pos 5) ∷ le_atom (length_of 0) (negsuc 0) ∷ le_atom
    (int_constant 1) (pos 5)
    -- 4: the length and n are at most 7. 5: the length less n is at most -6
    ∷ sum_atom (pos 7) ((pos 1, length_of 0) ∷ (pos 1, int_constant 1) ∷ []) ∷ sum_atom (negsuc 5)
    ((pos 1, length_of 0) ∷ (negsuc 0, int_constant 1) ∷ []) ∷ []

a_lesser_bound : is_order bounds (minus 0 ∷ plus 1 ∷ []) ≡ true
unfolding computing
a_lesser_bound = refl

not_a_greater_one : is_order bounds (plus 0 ∷ minus 1 ∷ []) ≡ false
unfolding computing
not_a_greater_one = refl

not_of_another : is_order bounds (minus 0 ∷ plus 3 ∷ []) ≡ false
unfolding computing
not_of_another = refl

no_length_is_below_0 : is_order bounds (minus 2 ∷ []) ≡ true
unfolding computing
no_length_is_below_0 = refl

-- at most 2 and 5 are at most 7
the_greatest_is_low : is_linear bounds (minus 0 ∷ minus 3 ∷ plus 4 ∷ []) ≡ true
unfolding computing
the_greatest_is_low = refl

the_greatest_is_not : is_linear bounds (minus 1 ∷ minus 3 ∷ plus 4 ∷ []) ≡ false
unfolding computing
the_greatest_is_not = refl

a_bound_is_missing : is_linear bounds (minus 0 ∷ plus 4 ∷ []) ≡ false
unfolding computing
a_bound_is_missing = refl

-- 0 less 5 is above -6: the length's lower bound stands by itself
the_least_is_high : is_linear bounds (minus 3 ∷ minus 5 ∷ []) ≡ true
unfolding computing
the_least_is_high = refl

-- more than 2 and more than 5 are more than 7
both_lower_bounds : is_linear bounds (plus 0 ∷ plus 3 ∷ minus 4 ∷ []) ≡ true
unfolding computing
both_lower_bounds = refl

two_sums : is_linear bounds (minus 3 ∷ plus 4 ∷ minus 5 ∷ []) ≡ false
unfolding computing
two_sums = refl

of_another_atom : is_linear (bounds ++ bool_atom 9 ∷ []) (minus 0 ∷ minus 3 ∷ plus 4 ∷ plus 6 ∷ []) ≡ false
unfolding computing
of_another_atom = refl

abbrev large_bound : Atom
large_bound = le_atom (length_of 0) (pos 0x100000001)

a_bound_too_large : is_well_formed large_bound ≡ false
unfolding computing
a_bound_too_large = refl

no_bound_no_number_near : lies_between None (Some (pos 2)) (pos 1) ≡ false
unfolding computing
no_bound_no_number_near = refl

-- Step.

abbrev memberships : List Atom
memberships =
    -- 0: x and y are in ab. 1: x leads from ab to b. 2: y is in b
    in_atom (constant_piece 0 ∷ constant_piece 1 ∷ []) (cat a b) ∷ in_atom (constant_piece 0 ∷ []) (path (cat a b) b) ∷
    in_atom (constant_piece 1 ∷ []) b
    -- 3: "a" and y are in ab. 4: nothing is in a*. 5: nothing is in b
    ∷ in_atom (word_piece (codes "a") ∷ constant_piece 1 ∷ []) (cat a b) ∷ in_atom [] (star a) ∷ in_atom [] b ∷ []

split_there : is_step memberships (minus 0 ∷ minus 1 ∷ plus 2 ∷ []) ≡ true
unfolding computing
split_there = refl

split_back : is_step memberships (plus 0 ∷ minus 1 ∷ minus 2 ∷ []) ≡ true
unfolding computing
split_back = refl

no_split_of_other_pieces : is_step (memberships ++ in_atom (constant_piece 2 ∷ []) b ∷ [])
    (minus 0 ∷ minus 1 ∷ plus 6 ∷ []) ≡ false
unfolding computing
no_split_of_other_pieces = refl

no_split_without_a_way : is_step memberships (minus 0 ∷ plus 1 ∷ minus 2 ∷ []) ≡ false
unfolding computing
no_split_without_a_way = refl

a_word_is_cut : is_step memberships (plus 2 ∷ minus 3 ∷ []) ≡ true
unfolding computing
a_word_is_cut = refl

a_word_is_cut_back : is_step memberships (minus 2 ∷ plus 3 ∷ []) ≡ true
unfolding computing
a_word_is_cut_back = refl

the_empty_word_is_in : is_step memberships (plus 4 ∷ []) ≡ true
unfolding computing
the_empty_word_is_in = refl

the_empty_word_is_not_in : is_step memberships (minus 5 ∷ []) ≡ true
unfolding computing
the_empty_word_is_not_in = refl

not_the_other_way : is_step memberships (plus 5 ∷ []) ≡ false
unfolding computing
not_the_other_way = refl

-- More memberships, behind those: where no pieces are left, from a regex that no word leads on from, and wrong ones.

abbrev more_memberships : List Atom
more_memberships =
    memberships
    -- 6: x is in b. 7: x leads from b to eps. 8: nothing is in eps. 9: "a" is in ab. 10: nothing is in ab
    ++ in_atom (constant_piece 0 ∷ []) b ∷ in_atom (constant_piece 0 ∷ []) (path b eps) ∷ in_atom [] eps
    ∷ in_atom (word_piece (codes "a") ∷ []) (cat a b) ∷ in_atom [] (cat a b)
    -- 11: x and y are in none. 12: x leads from none to none, so it is any word. 13: y is in none
    ∷ in_atom (constant_piece 0 ∷ constant_piece 1 ∷ []) none ∷ in_atom (constant_piece 0 ∷ []) (neg none) ∷ in_atom
    (constant_piece 1 ∷ []) none
    -- 14: x leads from ab to ab. 15: y is in ab. 16: x, "a" and y are in ab. 17: y leads from ab to b
    ∷ in_atom (constant_piece 0 ∷ []) (path (cat a b) (cat a b)) ∷ in_atom (constant_piece 1 ∷ []) (cat a b) ∷ in_atom
    (constant_piece 0 ∷ word_piece (codes "a") ∷ constant_piece 1 ∷ []) (cat a b) ∷ in_atom (constant_piece 1 ∷ [])
    (path (cat a b) b) ∷ []

-- x is in b, it leads from b to eps, and nothing is in eps, either way
split_to_no_pieces : is_step more_memberships (minus 6 ∷ minus 7 ∷ plus 8 ∷ []) ≡ true
unfolding computing
split_to_no_pieces = refl

split_back_from_no_pieces : is_step more_memberships (plus 6 ∷ minus 7 ∷ minus 8 ∷ []) ≡ true
unfolding computing
split_back_from_no_pieces = refl

-- "a" is in ab where nothing is in b
a_word_alone_is_cut : is_step more_memberships (plus 5 ∷ minus 9 ∷ []) ≡ true
unfolding computing
a_word_alone_is_cut = refl

a_word_alone_is_cut_back : is_step more_memberships (minus 5 ∷ plus 9 ∷ []) ≡ true
unfolding computing
a_word_alone_is_cut_back = refl

split_at_none : is_step more_memberships (minus 11 ∷ minus 12 ∷ plus 13 ∷ []) ≡ true
unfolding computing
split_at_none = refl

-- the same regex again, to which a word may lead as to any other
split_at_itself : is_step more_memberships (minus 0 ∷ minus 14 ∷ plus 15 ∷ []) ≡ true
unfolding computing
split_at_itself = refl

-- the rest is to be in the regex behind the word, and not in the one before it
the_word_is_not_forgotten : is_step more_memberships (minus 3 ∷ plus 15 ∷ []) ≡ false
unfolding computing
the_word_is_not_forgotten = refl

not_without_the_word : is_step more_memberships (minus 9 ∷ plus 10 ∷ []) ≡ false
unfolding computing
not_without_the_word = refl

-- a word between two constants stays with the rest
the_word_between_stays : is_step more_memberships (minus 1 ∷ plus 2 ∷ minus 16 ∷ []) ≡ false
unfolding computing
the_word_between_stays = refl

-- the constant that leads is the first piece, and leads to the regex of the rest
not_of_the_second_piece : is_step more_memberships (minus 0 ∷ plus 2 ∷ minus 17 ∷ []) ≡ false
unfolding computing
not_of_the_second_piece = refl

not_to_another_regex : is_step more_memberships (minus 0 ∷ minus 1 ∷ plus 15 ∷ []) ≡ false
unfolding computing
not_to_another_regex = refl

-- both signs, and neither; more literals, and fewer
not_both_true : is_step more_memberships (plus 0 ∷ minus 1 ∷ plus 2 ∷ []) ≡ false
unfolding computing
not_both_true = refl

not_both_false : is_step more_memberships (minus 2 ∷ minus 3 ∷ []) ≡ false
unfolding computing
not_both_false = refl

one_literal_more : is_step more_memberships (plus 4 ∷ plus 6 ∷ []) ≡ false
unfolding computing
one_literal_more = refl

one_literal_less : is_step more_memberships (minus 0 ∷ plus 2 ∷ []) ≡ false
unfolding computing
one_literal_less = refl

no_literal : is_step more_memberships [] ≡ false
no_literal = refl

-- Empty: x is in a, and x is not in a or b; y is in b.

abbrev nothing : AllKept
nothing = nothing_kept newest_format

abbrev cover : AllKept
cover = record nothing {
  regexes = none ∷ a ∷ [];
  expansions = None ∷ None ∷ [];
  atoms = in_atom (constant_piece 0 ∷ []) a ∷ in_atom (constant_piece 0 ∷ []) (set ((0x61, 0x62) ∷ [])) ∷ in_atom
      (constant_piece 1 ∷ []) b ∷ in_atom (constant_piece 0 ∷ []) b ∷ [];
  dead = true ∷ false ∷ [];
}

-- x is not in a, or not in b
sets_apart : is_empty cover (minus 0 ∷ minus 3 ∷ []) ≡ true
unfolding computing
sets_apart = refl

not_of_two_constants : is_empty cover (minus 0 ∷ minus 2 ∷ []) ≡ false
unfolding computing
not_of_two_constants = refl

not_of_no_constant : is_empty cover [] ≡ false
unfolding computing
not_of_no_constant = refl

-- a literal that is not negated gives the complement, which is not said to be dead here
not_without_a_dead_regex : is_empty cover (minus 0 ∷ plus 1 ∷ []) ≡ false
unfolding computing
not_without_a_dead_regex = refl

-- Expansions.

abbrev others : List (ℕ × ℕ)
others = (0, 0x60) ∷ (0x62, 0x2ffff) ∷ []

a_star : is_expansion (star a) (((0x61, 0x61) ∷ [], star a) ∷ (others, none) ∷ []) ≡ true
unfolding computing
a_star = refl

-- one target in several classes, in any order
a_target_twice : is_expansion (star a)
    (((0x62, 0x2ffff) ∷ [], none) ∷ ((0x61, 0x61) ∷ [], star a) ∷ ((0, 0x60) ∷ [], none) ∷ []) ≡ true
unfolding computing
a_target_twice = refl

a_gap : is_expansion (star a) (((0x61, 0x61) ∷ [], star a) ∷ ((0, 0x60) ∷ (0x63, 0x2ffff) ∷ [], none) ∷ []) ≡ false
unfolding computing
a_gap = refl

an_overlap : is_expansion (star a) (((0x61, 0x61) ∷ [], star a) ∷ ((0, 0x61) ∷ (0x63, 0x2ffff) ∷ [], none) ∷ []) ≡ false
unfolding computing
an_overlap = refl

-- the class has a character whose derivative is another
a_class_too_wide : is_expansion (star a) (((0x61, 0x62) ∷ [], star a) ∷ ((0, 0x60) ∷ (0x63, 0x2ffff) ∷ [], none) ∷ [])
    ≡ false
unfolding computing
a_class_too_wide = refl

adjacent_ranges : is_expansion none (((0, 0x60) ∷ (0x61, 0x2ffff) ∷ [], none) ∷ []) ≡ false
unfolding computing
adjacent_ranges = refl

past_the_last_character : is_expansion none (((0, 0x30000) ∷ [], none) ∷ []) ≡ false
unfolding computing
past_the_last_character = refl

no_classes : is_expansion none [] ≡ false
unfolding computing
no_classes = refl

-- Lines in a script with p Bool, x String and n Int, where p is asserted at level 0, and n <= 5 and (not p) at level 2,
-- and one line counts.

abbrev asked : Asked
asked = record {
  live = (Some (constant 0 boolean), 0) ∷ (None, 1) ∷ (
    Some (symbol.apply symbol.at_most
        (symbol.with_term (constant 2 integer) (symbol.with_term (numeral 5) symbol.no_terms))),
    2,
  ) ∷ (Some (symbol.apply symbol.core_not (symbol.with_term (constant 0 boolean) symbol.no_terms)), 2) ∷ [];
  sorts = boolean ∷ text ∷ integer ∷ [];
  limit = 1;
}

abbrev kept : AllKept
kept = record nothing {
  regexes = none ∷ a ∷ star a ∷ [];
  expansions = None ∷ None ∷ None ∷ [];
  dead = false ∷ false ∷ false ∷ [];
  atoms =
      bool_atom 0 ∷ le_atom (int_constant 2) (pos 5) ∷ [];
}

abbrev refusal_in : AllKept → Line → Option Refusal
refusal_in k line = elim (by_rule asked k line) [ Ok after ↦ None | Err refusal ↦ Some refusal ]

-- with these clauses, each with its level, that rest on these assertions
abbrev with_clauses : List (Option (List Lit × ℕ)) → List (List ℕ) → AllKept → AllKept
with_clauses cs rests k =
    record k { clauses = map (option_map (λ c. record { literals = c.0; level = c.1 })) cs; rests = rests }

-- the clause of an assertion has its level and rests on it, and one by a rule has level 0 and rests on none
an_assertion : by_rule asked kept (assertion_line 3 (minus 0))
    ≡ Ok (with_clauses (Some (minus 0 ∷ [], 2) ∷ []) ((3 ∷ []) ∷ []) kept)
unfolding computing
an_assertion = refl

a_gate : by_rule asked kept (rule_line gate (plus 0 ∷ minus 0 ∷ []))
    ≡ Ok (with_clauses (Some (plus 0 ∷ minus 0 ∷ [], 0) ∷ []) ([] ∷ []) kept)
unfolding computing
a_gate = refl

a_mark : refusal_in kept (assertion_line 1 (plus 0)) ≡ Some rule_broken
unfolding computing
a_mark = refl

-- its form is to come, though it has a literal
an_assertion_to_come : refusal_in kept (assertion_line 2 (plus 1)) ≡ Some rule_broken
unfolding computing
an_assertion_to_come = refl

-- (= (str.++ x "b") "ab") has its literal; where a constant stands twice, or no side is ground, there is none
abbrev x : Term
x = constant 1 text

abbrev joined_atoms : List Atom
joined_atoms =
    in_atom (constant_piece 1 ∷ word_piece (codes "b") ∷ []) (cat a b) ∷ in_atom
    (constant_piece 1 ∷ constant_piece 1 ∷ []) (cat a b) ∷ []

abbrev is_ab : List Term → Term
is_ab ts = of symbol.core_equal (of symbol.str_concat ts ∷ word (codes "ab") ∷ [])

joined_constants : is_translation joined_atoms (Some (is_ab (x ∷ word (codes "b") ∷ []))) (plus 0) ≡ true
unfolding computing
joined_constants = refl

are_checked : is_brought (a_check_of (is_ab (x ∷ word (codes "b") ∷ []))) ≡ true
are_checked = refl

not_denied : is_translation joined_atoms (Some (is_ab (x ∷ word (codes "b") ∷ []))) (minus 0) ≡ false
unfolding computing
not_denied = refl

a_constant_twice : is_translation joined_atoms (Some (is_ab (x ∷ x ∷ []))) (plus 1) ≡ false
unfolding computing
a_constant_twice = refl

no_ground_side : is_translation joined_atoms (Some (of symbol.core_equal (x ∷ x ∷ []))) (plus 0) ≡ false
unfolding computing
no_ground_side = refl

past_the_last_assertion : refusal_in kept (assertion_line 4 (plus 0)) ≡ Some unknown_id
unfolding computing
past_the_last_assertion = refl

an_atom_that_is_not_there : refusal_in kept (rule_line gate (plus 7 ∷ minus 7 ∷ [])) ≡ Some unknown_id
unfolding computing
an_atom_that_is_not_there = refl

literals_out_of_order : refusal_in kept (rule_line gate (minus 0 ∷ plus 0 ∷ [])) ≡ Some rule_broken
unfolding computing
literals_out_of_order = refl

-- Regexes and atoms.

a_set_out_of_order : refusal_in kept (regex_line (set_node ((0x62, 0x62) ∷ (0x61, 0x61) ∷ []))) ≡ Some not_normal
unfolding computing
a_set_out_of_order = refl

bounds_out_of_order : refusal_in kept (regex_line (rep_node 1 3 2)) ≡ Some not_normal
unfolding computing
bounds_out_of_order = refl

a_union_of_one : refusal_in kept (regex_line (alt_node (1 ∷ []))) ≡ Some not_normal
unfolding computing
a_union_of_one = refl

an_atom_twice : refusal_in kept (atom_line (bool_atom 0)) ≡ Some repeated
unfolding computing
an_atom_twice = refl

a_constant_of_another_sort : refusal_in kept (atom_line (bool_atom 1)) ≡ Some unknown_id
unfolding computing
a_constant_of_another_sort = refl

a_regex_that_is_not_there : refusal_in kept (atom_line (in_atom (constant_piece 1 ∷ []) 3)) ≡ Some unknown_id
unfolding computing
a_regex_that_is_not_there = refl

two_words : refusal_in kept (atom_line (in_atom (word_piece (codes "a") ∷ word_piece (codes "b") ∷ []) 1))
    ≡ Some not_normal
unfolding computing
two_words = refl

-- several pieces, and none; a word that is empty, and a constant of another sort
several_pieces : by_rule asked kept
    (atom_line (in_atom (constant_piece 1 ∷ word_piece (codes "a") ∷ constant_piece 1 ∷ []) 1))
    ≡ Ok (record kept {
      atoms =
          kept.atoms ++ in_atom (constant_piece 1 ∷ word_piece (codes "a") ∷ constant_piece 1 ∷ []) a ∷ [];
    })
unfolding computing
several_pieces = refl

no_pieces : by_rule asked kept (atom_line (in_atom [] 2))
    ≡ Ok (record kept { atoms = kept.atoms ++ in_atom [] (star a) ∷ [] })
unfolding computing
no_pieces = refl

an_empty_word : refusal_in kept (atom_line (in_atom (constant_piece 1 ∷ word_piece [] ∷ []) 1)) ≡ Some not_normal
unfolding computing
an_empty_word = refl

a_piece_of_another_sort : refusal_in kept (atom_line (in_atom (word_piece (codes "a") ∷ constant_piece 2 ∷ []) 1))
    ≡ Some unknown_id
unfolding computing
a_piece_of_another_sort = refl

a_sum_of_one : refusal_in kept (atom_line (sum_atom (pos 5) ((negsuc 0, int_constant 2) ∷ []))) ≡ Some not_normal
unfolding computing
a_sum_of_one = refl

one_literal : refusal_in kept (atom_line (and_atom (plus 0 ∷ []))) ≡ Some not_normal
unfolding computing
one_literal = refl

-- Paths: from a* and from a, not from none.

a_path : by_rule asked kept (regex_line (path_node 2 0))
    ≡ Ok (record kept {
      regexes = kept.regexes ++ path (star a) none ∷ [];
      expansions = kept.expansions ++ None ∷ [];
      dead = kept.dead ++ false ∷ [];
    })
unfolding computing
a_path = refl

a_path_from_none : refusal_in kept (regex_line (path_node 0 1)) ≡ Some not_normal
unfolding computing
a_path_from_none = refl

a_path_to_no_regex : refusal_in kept (regex_line (path_node 1 3)) ≡ Some unknown_id
unfolding computing
a_path_to_no_regex = refl

-- the path from a* to none expands to itself, and by other characters to every word
abbrev with_path : AllKept
with_path = record kept {
  regexes = kept.regexes ++ neg none ∷ path (star a) none ∷ [];
  expansions = kept.expansions ++ None ∷ None ∷ [];
  dead = kept.dead ++ false ∷ false ∷ [];
}

an_expansion_of_a_path : by_rule asked with_path (expansion_line 4 (((0x61, 0x61) ∷ [], 4) ∷ (others, 3) ∷ []))
    ≡ Ok (record with_path {
      expansions = kept.expansions ++ None ∷ Some (4 ∷ 3 ∷ []) ∷ [];
      counted = 1;
    })
unfolding computing
an_expansion_of_a_path = refl

not_to_the_second_part : refusal_in with_path (expansion_line 4 (((0x61, 0x61) ∷ [], 4) ∷ (others, 0) ∷ []))
    ≡ Some wrong_target
unfolding computing
not_to_the_second_part = refl

-- Steps count, are new, and their literals ascend.

abbrev with_steps : AllKept
with_steps = record kept { atoms = memberships }

a_step : by_rule asked with_steps (rule_line step (minus 0 ∷ minus 1 ∷ plus 2 ∷ []))
    ≡ Ok (record with_steps {
      clauses = Some (record { literals = minus 0 ∷ minus 1 ∷ plus 2 ∷ []; level = 0 }) ∷ [];
      rests = [] ∷ [];
      counted = 1;
    })
unfolding computing
a_step = refl

a_step_out_of_order : refusal_in with_steps (rule_line step (minus 1 ∷ minus 0 ∷ plus 2 ∷ [])) ≡ Some rule_broken
unfolding computing
a_step_out_of_order = refl

a_step_of_no_atom : refusal_in with_steps (rule_line step (plus 6 ∷ [])) ≡ Some unknown_id
unfolding computing
a_step_of_no_atom = refl

a_step_twice : refusal_in (with_clauses (Some (plus 4 ∷ [], 0) ∷ []) ([] ∷ []) with_steps)
    (rule_line step (plus 4 ∷ [])) ≡ Some repeated
unfolding computing
a_step_twice = refl

a_step_past_the_limit : refusal_in (record with_steps { counted = 1 }) (rule_line step (plus 4 ∷ []))
    ≡ Some wrong_verdict
unfolding computing
a_step_past_the_limit = refl

-- The limit: one line counts, the next is a wrong verdict, though it follows.

abbrev after_one : AllKept
after_one = record kept { counted = 1 }

a_line_within_the_limit : by_rule asked kept (expansion_line 0 (((0, 0x2ffff) ∷ [], 0) ∷ []))
    ≡ Ok (record kept { expansions = Some (0 ∷ []) ∷ None ∷ None ∷ []; counted = 1 })
unfolding computing
a_line_within_the_limit = refl

a_line_past_the_limit : refusal_in after_one (expansion_line 0 (((0, 0x2ffff) ∷ [], 0) ∷ [])) ≡ Some wrong_verdict
unfolding computing
a_line_past_the_limit = refl

its_other_faults_come_first : refusal_in after_one (expansion_line 0 (((0, 0x2ffff) ∷ [], 1) ∷ [])) ≡ Some wrong_target
unfolding computing
its_other_faults_come_first = refl

-- Dead regexes: each member once, and not before.

abbrev with_none : AllKept
with_none = record kept { expansions = Some (0 ∷ []) ∷ None ∷ None ∷ [] }

abbrev dead_none : AllKept
dead_none = record with_none { dead = true ∷ false ∷ false ∷ [] }

none_is_dead : by_rule asked with_none (dead_line (0 ∷ [])) ≡ Ok dead_none
unfolding computing
none_is_dead = refl

a_member_twice : refusal_in with_none (dead_line (0 ∷ 0 ∷ [])) ≡ Some repeated
unfolding computing
a_member_twice = refl

dead_before : refusal_in dead_none (dead_line (0 ∷ [])) ≡ Some repeated
unfolding computing
dead_before = refl

-- member by member: the first is not expanded, the second nullable
the_first_member_decides : refusal_in with_none (dead_line (1 ∷ 2 ∷ [])) ≡ Some not_closed
unfolding computing
the_first_member_decides = refl

-- Levels.

abbrev four_rests : List (List ℕ)
four_rests = (0 ∷ []) ∷ (2 ∷ []) ∷ (0 ∷ 2 ∷ []) ∷ (1 ∷ []) ∷ []

abbrev leveled : AllKept
leveled = with_clauses (Some (plus 0 ∷ [], 0) ∷ Some (plus 1 ∷ [], 2) ∷ None ∷ Some (minus 1 ∷ [], 1) ∷ [])
    four_rests kept

a_pop : dropped_above 1 leveled
    ≡ with_clauses (Some (plus 0 ∷ [], 0) ∷ None ∷ None ∷ Some (minus 1 ∷ [], 1) ∷ []) four_rests kept
a_pop = refl

a_reset : all_dropped leveled ≡ with_clauses (None ∷ None ∷ None ∷ None ∷ []) four_rests kept
a_reset = refl

-- a clause is new where the one that it repeats was dropped
new_again : refusal_in (all_dropped leveled) (learned_line (plus 0 ∷ []) []) ≡ Some rule_broken
unfolding computing
new_again = refl

-- Verdicts: p is asserted, and assumed or not; x and n are declared.

abbrev question : Question
question = record {
  asked = record asked { live = (Some (constant 0 boolean), 0) ∷ [] };
  constants = record { name = codes "p"; serial = 0; sort = boolean } ∷ record {
    name = codes "x";
    serial = 1;
    sort =
        text;
  } ∷ record { name = codes "n"; serial = 2; sort = integer } ∷ [];
  assumptions = (0, false) ∷ [];
  inside = true;
}

abbrev without_assumption : Question
without_assumption = record question { assumptions = [] }

abbrev outside : Question
outside = record question { inside = false }

abbrev refuted : AllKept
refuted = with_clauses (Some (plus 0 ∷ [], 0) ∷ Some (plus 1 ∷ [], 0) ∷ None ∷ []) ((0 ∷ []) ∷ [] ∷ [] ∷ []) kept

a_model : refusal_of without_assumption kept (said_sat (Truth true ∷ Text [] ∷ Int (pos 0) ∷ [])) ≡ None
unfolding computing
a_model = refl

a_false_assertion : refusal_of without_assumption kept (said_sat (Truth false ∷ Text [] ∷ Int (pos 0) ∷ []))
    ≡ Some wrong_verdict
unfolding computing
a_false_assertion = refl

a_false_assumption : refusal_of question kept (said_sat (Truth true ∷ Text [] ∷ Int (pos 0) ∷ [])) ≡ Some wrong_verdict
unfolding computing
a_false_assumption = refl

a_value_of_another_sort : refusal_of without_assumption kept (said_sat (Truth true ∷ Int (pos 0) ∷ Int (pos 0) ∷ []))
    ≡ Some wrong_verdict
unfolding computing
a_value_of_another_sort = refl

a_value_too_few : refusal_of without_assumption kept (said_sat (Truth true ∷ Text [] ∷ [])) ≡ Some wrong_verdict
unfolding computing
a_value_too_few = refl

-- the clause says p, and not p is assumed
an_assumption_is_refuted : refusal_of question refuted (said_unsat 0 None) ≡ None
unfolding computing
an_assumption_is_refuted = refl

no_assumption_is : refusal_of without_assumption refuted (said_unsat 0 None) ≡ Some wrong_verdict
unfolding computing
no_assumption_is = refl

-- an assumption that is given twice is named once, at its first place
denied_once :
    denied_by (record question { assumptions = (0, false) ∷ (3, true) ∷ (0, false) ∷ (0, true) ∷ [] }) refuted
    (record { literals = plus 0 ∷ []; level = 0 })
    ≡ (0, false) ∷ []
unfolding computing
denied_once = refl

-- places are listed in the formats that have them alone
no_places_here : refusal_of question refuted (said_unsat 0 (Some (0 ∷ []))) ≡ Some wrong_verdict
unfolding computing
no_places_here = refl

abbrev refuted_with_places : AllKept
refuted_with_places = record refuted { format = 3 }

places_are_listed : refusal_of question refuted_with_places (said_unsat 0 (Some (0 ∷ []))) ≡ None
unfolding computing
places_are_listed = refl

places_are_missing : refusal_of question refuted_with_places (said_unsat 0 None) ≡ Some wrong_verdict
unfolding computing
places_are_missing = refl

other_places : refusal_of question refuted_with_places (said_unsat 0 (Some [])) ≡ Some wrong_verdict
unfolding computing
other_places = refl

a_place_of_no_assertion : refusal_of question refuted_with_places (said_unsat 0 (Some (1 ∷ []))) ≡ Some unknown_id
unfolding computing
a_place_of_no_assertion = refl

of_no_bool_atom : refusal_of question refuted (said_unsat 1 None) ≡ Some wrong_verdict
unfolding computing
of_no_bool_atom = refl

a_dropped_clause : refusal_of outside refuted (said_unsat 2 None) ≡ Some unknown_id
unfolding computing
a_dropped_clause = refl

outside_the_fragment : refusal_of outside kept said_unsupported ≡ None
outside_the_fragment = refl

inside_the_fragment : refusal_of question kept said_unsupported ≡ Some wrong_verdict
inside_the_fragment = refl

nothing_else_outside : refusal_of outside after_one (said_unknown 1) ≡ Some wrong_verdict
nothing_else_outside = refl

the_limit_is_used : refusal_of question after_one (said_unknown 1) ≡ None
the_limit_is_used = refl

the_limit_is_not_used : refusal_of question kept (said_unknown 1) ≡ Some wrong_verdict
the_limit_is_not_used = refl

another_limit : refusal_of question kept (said_unknown 0) ≡ Some wrong_verdict
another_limit = refl

-- Truth of atoms: p is true, x is "ab", n is 7.
truths : truths_of ((0, Truth true) ∷ (1, Text (codes "ab")) ∷ (2, Int (pos 7)) ∷ [])
    (bool_atom 0 ∷ in_atom (constant_piece 1 ∷ []) (cat a b) ∷ le_atom (length_of 1) (pos 1) ∷ le_atom (int_constant 2)
    (pos 7)
    ∷ sum_atom (pos 4) ((pos 1, int_constant 2) ∷ (negsuc 0, length_of 1) ∷ []) ∷ and_atom (plus 0 ∷ minus 2 ∷ []) ∷
    iff_atom (plus 0) (plus 4) ∷ [])
    ≡ true ∷ true ∷ false ∷ true ∷ false ∷ true ∷ false ∷ []
unfolding computing
truths = refl

-- What is kept is orderly: some tables that are not.

a_regex_that_stands_twice : are_distinct regex_eq (a ∷ b ∷ a ∷ []) ≡ false
unfolding computing
a_regex_that_stands_twice = refl

regexes_that_stand_once : are_distinct regex_eq (a ∷ b ∷ star a ∷ []) ≡ true
unfolding computing
regexes_that_stand_once = refl

a_target_that_is_not_defined : has_targets_below 2 (Some (0 ∷ 2 ∷ [])) ≡ false
a_target_that_is_not_defined = refl

an_atom_that_names_itself : is_table (bool_atom 0 ∷ iff_atom (plus 0) (plus 1) ∷ []) ≡ false
an_atom_that_names_itself = refl

an_atom_in_no_regex : names_regex_of (a ∷ []) (in_atom (constant_piece 0 ∷ []) b) ≡ false
unfolding computing
an_atom_in_no_regex = refl

a_clause_out_of_order : is_orderly_clause (bool_atom 0 ∷ bool_atom 1 ∷ [])
    (Some (record { literals = plus 1 ∷ plus 0 ∷ []; level = 0 })) ≡ false
a_clause_out_of_order = refl

a_clause_of_no_atom : is_orderly_clause (bool_atom 0 ∷ [])
    (Some (record { literals = plus 0 ∷ plus 1 ∷ []; level = 0 })) ≡ false
a_clause_of_no_atom = refl

places_put_together : with_numbers (1 ∷ 4 ∷ []) (0 ∷ 1 ∷ 5 ∷ []) ≡ 0 ∷ 1 ∷ 4 ∷ 5 ∷ []
places_put_together = refl

a_place_twice : is_rising (0 ∷ 1 ∷ 1 ∷ []) ≡ false
a_place_twice = refl

-- Literals that are the negation of an assumption.

denied : denies (minus 0) (Some (bool_atom 3)) (3, true) ≡ true
unfolding computing
denied = refl

not_with_its_sign : denies (plus 0) (Some (bool_atom 3)) (3, true) ≡ false
unfolding computing
not_with_its_sign = refl

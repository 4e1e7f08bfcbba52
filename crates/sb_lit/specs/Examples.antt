-- Computed examples of learned clauses, and of levels that are left.
use Rattle.std.specs.Prelude.{◌≡◌, ℕ, true, false, List, [], ◌∷◌, Option, Some, None, Ok, Err, refl}
use Rattle.sb_lit.specs.declared.clause.Lit.{Lit}
use Rattle.sb_lit.specs.Clauses.{are_ascending}
use Rattle.sb_lit.specs.Kept.{Kept, KeptClause, kept_at, kept_up_to}
use Rattle.sb_lit.specs.Hints.{learned, unknown_hint, repeated_clause, idle_hint, not_by_hints}

abbrev plus : ℕ → Lit
plus atom = record { atom = atom; positive = true }

abbrev minus : ℕ → Lit
minus atom = record { atom = atom; positive = false }

abbrev at_level : ℕ → List Lit → Option KeptClause
at_level level literals = Some (record { literals = literals; level = level })

-- 0: not 0 or 1. 1: not 1 or 2. 2: not 0 or not 2
abbrev three : Kept
three =
    at_level 0 (minus 0 ∷ plus 1 ∷ []) ∷ at_level 2 (minus 1 ∷ plus 2 ∷ []) ∷ at_level 1 (minus 0 ∷ minus 2 ∷ []) ∷ []

-- where 0 is true, the first forces 1, the second 2, and the third is false
not_zero_is_learned : learned three (minus 0 ∷ []) (0 ∷ 1 ∷ 2 ∷ []) ≡ Ok 2
not_zero_is_learned = refl

-- the other way round: the third forces not 2, the second not 1, and the first is false
learned_the_other_way_round : learned three (minus 0 ∷ []) (2 ∷ 1 ∷ 0 ∷ []) ≡ Ok 2
learned_the_other_way_round = refl

-- the second first has two literals without a value
idle_where_two_are_open : learned three (minus 0 ∷ []) (1 ∷ 0 ∷ 2 ∷ []) ≡ Err idle_hint
idle_where_two_are_open = refl

-- a hint behind a false one, and a hint whose literal was forced before
idle_behind_a_false_one : learned three (minus 0 ∷ []) (0 ∷ 1 ∷ 2 ∷ 0 ∷ []) ≡ Err idle_hint
idle_behind_a_false_one = refl

idle_at_a_true_literal : learned three (minus 0 ∷ []) (0 ∷ 0 ∷ 1 ∷ 2 ∷ []) ≡ Err idle_hint
idle_at_a_true_literal = refl

-- without a false hint
broken_without_a_false_hint : learned three (minus 0 ∷ []) (0 ∷ 1 ∷ []) ≡ Err not_by_hints
broken_without_a_false_hint = refl

broken_without_hints : learned three (minus 0 ∷ []) [] ≡ Err not_by_hints
broken_without_hints = refl

-- literals that do not ascend, or are repeated
broken_out_of_order : learned three (plus 3 ∷ minus 0 ∷ []) (0 ∷ 1 ∷ 2 ∷ []) ≡ Err not_by_hints
broken_out_of_order = refl

broken_at_a_doubled_literal : learned three (minus 0 ∷ minus 0 ∷ []) (0 ∷ 1 ∷ 2 ∷ []) ≡ Err not_by_hints
broken_at_a_doubled_literal = refl

-- a number past the end, and one of a dropped clause; they are looked for before all else
unknown_past_the_end : learned three (minus 0 ∷ []) (1 ∷ 3 ∷ []) ≡ Err unknown_hint
unknown_past_the_end = refl

unknown_where_dropped : learned (None ∷ three) (minus 0 ∷ []) (0 ∷ []) ≡ Err unknown_hint
unknown_where_dropped = refl

-- the literals of the second are among these; that is looked for before the hints
repeats_a_kept_clause : learned three (minus 1 ∷ plus 2 ∷ plus 5 ∷ []) (1 ∷ []) ≡ Err repeated_clause
repeats_a_kept_clause = refl

repeats_whatever_the_hints : learned three (plus 5 ∷ minus 1 ∷ plus 2 ∷ []) (0 ∷ []) ≡ Err repeated_clause
repeats_whatever_the_hints = refl

repeats_no_dropped_clause : learned (None ∷ []) (minus 1 ∷ []) [] ≡ Err not_by_hints
repeats_no_dropped_clause = refl

-- an atom in both signs: a literal of it counts as false in a hint
both_signs_count_as_false : learned (at_level 4 (plus 1 ∷ plus 2 ∷ []) ∷ at_level 3 (plus 1 ∷ minus 2 ∷ []) ∷ [])
    (plus 1 ∷ minus 1 ∷ []) (0 ∷ 1 ∷ []) ≡ Ok 4
both_signs_count_as_false = refl

-- a literal whose negation is a literal of the learned clause is true, so a hint that rests on it is idle
idle_at_a_taken_literal : learned (at_level 0 (plus 1 ∷ []) ∷ []) (minus 1 ∷ []) (0 ∷ []) ≡ Err idle_hint
idle_at_a_taken_literal = refl

-- a literal that stands twice in a hint is one literal
a_doubled_literal_is_one : learned (at_level 0 (plus 1 ∷ plus 1 ∷ []) ∷ at_level 1 (minus 1 ∷ plus 2 ∷ []) ∷ [])
    (plus 2 ∷ []) (0 ∷ 1 ∷ []) ≡ Ok 1
a_doubled_literal_is_one = refl

-- the empty clause
the_empty_clause : learned (at_level 1 (plus 0 ∷ []) ∷ at_level 0 (minus 0 ∷ []) ∷ []) [] (1 ∷ 0 ∷ []) ≡ Ok 1
the_empty_clause = refl

positive_comes_first : are_ascending (plus 1 ∷ minus 1 ∷ []) ≡ true
positive_comes_first = refl

none_twice : are_ascending (minus 1 ∷ minus 1 ∷ []) ≡ false
none_twice = refl

-- clauses of higher levels leave their places empty, and the others keep their numbers
leaves_level_two : kept_up_to 1 three ≡ at_level 0 (minus 0 ∷ plus 1 ∷ []) ∷ None ∷ at_level 1 (minus 0 ∷ minus 2 ∷ [])
    ∷ []
leaves_level_two = refl

keeps_its_own_level : kept_at (kept_up_to 2 three) 1 ≡ at_level 2 (minus 1 ∷ plus 2 ∷ [])
keeps_its_own_level = refl

-- Literals and clauses of propositional logic. A clause is a list of literals, and stands for their disjunction.
use Rattle.std.specs.Prelude.{Bool, true, false, not, ◌&&◌, ◌||◌, ◌==◌, if◌then◌else◌, List, [], ◌∷◌, Option, Some, None}
use Rattle.std.specs.declared.cmp.Ordering.{Ordering}
use Rattle.std.specs.Ordering.{nat_cmp, bool_cmp, is_lt, on, flip_args, then_cmp}
use Rattle.std.specs.List.{list_all, list_any}
use Rattle.sb_lit.specs.declared.clause.Lit.{Lit}

-- the literal of the same atom with the other sign
abbrev pub negation : Lit → Lit
negation l = record l { positive = not l.positive }

-- two literals have the same atom and the same sign
abbrev pub is_same_literal : Lit → Lit → Bool
is_same_literal l m = (l.atom == m.atom) && (if l.positive then m.positive else not m.positive)

-- literals are ordered by atom, the positive one first
abbrev pub literal_order : Lit → Lit → Ordering
literal_order = then_cmp (on (λ l. l.atom) nat_cmp) (flip_args (on (λ l. l.positive) bool_cmp))

-- the literals ascend, so none is repeated
abbrev pub are_ascending : List Lit → Bool
are_ascending [] = true
are_ascending (l ∷ []) = true
are_ascending (l ∷ m ∷ ls) = is_lt (literal_order l m) && are_ascending (m ∷ ls)

-- the literal is one of these
abbrev pub is_among : List Lit → Lit → Bool
is_among ls l = list_any (λ m. is_same_literal m l) ls

-- each literal of the first list is one of the second
abbrev pub are_among : List Lit → List Lit → Bool
are_among ls ms = list_all (is_among ms) ls

-- where the literals of a list are true: a literal is true that is one of them,
abbrev pub is_true_under : List Lit → Lit → Bool
is_true_under held l = is_among held l

-- a literal is false whose negation is one of them,
abbrev pub is_false_under : List Lit → Lit → Bool
is_false_under held l = is_among held (negation l)

-- a literal has no value that is neither true nor false,
abbrev pub is_open_under : List Lit → Lit → Bool
is_open_under held l = not (is_true_under held l) && not (is_false_under held l)

-- the value of a literal,
abbrev pub value_under : List Lit → Lit → Option Bool
value_under held l = if is_true_under held l then Some true else if is_false_under held l then Some false else None

-- a clause is false whose literals all are,
abbrev pub is_false_clause : List Lit → List Lit → Bool
is_false_clause held clause = list_all (is_false_under held) clause

-- and a clause leaves one literal, where that one is in it and has no value, and every other one is false
abbrev pub leaves_only : List Lit → List Lit → Lit → Bool
leaves_only held clause l =
    is_among clause l && is_open_under held l && list_all (λ m. is_same_literal m l || is_false_under held m) clause

-- Computed examples of lines: each kind with its text, and texts that are no lines.
use Rattle.std.specs.Prelude.{◌≡◌, ℕ, pos, negsuc, true, false, List, [], ◌∷◌, codes, None, Ok, Err, refl}
use Rattle.sb_meaning.specs.Values.{Text, Int, Truth}
use Rattle.sb_rulebook.specs.Refusals.{bad_word, bad_number, unended}
use Rattle.sb_rulebook.specs.Atoms.{bool_atom, in_atom, le_atom, sum_atom, and_atom, iff_atom}
use Rattle.sb_rulebook.specs.Lines.{Line, header_line, regex_line, atom_line, expansion_line, dead_line, assertion_line, rule_line, learned_line, verdict_line, end_line, none_node, eps_node, set_node, cat_node, alt_node, and_node, not_node, star_node, rep_node, path_node, gate, order, linear, step, empty, said_sat, said_unsat, said_unknown, said_unsupported, text_of}
use Rattle.sb_rulebook.specs.Reading.{line_of, texts_of, read}
use Rattle.sb_rulebook.specs.ProofExamples.{computing}
use Rattle.sb_rulebook.specs.TranslationExamples.{plus, minus}
use Rattle.sb_script.specs.Pieces.{constant_piece, word_piece}
use Rattle.sb_script.specs.Sums.{int_constant, length_of}

-- the bytes are the line's text, and are read as the line
abbrev IsText : List ℕ → Line → Type 0
IsText bytes line = (text_of line ≡ bytes) × (line_of bytes ≡ Ok line)

header : IsText (codes "strproof 1") (header_line 1)
unfolding computing
header = (refl, refl)

another_header : IsText (codes "strproof 7") (header_line 7)
unfolding computing
another_header = (refl, refl)

none_line : IsText (codes "r none") (regex_line none_node)
unfolding computing
none_line = (refl, refl)

eps_line : IsText (codes "r eps") (regex_line eps_node)
unfolding computing
eps_line = (refl, refl)

set_line : IsText (codes "r set 0-60,62-2ffff") (regex_line (set_node ((0, 0x60) ∷ (0x62, 0x2ffff) ∷ [])))
unfolding computing
set_line = (refl, refl)

cat_line : IsText (codes "r cat 0 12") (regex_line (cat_node 0 12))
unfolding computing
cat_line = (refl, refl)

alt_line : IsText (codes "r alt 0 1 2") (regex_line (alt_node (0 ∷ 1 ∷ 2 ∷ [])))
unfolding computing
alt_line = (refl, refl)

and_line : IsText (codes "r and 3 4") (regex_line (and_node (3 ∷ 4 ∷ [])))
unfolding computing
and_line = (refl, refl)

not_line : IsText (codes "r not 5") (regex_line (not_node 5))
unfolding computing
not_line = (refl, refl)

star_line : IsText (codes "r star 5") (regex_line (star_node 5))
unfolding computing
star_line = (refl, refl)

-- well formed, though it is not normal
rep_line : IsText (codes "r rep 0 3 2") (regex_line (rep_node 0 3 2))
unfolding computing
rep_line = (refl, refl)

path_line : IsText (codes "r path 5 0") (regex_line (path_node 5 0))
unfolding computing
path_line = (refl, refl)

bool_line : IsText (codes "a bool 3") (atom_line (bool_atom 3))
unfolding computing
bool_line = (refl, refl)

in_line : IsText (codes "a in v0 w61.2ffff v1 : 4")
    (atom_line (in_atom (constant_piece 0 ∷ word_piece (0x61 ∷ 0x2ffff ∷ []) ∷ constant_piece 1 ∷ []) 4))
unfolding computing
in_line = (refl, refl)

in_line_of_no_pieces : IsText (codes "a in : 4") (atom_line (in_atom [] 4))
unfolding computing
in_line_of_no_pieces = (refl, refl)

le_line : IsText (codes "a le l0 -5") (atom_line (le_atom (length_of 0) (negsuc 4)))
unfolding computing
le_line = (refl, refl)

sum_line : IsText (codes "a sum 7 -1 i2 2 l0")
    (atom_line (sum_atom (pos 7) ((negsuc 0, int_constant 2) ∷ (pos 2, length_of 0) ∷ [])))
unfolding computing
sum_line = (refl, refl)

and_atom_line : IsText (codes "a and") (atom_line (and_atom []))
unfolding computing
and_atom_line = (refl, refl)

iff_line : IsText (codes "a iff +0 -1") (atom_line (iff_atom (plus 0) (minus 1)))
unfolding computing
iff_line = (refl, refl)

x_line : IsText (codes "x 5 0-60,62-2ffff>6 61-61>7")
    (expansion_line 5 (((0, 0x60) ∷ (0x62, 0x2ffff) ∷ [], 6) ∷ ((0x61, 0x61) ∷ [], 7) ∷ []))
unfolding computing
x_line = (refl, refl)

d_line : IsText (codes "d 5 6") (dead_line (5 ∷ 6 ∷ []))
unfolding computing
d_line = (refl, refl)

assert_line : IsText (codes "c assert 0 +0") (assertion_line 0 (plus 0))
unfolding computing
assert_line = (refl, refl)

gate_line : IsText (codes "c gate +0 -0") (rule_line gate (plus 0 ∷ minus 0 ∷ []))
unfolding computing
gate_line = (refl, refl)

order_line : IsText (codes "c order -0 +1") (rule_line order (minus 0 ∷ plus 1 ∷ []))
unfolding computing
order_line = (refl, refl)

linear_line : IsText (codes "c linear -0") (rule_line linear (minus 0 ∷ []))
unfolding computing
linear_line = (refl, refl)

step_line : IsText (codes "c step +2") (rule_line step (plus 2 ∷ []))
unfolding computing
step_line = (refl, refl)

empty_line : IsText (codes "c empty -0 -1") (rule_line empty (minus 0 ∷ minus 1 ∷ []))
unfolding computing
empty_line = (refl, refl)

learn_line : IsText (codes "c learn -0 +1 : 2 3") (learned_line (minus 0 ∷ plus 1 ∷ []) (2 ∷ 3 ∷ []))
unfolding computing
learn_line = (refl, refl)

empty_learn_line : IsText (codes "c learn : 0") (learned_line [] (0 ∷ []))
unfolding computing
empty_learn_line = (refl, refl)

sat_line : IsText (codes "v sat w t f -5 w61.62")
    (verdict_line (said_sat (Text [] ∷ Truth true ∷ Truth false ∷ Int (negsuc 4) ∷ Text (codes "ab") ∷ [])))
unfolding computing
sat_line = (refl, refl)

unsat_line : IsText (codes "v unsat 3") (verdict_line (said_unsat 3 None))
unfolding computing
unsat_line = (refl, refl)

unknown_line : IsText (codes "v unknown 18446744073709551615") (verdict_line (said_unknown 18446744073709551615))
unfolding computing
unknown_line = (refl, refl)

unsupported_line : IsText (codes "v unsupported") (verdict_line said_unsupported)
unfolding computing
unsupported_line = (refl, refl)

last_line : IsText (codes "end") end_line
unfolding computing
last_line = (refl, refl)

-- Other words, or another number of fields.

an_empty_text : line_of [] ≡ Err bad_word
unfolding computing
an_empty_text = refl

a_space_in_front : line_of (codes " end") ≡ Err bad_word
unfolding computing
a_space_in_front = refl

a_space_behind : line_of (codes "end ") ≡ Err bad_word
unfolding computing
a_space_behind = refl

another_kind : line_of (codes "r opt 0") ≡ Err bad_word
unfolding computing
another_kind = refl

another_rule : line_of (codes "c resolve 0") ≡ Err bad_word
unfolding computing
another_rule = refl

another_verdict : line_of (codes "v maybe") ≡ Err bad_word
unfolding computing
another_verdict = refl

-- no format of these has places
places_behind_a_colon : line_of (codes "v unsat 3 : 0") ≡ Err bad_word
unfolding computing
places_behind_a_colon = refl

a_field_too_many : line_of (codes "r star 0 x") ≡ Err bad_word
unfolding computing
a_field_too_many = refl

no_colon : line_of (codes "c learn x") ≡ Err bad_word
unfolding computing
no_colon = refl

a_colon_too_early : line_of (codes "a in v0 : 1 2") ≡ Err bad_word
unfolding computing
a_colon_too_early = refl

no_summand : line_of (codes "a sum 5") ≡ Err bad_word
unfolding computing
no_summand = refl

half_a_summand : line_of (codes "a sum 5 1 i0 1") ≡ Err bad_word
unfolding computing
half_a_summand = refl

-- A field of another shape.

two_spaces : line_of (codes "d 5  6") ≡ Err bad_number
unfolding computing
two_spaces = refl

a_leading_zero : line_of (codes "d 05") ≡ Err bad_number
unfolding computing
a_leading_zero = refl

a_sign : line_of (codes "d +5") ≡ Err bad_number
unfolding computing
a_sign = refl

minus_zero : line_of (codes "a le i0 -0") ≡ Err bad_number
unfolding computing
minus_zero = refl

upper_case : line_of (codes "r set 0-2FFFF") ≡ Err bad_number
unfolding computing
upper_case = refl

a_second_colon : line_of (codes "c learn : : 0") ≡ Err bad_number
unfolding computing
a_second_colon = refl

another_colon : line_of (codes "a in : : 0") ≡ Err bad_number
unfolding computing
another_colon = refl

past_64_bits : line_of (codes "v unknown 18446744073709551616") ≡ Err bad_number
unfolding computing
past_64_bits = refl

-- Line feeds.

a_line_without_its_end : read (codes "end", false) ≡ Err unended
unfolding computing
a_line_without_its_end = refl

its_words_come_first : read (codes "en", false) ≡ Err bad_word
unfolding computing
its_words_come_first = refl

texts : texts_of (codes "a\n\nb") ≡ (codes "a", true) ∷ ([], true) ∷ (codes "b", false) ∷ []
texts = refl

no_text_behind_the_last : texts_of (codes "a\n") ≡ (codes "a", true) ∷ []
no_text_behind_the_last = refl

no_texts : texts_of [] ≡ []
no_texts = refl

-- Computed examples of literals, their words, and the first byte that no literal holds.
use Rattle.std.specs.Prelude.{◌≡◌, [], ◌∷◌, ◌++◌, codes, Some, None, refl}
use Rattle.sb_word.specs.Literals.{hex_value, hex_number_from}
use Rattle.sb_word.specs.LiteralWords.{character_of, word_of_literal, first_bad}

-- \u{61}\u0062 is ab
two_escapes : word_of_literal (codes "\\u{61}\\u0062") ≡ codes "ab"
unfolding hex_value hex_number_from
two_escapes = refl

four_digits : word_of_literal (codes "\\u0062") ≡ codes "b"
unfolding hex_value hex_number_from
four_digits = refl

in_braces : word_of_literal (codes "\\u{61}") ≡ codes "a"
unfolding hex_value hex_number_from
in_braces = refl

-- one digit is enough in braces, and digits have either case
one_digit : word_of_literal (codes "\\u{a}") ≡ 10 ∷ []
unfolding hex_value hex_number_from
one_digit = refl

either_case : word_of_literal (codes "\\u{aBcD}\\uAbCd") ≡ 0xabcd ∷ 0xabcd ∷ []
unfolding hex_value hex_number_from
either_case = refl

-- \u{30000} is no escape, so it is nine characters
past_the_last : word_of_literal (codes "\\u{30000}") ≡ codes "\\u{30000}"
unfolding hex_value hex_number_from
past_the_last = refl

the_last : word_of_literal (codes "\\u{2ffff}") ≡ 0x2ffff ∷ []
unfolding hex_value hex_number_from
the_last = refl

-- nor is \u{}, nor six digits in braces, nor three digits, nor another letter, nor a backslash alone
no_digits : word_of_literal (codes "\\u{}") ≡ codes "\\u{}"
unfolding hex_value hex_number_from
no_digits = refl

six_digits : word_of_literal (codes "\\u{000061}") ≡ codes "\\u{000061}"
unfolding hex_value hex_number_from
six_digits = refl

six_digits_past_the_last : word_of_literal (codes "\\u{300000}") ≡ codes "\\u{300000}"
unfolding hex_value hex_number_from
six_digits_past_the_last = refl

three_digits : word_of_literal (codes "\\u061") ≡ codes "\\u061"
unfolding hex_value hex_number_from
three_digits = refl

another_letter : word_of_literal (codes "\\n\\") ≡ codes "\\n\\"
unfolding hex_value hex_number_from
another_letter = refl

a_large_letter : word_of_literal (codes "\\U0061") ≡ codes "\\U0061"
unfolding hex_value hex_number_from
a_large_letter = refl

no_brace : word_of_literal (codes "\\u{12") ≡ codes "\\u{12"
unfolding hex_value hex_number_from
no_brace = refl

-- what is no escape may be followed by one
a_brace_later : word_of_literal (codes "\\u{12\\u{61}") ≡ codes "\\u{12a"
unfolding hex_value hex_number_from
a_brace_later = refl

-- a pair of quotes is one, and a fifth digit behind four belongs to no escape
a_pair_of_quotes : word_of_literal (codes "a\"\"b") ≡ codes "a\"b"
unfolding hex_value hex_number_from
a_pair_of_quotes = refl

four_and_more : word_of_literal (codes "\\u00611") ≡ codes "a1"
unfolding hex_value hex_number_from
four_and_more = refl

-- a backslash in front of an escape stands for itself
a_backslash_more : word_of_literal (codes "\\\\u0061") ≡ codes "\\a"
unfolding hex_value hex_number_from
a_backslash_more = refl

-- one to five digits of a character
a_character : character_of (codes "2FFFF") ≡ Some 0x2ffff
unfolding hex_value hex_number_from
a_character = refl

no_character : character_of (codes "30000") ≡ None
unfolding hex_value hex_number_from
no_character = refl

six_digits_of_a_character : character_of (codes "000061") ≡ None
unfolding hex_value hex_number_from
six_digits_of_a_character = refl

-- a byte below 0x20 or above 0x7e, and a quote alone
a_line_feed : first_bad (97 ∷ 10 ∷ 10 ∷ []) ≡ Some 1
a_line_feed = refl

past_printable : first_bad (codes "\\u{61" ++ 0x7f ∷ []) ≡ Some 5
past_printable = refl

three_quotes : first_bad (codes "\"\"\"") ≡ Some 2
three_quotes = refl

a_quote_and_a_letter : first_bad (codes "a\"b") ≡ Some 1
a_quote_and_a_letter = refl

none_bad : first_bad (codes "a\"\"\\u{}~ ") ≡ None
none_bad = refl

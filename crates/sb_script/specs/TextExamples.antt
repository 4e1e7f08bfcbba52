-- Computed examples of texts and numerals as terms.
use Rattle.std.specs.Prelude.{◌≡◌, [], ◌∷◌, ◌++◌, codes, Ok, Err, refl}
use Rattle.sb_word.specs.Literals.{hex_value, hex_number_from}
use Rattle.sb_meaning.specs.Terms.{word, numeral}
use Rattle.sb_script.specs.Faults.{bad_literal, numeral_too_large}
use Rattle.sb_script.specs.Texts.{read_text, read_numeral, number_of}

-- a text with escapes, and one with a byte that no literal has
with_escapes : read_text (codes "\\u{61}\"\"\\u0062") ≡ Ok (word (codes "a\"b"))
unfolding hex_value hex_number_from
with_escapes = refl

a_bad_byte : read_text (codes "\\u{61}" ++ 10 ∷ []) ≡ Err bad_literal
a_bad_byte = refl

-- numerals are at most 2^31 - 1
the_largest : read_numeral (codes "2147483647") ≡ Ok (numeral 2147483647)
the_largest = refl

too_large : read_numeral (codes "2147483648") ≡ Err numeral_too_large
too_large = refl

of_any_length : number_of (codes "10000000000000000000000000000000000000000")
    ≡ 10000000000000000000000000000000000000000
of_any_length = refl

-- Computed examples of numerals, and of integers as they are printed.
use Rattle.std.specs.Prelude.{◌≡◌, pos, negsuc, [], codes, Some, None, refl}
use Rattle.std.specs.Fmt.{digits}
use Rattle.sb_word.specs.Numerals.{numeral_value, int_text}

nothing : numeral_value [] ≡ None
nothing = refl

zero_alone : numeral_value (codes "0") ≡ Some 0
zero_alone = refl

seven : numeral_value (codes "7") ≡ Some 7
seven = refl

some_digits : numeral_value (codes "1203") ≡ Some 1203
some_digits = refl

-- 007, 00, a sign, a point
leading_zeros : numeral_value (codes "007") ≡ None
leading_zeros = refl

two_zeros : numeral_value (codes "00") ≡ None
two_zeros = refl

a_sign : numeral_value (codes "-5") ≡ None
a_sign = refl

a_point : numeral_value (codes "5.0") ≡ None
a_point = refl

a_letter_behind : numeral_value (codes "5a") ≡ None
a_letter_behind = refl

-- 2^64 - 1 and 2^64
the_largest : numeral_value (codes "18446744073709551615") ≡ Some 18446744073709551615
the_largest = refl

past_the_largest : numeral_value (codes "18446744073709551616") ≡ None
past_the_largest = refl

prints_zero : int_text (pos 0) ≡ codes "0"
unfolding digits
prints_zero = refl

prints_a_number : int_text (pos 120) ≡ codes "120"
unfolding digits
prints_a_number = refl

prints_a_negation : int_text (negsuc 4) ≡ codes "(- 5)"
unfolding digits
prints_a_negation = refl

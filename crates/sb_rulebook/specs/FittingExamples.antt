-- Computed examples of why a term that fits must be well sorted to have a literal: the fragment looks for constants in
-- the second argument of str.in_re, and not at its sort.
use Rattle.std.specs.Prelude.{◌≡◌, true, false, [], ◌∷◌, codes, None, refl}
use Rattle.sb_meaning.specs.Terms.{Term, text, constant, word, apply, terms_of}
use Rattle.sb_meaning.specs.Terms as symbol
use Rattle.sb_rulebook.specs.Parts.{regex_of}
use Rattle.sb_script.specs.Fragment.{fits}
use Rattle.sb_script.specs.WellSorted.{is_well_sorted}

abbrev a_word : Term
a_word = word (codes "a")

-- (str.in_re x "a") and (str.in_re x (str.to_re "a"))
abbrev in_a_word : Term
in_a_word = apply symbol.str_in_re (terms_of (constant 0 text ∷ a_word ∷ []))

abbrev in_a_regex : Term
in_a_regex =
    apply symbol.str_in_re (terms_of (constant 0 text ∷ apply symbol.str_to_re (terms_of (a_word ∷ [])) ∷ []))

a_word_fits : fits in_a_word ≡ true
a_word_fits = refl

a_word_is_no_regex : regex_of a_word ≡ None
a_word_is_no_regex = refl

in_a_word_is_ill_sorted : is_well_sorted in_a_word ≡ false
in_a_word_is_ill_sorted = refl

a_regex_fits : fits in_a_regex ≡ true
a_regex_fits = refl

in_a_regex_is_well_sorted : is_well_sorted in_a_regex ≡ true
in_a_regex_is_well_sorted = refl

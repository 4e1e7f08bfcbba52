-- Computed examples of what terms demand of a constant's word.
use Rattle.std.specs.Prelude.{◌≡◌, codes, Some, None, refl}
use Rattle.sb_meaning.specs.Terms.{Term, text, constant, word, apply, no_terms, with_term}
use Rattle.sb_meaning.specs.Terms as symbol
use Rattle.sb_script.specs.Brought.{membership_of}
use Rattle.sb_decide.specs.Demands.{negation_of, complement_of, demanded}

-- (str.to_re "a")
abbrev an_a : Term
an_a = apply symbol.str_to_re (with_term (word (codes "a")) no_terms)

-- (str.in_re x (str.to_re "a")), where x is the constant of serial 7
abbrev member : Term
member = membership_of 7 an_a

-- (= "a" x)
abbrev equal : Term
equal = apply symbol.core_equal (with_term (word (codes "a")) (with_term (constant 7 text) no_terms))

a_membership : demanded member ≡ Some (7, an_a)
a_membership = refl

a_denied_membership : demanded (negation_of member) ≡ Some (7, complement_of an_a)
a_denied_membership = refl

-- the membership in the complement demands the same
in_the_complement : demanded (membership_of 7 (complement_of an_a)) ≡ demanded (negation_of member)
in_the_complement = refl

an_equality : demanded equal ≡ Some (7, an_a)
an_equality = refl

a_denied_equality : demanded (negation_of equal) ≡ Some (7, complement_of an_a)
a_denied_equality = refl

-- what is denied twice is other Boolean structure, and so is a conjunction
denied_twice : demanded (negation_of (negation_of member)) ≡ None
denied_twice = refl

a_conjunction : demanded (apply symbol.core_and (with_term member (with_term equal no_terms))) ≡ None
a_conjunction = refl

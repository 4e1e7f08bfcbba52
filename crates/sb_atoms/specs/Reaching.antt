-- Private: the terms that a term of Boolean structure is made of by connectives.
use Rattle.std.specs.Prelude.{Bool, true, false, ◌&&◌, if◌then◌else◌, List, [], ◌∷◌}
use Rattle.sb_meaning.specs.Terms.{Sort, boolean, Term, apply, terms_in}
use Rattle.sb_meaning.specs.Terms as symbol
use Rattle.sb_script.specs.Fragment.{sort_of_first}
use Rattle.sb_fragment.specs.declared.shape.Shape.{Shape}
use Rattle.sb_fragment.specs.declared.shape.Shape.TheVariants as shape
use Rattle.sb_fragment.specs.Shapes.{parts_of}

abbrev pub is_connective : Shape → Bool
is_connective (shape.Connected c) = true
is_connective _ = false

abbrev pub is_boolean : Sort → Bool
is_boolean boolean = true
is_boolean _ = false

abbrev pub are_several : List Term → Bool
are_several (t ∷ u ∷ ts) = true
are_several _ = false

-- two terms or more, of which the first is of sort Bool
abbrev pub are_truths : List Term → Bool
are_truths ts = are_several ts && is_boolean (sort_of_first ts)

-- the term is a connective of its arguments
abbrev pub is_connection : Term → Bool
is_connection (apply symbol.core_not terms) = true
is_connection (apply symbol.core_and terms) = true
is_connection (apply symbol.core_or terms) = true
is_connection (apply symbol.core_implies terms) = true
is_connection (apply symbol.core_xor terms) = true
is_connection (apply symbol.core_ite terms) = true
is_connection (apply symbol.core_equal terms) = are_truths (terms_in terms)
is_connection (apply symbol.core_distinct terms) = are_truths (terms_in terms)
is_connection _ = false

-- what it is a connective of
abbrev pub connected_parts : Term → List Term
connected_parts t = if is_connection t then parts_of t else []

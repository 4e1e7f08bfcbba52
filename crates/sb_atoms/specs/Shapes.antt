-- Private: the literals of terms of Boolean structure, by their shapes.
use Rattle.std.specs.Prelude.{◌≡◌, ℕ, Bool, true, false, ◌&&◌, List, map, Option, Some, None, option_and_then}
use Rattle.std.specs.List.{list_all}
use Rattle.sb_lit.specs.declared.clause.Lit.{Lit}
use Rattle.sb_lang.specs.Regex.{Regex}
use Rattle.sb_meaning.specs.Terms.{Sort, Term}
use Rattle.sb_problem.specs.Normals.{IsRegexOf}
use Rattle.sb_script.specs.Pieces.{Piece, single_pieces}
use Rattle.sb_script.specs.Sizes.{is_regular}
use Rattle.sb_rulebook.specs.Atoms.{Atom, AtomOver, in_atom, are_pieces}
use Rattle.sb_rulebook.specs.Parts.{together, regex_of}
use Rattle.sb_rulebook.specs.Translation.{translation, conjunction, positive, word_equality}
use Rattle.sb_fragment.specs.declared.shape.Connective.{Connective}
use Rattle.sb_fragment.specs.Compared.{compared}
use Rattle.sb_atoms.specs.Connecting.{signed, connected}
use Rattle.sb_atoms.specs.Translated.{has_declared}

-- the literals of all of these
abbrev pub literals_of : List Atom → List Term → Option (List Lit)
literals_of atoms ts = together (map (translation atoms) ts)

-- the literals of equalities of String terms, or of their negations
abbrev pub word_literals : List Atom → Bool → List (Term × Term) → Option (List Lit)
word_literals atoms distinct ps = together (map (λ p. signed distinct (word_equality atoms p.0 p.1)) ps)

-- the literal of a comparison of String terms
abbrev pub words_literal : List Atom → Bool → List Term → Option Lit
words_literal atoms distinct ts =
    option_and_then (conjunction atoms) (word_literals atoms distinct (compared distinct ts))

-- the literal of a connective of terms
abbrev pub connected_literal : List Atom → Connective → List Term → Option Lit
connected_literal atoms c ts = option_and_then (connected c atoms) (literals_of atoms ts)

abbrev pub have_declared_pairs : List Sort → List (Term × Term) → Bool
have_declared_pairs sorts ps = list_all (λ p. has_declared sorts p.0 && has_declared sorts p.1) ps

-- the literal of the membership of the pieces in the regular expression
abbrev pub member_literal : List Atom → List Piece → Term → Option Lit
member_literal atoms ps R = option_and_then (λ r. positive atoms (in_atom ps r)) (regex_of R)

-- the atom that the word of the pieces is in the regular expression, and none of one past the limits on sizes
abbrev pub IsAtomOf : List Regex → List Piece → Term → Option (AtomOver ℕ) → Type 0
IsAtomOf rs ps R None = is_regular R ≡ false
IsAtomOf rs ps R (Some atom) = (r : ℕ) × (atom ≡ in_atom ps r) × (is_regular R ≡ true) × IsRegexOf rs R r

-- the pieces of a String term in which each constant stands once at most, which are well formed; of another term none
abbrev pub ArePiecesOf : Term → Option (List Piece) → Type 0
ArePiecesOf t None = single_pieces t ≡ None
ArePiecesOf t (Some ps) = (single_pieces t ≡ Some ps) × (are_pieces ps ≡ true)

-- The literal of a Bool term, over a table of atoms: it is true exactly where the term is. There is none where an
-- atom that it needs is not in the table, or where the term is of a form that has no translation.
use Rattle.std.specs.Prelude.{ℕ, ℤ, pos, ◌-ℤ◌, neg_ℤ, true, int_le, if◌then◌else◌, List, [], ◌∷◌, map, Option, Some, None, option_map, option_and_then}
use Rattle.std.specs.Ordering.{is_gt}
use Rattle.std.specs.List.{flat_map}
use Rattle.std.specs.BTreeSet.{insert_key}
use Rattle.sb_lit.specs.declared.clause.Lit.{Lit}
use Rattle.sb_lit.specs.Clauses.{negation, literal_order}
use Rattle.sb_lang.specs.Regex.{Regex}
use Rattle.sb_lang.specs.Normal.{word_regex}
use Rattle.sb_lang.specs.Affixes.{beginning_with, ending_with, containing, prefixes, suffixes, factors}
use Rattle.sb_meaning.specs.Terms.{Symbol, boolean, integer, text, reglan, Term, Terms, constant, apply, no_terms, with_term}
use Rattle.sb_meaning.specs.Terms as symbol
use Rattle.sb_meaning.specs.Sorts.{sort_of}
use Rattle.sb_meaning.specs.Truth.{neighbours, each_with_rest}
use Rattle.sb_rulebook.specs.Atoms.{Atom, bool_atom, in_atom, le_atom, sum_atom, and_atom, iff_atom, number_of, is_one}
use Rattle.sb_rulebook.specs.Parts.{together, regex_of}
use Rattle.sb_script.specs.Sums.{Summand, Sum, subtracted, if_small, sum_of}
use Rattle.sb_script.specs.Pieces.{single_pieces, ground_word, whole_word}

-- the literal of an atom
abbrev pub positive : List Atom → Atom → Option Lit
positive atoms atom = option_map (λ n. record { atom = n; positive = true }) (number_of atoms atom)

abbrev pub negated : Option Lit → Option Lit
negated = option_map negation

-- the literals in order, each once
abbrev pub with_literal : Lit → List Lit → List Lit
with_literal l ls = insert_key literal_order ls l

abbrev pub in_order : List Lit → List Lit
in_order [] = []
in_order (l ∷ ls) = with_literal l (in_order ls)

-- all are true: of one literal it is that literal
abbrev pub conjunction_of : List Atom → List Lit → Option Lit
conjunction_of atoms (l ∷ []) = Some l
conjunction_of atoms ls = positive atoms (and_atom ls)

abbrev pub conjunction : List Atom → List Lit → Option Lit
conjunction atoms ls = conjunction_of atoms (in_order ls)

-- some is true
abbrev pub disjunction : List Atom → List Lit → Option Lit
disjunction atoms ls = negated (conjunction atoms (map negation ls))

-- where the first is true the second is
abbrev pub implication : List Atom → Lit → Lit → Option Lit
implication atoms l m = negated (conjunction atoms (l ∷ negation m ∷ []))

-- both are true, or both false
abbrev pub equivalence : List Atom → Lit → Lit → Option Lit
equivalence atoms l m = positive atoms (if is_gt (literal_order l m) then iff_atom m l else iff_atom l m)

-- implication leans to the right, exclusive or to the left
abbrev pub implications : List Atom → List Lit → Option Lit
implications atoms [] = None
implications atoms (l ∷ []) = Some l
implications atoms (l ∷ m ∷ ms) = option_and_then (implication atoms l) (implications atoms (m ∷ ms))

abbrev pub exclusive_from : List Atom → Lit → List Lit → Option Lit
exclusive_from atoms l [] = Some l
exclusive_from atoms l (m ∷ ms) = option_and_then (λ k. exclusive_from atoms k ms) (negated (equivalence atoms l m))

abbrev pub exclusive : List Atom → List Lit → Option Lit
exclusive atoms [] = None
exclusive atoms (l ∷ ls) = exclusive_from atoms l ls

-- the second where the first is true, else the third
abbrev pub choice : List Atom → List Lit → Option Lit
choice atoms (c ∷ l ∷ m ∷ []) =
    option_and_then (conjunction atoms) (together (implication atoms c l ∷ implication atoms (negation c) m ∷ []))
choice atoms _ = None

-- at most: the sum of the summands is at most k
abbrev pub bound : List Atom → List Summand → ℤ → Option Lit
bound atoms [] k = let nothing = conjunction atoms [] in if int_le (pos 0) k then nothing else negated nothing
bound atoms ((c, x) ∷ []) k =
    if is_one c then positive atoms (le_atom x k)
    else if is_one (neg_ℤ c) then negated (positive atoms (le_atom x (neg_ℤ k -ℤ pos 1)))
    else positive atoms (sum_atom k ((c, x) ∷ []))
bound atoms (s ∷ t ∷ ss) k = positive atoms (sum_atom k (s ∷ t ∷ ss))

-- the first sum less the second is at most k
abbrev pub difference_bound : List Atom → ℤ → Sum → Sum → Option Lit
difference_bound atoms k s t =
    option_and_then (λ d. bound atoms d.summands (k -ℤ d.constant)) (if_small (subtracted s t))

abbrev pub compared : List Atom → ℤ → Term → Term → Option Lit
compared atoms k a b = option_and_then (λ s. option_and_then (difference_bound atoms k s) (sum_of b)) (sum_of a)

-- the concatenation of the pieces is in the regex
abbrev pub membership : List Atom → Term → Option Regex → Option Lit
membership atoms t regex =
    option_and_then (λ r. option_and_then (λ ps. positive atoms (in_atom ps r)) (single_pieces t)) regex

-- Equality of two terms, by their sort, of Bool terms by their literals. Of two String terms one is a word; where
-- both are, it is the second.
abbrev pub word_equality : List Atom → Term → Term → Option Lit
word_equality atoms a b = elim (ground_word b) [
  | Some w ↦ membership atoms a (Some (word_regex w))
  | None ↦ membership atoms b (option_map word_regex (ground_word a))
]

-- That one term is a part of the other: where it is a word, the whole is in the regex of what holds it so, else it is in
-- the regex of such parts of the whole.
abbrev pub affix : List Atom → (List ℕ → Regex) → (List ℕ → Regex) → Term → Term → Option Lit
affix atoms holders parts part whole = elim (ground_word part) [
  | Some w ↦ membership atoms whole (Some (holders w))
  | None ↦ membership atoms part (option_map parts (whole_word whole))
]

abbrev pub number_equality : List Atom → Term → Term → Option Lit
number_equality atoms a b =
    option_and_then (conjunction atoms) (together (compared atoms (pos 0) a b ∷ compared atoms (pos 0) b a ∷ []))

abbrev pub truth_equality : List Atom → Option Lit → Option Lit → Option Lit
truth_equality atoms a b = option_and_then (λ l. option_and_then (equivalence atoms l) b) a

-- an argument: a term, with its literal where it has one
abbrev pub Argument : Type 0
Argument = Term × Option Lit

abbrev pub equality : List Atom → Argument → Argument → Option Lit
equality atoms a b = elim (sort_of a.0) [
  | boolean ↦ truth_equality atoms a.1 b.1
  | integer ↦ number_equality atoms a.0 b.0
  | text ↦ word_equality atoms a.0 b.0
  | reglan ↦ None
]

-- what a relation makes of each two neighbours, and of each two
abbrev pub of_neighbours : {A : Type 0} → (A → A → Option Lit) → List A → List (Option Lit)
of_neighbours relation xs = map (λ p. relation p.0 p.1) (neighbours xs)

abbrev pub of_pairs : {A : Type 0} → (A → A → Option Lit) → List A → List (Option Lit)
of_pairs relation xs = flat_map (λ e. map (relation e.0) e.1) (each_with_rest xs)

-- all of them are true
abbrev pub all_true : List Atom → List (Option Lit) → Option Lit
all_true atoms ls = option_and_then (conjunction atoms) (together ls)

abbrev pub only_one : List Lit → Option Lit
only_one (l ∷ []) = Some l
only_one _ = None

abbrev pub member_of : List Atom → List Argument → Option Lit
member_of atoms (t ∷ R ∷ []) = membership atoms t.0 (regex_of R.0)
member_of atoms _ = None

-- of two terms
abbrev pub of_terms : (Term → Term → Option Lit) → List Argument → Option Lit
of_terms make (s ∷ t ∷ []) = make s.0 t.0
of_terms make _ = None

abbrev pub of_literals : (List Lit → Option Lit) → List Argument → Option Lit
of_literals make arguments = option_and_then make (together (map (λ a. a.1) arguments))

-- the literal of a symbol that is applied to arguments
abbrev pub applied : List Atom → Symbol → List Argument → Option Lit
applied atoms symbol.core_true arguments = conjunction atoms []
applied atoms symbol.core_false arguments = negated (conjunction atoms [])
applied atoms symbol.core_not arguments = negated (of_literals only_one arguments)
applied atoms symbol.core_and arguments = of_literals (conjunction atoms) arguments
applied atoms symbol.core_or arguments = of_literals (disjunction atoms) arguments
applied atoms symbol.core_implies arguments = of_literals (implications atoms) arguments
applied atoms symbol.core_xor arguments = of_literals (exclusive atoms) arguments
applied atoms symbol.core_ite arguments = of_literals (choice atoms) arguments
applied atoms symbol.core_equal arguments = all_true atoms (of_neighbours (equality atoms) arguments)
applied atoms symbol.core_distinct arguments = all_true atoms (of_pairs (λ a b. negated (equality atoms a b)) arguments)
applied atoms symbol.at_most arguments =
    all_true atoms (of_neighbours (λ a b. compared atoms (pos 0) a.0 b.0) arguments)
applied atoms symbol.less arguments =
    all_true atoms (of_neighbours (λ a b. compared atoms (neg_ℤ (pos 1)) a.0 b.0) arguments)
applied atoms symbol.at_least arguments =
    all_true atoms (of_neighbours (λ a b. compared atoms (pos 0) b.0 a.0) arguments)
applied atoms symbol.greater arguments =
    all_true atoms (of_neighbours (λ a b. compared atoms (neg_ℤ (pos 1)) b.0 a.0) arguments)
applied atoms symbol.str_in_re arguments = member_of atoms arguments
applied atoms symbol.str_prefixof arguments = of_terms (affix atoms beginning_with prefixes) arguments
applied atoms symbol.str_suffixof arguments = of_terms (affix atoms ending_with suffixes) arguments
applied atoms symbol.str_contains arguments = of_terms (λ whole part. affix atoms containing factors part whole) arguments
applied atoms _ arguments = None

abbrev mutual
  -- the literal of a Bool term
  pub translation : List Atom → Term → Option Lit
  translation atoms (constant serial boolean) = positive atoms (bool_atom serial)
  translation atoms (apply s terms) = applied atoms s (arguments_of atoms terms)
  translation atoms _ = None

  pub arguments_of : List Atom → Terms → List Argument
  arguments_of atoms no_terms = []
  arguments_of atoms (with_term term terms) = (term, translation atoms term) ∷ arguments_of atoms terms

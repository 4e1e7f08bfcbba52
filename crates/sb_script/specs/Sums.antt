-- Linear sums of Int terms (SMT-LIB 2.6, theory Ints), collected: each variable once, by ascending serial, with a
-- factor that is not 0.
use Rattle.std.specs.Prelude.{ℕ, ℤ, pos, ◌+ℤ◌, ◌*ℤ◌, neg_ℤ, Bool, true, false, ◌&&◌, ◌==◌, nat_le, int_le, if◌then◌else◌, List, [], ◌∷◌, length, Option, Some, None, option_map, option_and_then}
use Rattle.std.specs.List.{list_all}
use Rattle.std.specs.Ordering.{nat_cmp, int_eq}
use Rattle.std.specs.declared.cmp.Ordering.TheVariants.{Less, Equal, Greater}
use Rattle.sb_meaning.specs.Terms.{integer, Term, Terms, constant, numeral, apply, no_terms, with_term}
use Rattle.sb_meaning.specs.Terms as symbol
use Rattle.sb_script.specs.Pieces.{Piece, constant_piece, word_piece, pieces_of, is_ground, are_ground}

-- what a bound speaks of
pub data Variable : Type 0 where
  -- an Int constant, by its serial
  int_constant : ℕ → Variable
  -- the length of a String constant, by its serial
  length_of : ℕ → Variable

-- a number times a variable
abbrev pub Summand : Type 0
Summand = ℤ × Variable

abbrev pub serial_of : Variable → ℕ
serial_of (int_constant serial) = serial
serial_of (length_of serial) = serial

abbrev pub size_limit : ℤ
size_limit = pos 0x7fffffff

-- the number is at most so far from 0
abbrev pub is_within : ℤ → ℤ → Bool
is_within limit n = int_le n limit && int_le (neg_ℤ limit) n

abbrev pub is_same_variable : Variable → Variable → Bool
is_same_variable (int_constant s) (int_constant t) = s == t
is_same_variable (length_of s) (length_of t) = s == t
is_same_variable _ _ = false

pub record Sum : Type 0 where
  pub summands : List Summand
  pub constant : ℤ

-- the summand in front, unless its factor is 0
abbrev pub onto_sum : Summand → List Summand → List Summand
onto_sum s ss = if int_eq s.0 (pos 0) then ss else s ∷ ss

-- with one more summand in its place
abbrev pub with_summand : Summand → List Summand → List Summand
with_summand s [] = onto_sum s []
with_summand s (t ∷ ts) = elim (nat_cmp (serial_of s.1) (serial_of t.1)) [
  | Less ↦ onto_sum s (t ∷ ts)
  | Equal ↦ onto_sum (s.0 +ℤ t.0, t.1) ts
  | Greater ↦ t ∷ with_summand s ts
]

abbrev pub with_summands : List Summand → List Summand → List Summand
with_summands [] ts = ts
with_summands (s ∷ ss) ts = with_summand s (with_summands ss ts)

abbrev pub number_sum : ℤ → Sum
number_sum n = record { summands = []; constant = n }

abbrev pub variable_sum : Variable → Sum
variable_sum x = record { summands = (pos 1, x) ∷ []; constant = pos 0 }

abbrev pub added : Sum → Sum → Sum
added s t = record { summands = with_summands s.summands t.summands; constant = s.constant +ℤ t.constant }

abbrev pub times_each : ℤ → List Summand → List Summand
times_each k [] = []
times_each k (s ∷ ss) = onto_sum (k *ℤ s.0, s.1) (times_each k ss)

abbrev pub scaled : ℤ → Sum → Sum
scaled k s = record { summands = times_each k s.summands; constant = k *ℤ s.constant }

abbrev pub subtracted : Sum → Sum → Sum
subtracted s t = added s (scaled (neg_ℤ (pos 1)) t)

abbrev pub total : List Sum → Sum
total [] = number_sum (pos 0)
total (s ∷ ss) = added s (total ss)

-- of one sum its negation; else the first less all others
abbrev pub difference : List Sum → Sum
difference [] = number_sum (pos 0)
difference (s ∷ []) = scaled (neg_ℤ (pos 1)) s
difference (s ∷ t ∷ ss) = subtracted s (total (t ∷ ss))

-- the product of two sums, of which one is a number
abbrev pub multiplied : Sum → Sum → Sum
multiplied s t = elim t.summands [ [] ↦ scaled t.constant s | _ ∷ _ ↦ scaled s.constant t ]

abbrev pub product : List Sum → Sum
product [] = number_sum (pos 1)
product (s ∷ ss) = multiplied s (product ss)

-- the length of a concatenation of pieces
abbrev pub length_of_piece : Piece → Sum
length_of_piece (constant_piece serial) = variable_sum (length_of serial)
length_of_piece (word_piece w) = number_sum (pos (length w))

abbrev pub length_sum : List Piece → Sum
length_sum [] = number_sum (pos 0)
length_sum (p ∷ ps) = added (length_of_piece p) (length_sum ps)

-- The number and the factors are within their limit, and there are at most 1,000 variables.
abbrev pub is_small : Sum → Bool
is_small s = is_within size_limit s.constant
    && (list_all (λ t. is_within size_limit t.0) s.summands && nat_le (length s.summands) 1000)

-- the sum, where it is within the limits
abbrev pub if_small : Sum → Option Sum
if_small s = if is_small s then Some s else None

-- Int terms.

-- at most one of the terms is not ground
abbrev pub is_linear_product : Terms → Bool
is_linear_product no_terms = true
is_linear_product (with_term term terms) = if is_ground term then is_linear_product terms else are_ground terms

abbrev pub length_of_term : Term → Option Sum
length_of_term t = option_map length_sum (pieces_of t)

abbrev mutual
  -- the sum of an Int term; its parts are within the limits too
  pub sum_of : Term → Option Sum
  sum_of (constant serial integer) = Some (variable_sum (int_constant serial))
  sum_of (numeral n) = if_small (number_sum (pos n))
  sum_of (apply symbol.str_len (with_term t no_terms)) = option_and_then if_small (length_of_term t)
  sum_of (apply symbol.plus terms) = option_and_then (λ ss. if_small (total ss)) (sums_of terms)
  sum_of (apply symbol.minus terms) = option_and_then (λ ss. if_small (difference ss)) (sums_of terms)
  sum_of (apply symbol.times terms) =
      if is_linear_product terms then option_and_then (λ ss. if_small (product ss)) (sums_of terms) else None
  sum_of _ = None

  pub sums_of : Terms → Option (List Sum)
  sums_of no_terms = Some []
  sums_of (with_term term terms) = option_and_then (λ s. option_map (λ ss. s ∷ ss) (sums_of terms)) (sum_of term)

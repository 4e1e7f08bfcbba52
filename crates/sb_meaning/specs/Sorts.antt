-- The symbols of the theories, by one table, and the sorts of terms: what a symbol takes, and what it makes (SMT-LIB
-- 2.6, the theories Core, Ints and Unicode Strings).
use Rattle.std.specs.Prelude.{ℕ, Bool, true, false, not, ◌&&◌, ◌==◌, nat_le, List, [], ◌∷◌, length, codes}
use Rattle.std.specs.List.{list_all}
use Rattle.sb_meaning.specs.Terms.{Sort, Term, Symbol, boolean, integer, text, reglan, constant, word, numeral, apply, parameter}
use Rattle.sb_meaning.specs.Terms as symbol

-- how many arguments a symbol takes, and of which sorts
pub data Arity : Type 0 where
  -- one of each of these sorts, in order
  of_each : List Sort → Arity
  -- so many of this sort, or more
  or_more : ℕ → Sort → Arity
  -- two or more, all of one sort
  of_one_sort : Arity
  -- a truth value, and two of one sort
  choice : Arity

-- What the theories say of a symbol: its name, how many numerals it takes as indices, what it takes, and the sort of
-- what it makes. Of one argument some symbols make the argument itself, where the theory asks for two or more.
pub record Signature : Type 0 where
  pub name : List ℕ
  pub indices : ℕ
  pub arity : Arity
  pub of_one : Bool
  pub result : Sort

abbrev pub plain : List ℕ → Arity → Sort → Signature
plain name arity result = record { name = name; indices = 0; arity = arity; of_one = false; result = result }

-- one or more of a sort are joined to one of it
abbrev pub joining : List ℕ → Sort → Signature
joining name sort = record { name = name; indices = 0; arity = or_more 1 sort; of_one = true; result = sort }

abbrev pub indexed : List ℕ → ℕ → Arity → Sort → Signature
indexed name n arity result = record { name = name; indices = n; arity = arity; of_one = false; result = result }

-- the symbols of the theories, one row each
abbrev pub signature_of : Symbol → Signature
signature_of symbol.core_true = plain (codes "true") (of_each []) boolean
signature_of symbol.core_false = plain (codes "false") (of_each []) boolean
signature_of symbol.core_not = plain (codes "not") (of_each (boolean ∷ [])) boolean
signature_of symbol.core_and = joining (codes "and") boolean
signature_of symbol.core_or = joining (codes "or") boolean
signature_of symbol.core_implies = plain (codes "=>") (or_more 2 boolean) boolean
signature_of symbol.core_xor = plain (codes "xor") (or_more 2 boolean) boolean
signature_of symbol.core_ite = plain (codes "ite") choice boolean
signature_of symbol.core_equal = plain (codes "=") of_one_sort boolean
signature_of symbol.core_distinct = plain (codes "distinct") of_one_sort boolean
signature_of symbol.at_most = plain (codes "<=") (or_more 2 integer) boolean
signature_of symbol.less = plain (codes "<") (or_more 2 integer) boolean
signature_of symbol.at_least = plain (codes ">=") (or_more 2 integer) boolean
signature_of symbol.greater = plain (codes ">") (or_more 2 integer) boolean
signature_of symbol.plus = joining (codes "+") integer
signature_of symbol.times = joining (codes "*") integer
signature_of symbol.minus = plain (codes "-") (or_more 1 integer) integer
signature_of symbol.str_concat = joining (codes "str.++") text
signature_of symbol.str_len = plain (codes "str.len") (of_each (text ∷ [])) integer
signature_of symbol.str_in_re = plain (codes "str.in_re") (of_each (text ∷ reglan ∷ [])) boolean
signature_of symbol.str_prefixof = plain (codes "str.prefixof") (of_each (text ∷ text ∷ [])) boolean
signature_of symbol.str_suffixof = plain (codes "str.suffixof") (of_each (text ∷ text ∷ [])) boolean
signature_of symbol.str_contains = plain (codes "str.contains") (of_each (text ∷ text ∷ [])) boolean
signature_of symbol.str_to_re = plain (codes "str.to_re") (of_each (text ∷ [])) reglan
signature_of symbol.re_none = plain (codes "re.none") (of_each []) reglan
signature_of symbol.re_all = plain (codes "re.all") (of_each []) reglan
signature_of symbol.re_allchar = plain (codes "re.allchar") (of_each []) reglan
signature_of symbol.re_concat = joining (codes "re.++") reglan
signature_of symbol.re_union = joining (codes "re.union") reglan
signature_of symbol.re_inter = joining (codes "re.inter") reglan
signature_of symbol.re_diff = plain (codes "re.diff") (or_more 2 reglan) reglan
signature_of symbol.re_star = plain (codes "re.*") (of_each (reglan ∷ [])) reglan
signature_of symbol.re_plus = plain (codes "re.+") (of_each (reglan ∷ [])) reglan
signature_of symbol.re_opt = plain (codes "re.opt") (of_each (reglan ∷ [])) reglan
signature_of symbol.re_comp = plain (codes "re.comp") (of_each (reglan ∷ [])) reglan
signature_of symbol.re_range = plain (codes "re.range") (of_each (text ∷ text ∷ [])) reglan
signature_of (symbol.re_power n) = indexed (codes "re.^") 1 (of_each (reglan ∷ [])) reglan
signature_of (symbol.re_loop n m) = indexed (codes "re.loop") 2 (of_each (reglan ∷ [])) reglan

-- all symbols; indices of a numeral tell apart what is meant
abbrev pub symbols : List Symbol
symbols =
    symbol.core_true ∷ symbol.core_false ∷ symbol.core_not ∷ symbol.core_and ∷ symbol.core_or ∷ symbol.core_implies
    ∷ symbol.core_xor ∷ symbol.core_ite ∷ symbol.core_equal ∷ symbol.core_distinct
    ∷ symbol.at_most ∷ symbol.less ∷ symbol.at_least ∷ symbol.greater ∷ symbol.plus ∷ symbol.times ∷ symbol.minus
    ∷ symbol.str_concat ∷ symbol.str_len ∷ symbol.str_in_re ∷ symbol.str_prefixof ∷ symbol.str_suffixof
    ∷ symbol.str_contains ∷ symbol.str_to_re ∷ symbol.re_none ∷ symbol.re_all ∷ symbol.re_allchar
    ∷ symbol.re_concat ∷ symbol.re_union ∷ symbol.re_inter ∷ symbol.re_diff ∷ symbol.re_star ∷ symbol.re_plus
    ∷ symbol.re_opt ∷ symbol.re_comp ∷ symbol.re_range ∷ symbol.re_power 0 ∷ symbol.re_loop 0 0 ∷ []

-- the arguments of a symbol
abbrev pub arity_of : Symbol → Arity
arity_of s = (signature_of s).arity

abbrev pub is_of_one : Symbol → Bool
is_of_one s = (signature_of s).of_one

-- the sort of what a symbol makes
abbrev pub result_of : Symbol → Sort
result_of s = (signature_of s).result

-- the sort of a term
abbrev pub sort_of : Term → Sort
sort_of (constant serial sort) = sort
sort_of (word w) = text
sort_of (numeral n) = integer
sort_of (apply s terms) = result_of s
sort_of (parameter place sort) = sort

abbrev pub is_same_sort : Sort → Sort → Bool
is_same_sort boolean boolean = true
is_same_sort integer integer = true
is_same_sort text text = true
is_same_sort reglan reglan = true
is_same_sort _ _ = false

-- the sorts are these, in order
abbrev pub are_sorts : List Sort → List Sort → Bool
are_sorts [] [] = true
are_sorts (k ∷ ks) (s ∷ ss) = is_same_sort k s && are_sorts ks ss
are_sorts _ _ = false

-- so many arguments are taken
abbrev pub is_count : Arity → ℕ → Bool
is_count (of_each sorts) n = length sorts == n
is_count (or_more least sort) n = nat_le least n
is_count of_one_sort n = nat_le 2 n
is_count choice n = n == 3

-- the sorts are all one
abbrev pub are_one_sort : List Sort → Bool
are_one_sort [] = true
are_one_sort (s ∷ ss) = list_all (is_same_sort s) ss

abbrev pub is_choice : List Sort → Bool
is_choice (c ∷ a ∷ b ∷ []) = is_same_sort boolean c && is_same_sort a b
is_choice _ = false

-- arguments of these sorts are taken
abbrev pub takes_sorts : Arity → List Sort → Bool
takes_sorts (of_each sorts) ss = are_sorts sorts ss
takes_sorts (or_more least sort) ss = list_all (is_same_sort sort) ss
takes_sorts of_one_sort ss = are_one_sort ss
takes_sorts choice ss = is_choice ss

-- Uses that are left out: regular expressions compared, and a choice of other than truth values.
abbrev pub is_left_out_use : Arity → List Sort → Bool
is_left_out_use of_one_sort (s ∷ ss) = is_same_sort reglan s
is_left_out_use choice (c ∷ s ∷ ss) = not (is_same_sort boolean s)
is_left_out_use _ _ = false

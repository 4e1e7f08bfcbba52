-- Heads: what a name, or a name with indices, is in front of arguments, and the term that it makes of them (SMT-LIB
-- 2.6, section 3.6). The number of the arguments is judged before their sorts.
use Rattle.std.specs.Prelude.{ℕ, Bool, not, ◌&&◌, ◌==◌, nat_eq, nat_le, if◌then◌else◌, List, [], ◌∷◌, map, length, codes, slice_get, Option, Some, None, option_map, unwrap_or, is_none, Result, Ok, Err}
use Rattle.std.specs.List.{list_all}
use Rattle.sb_reader.specs.Forms.{Forms, Numeral, OtherNumber, none, more}
use Rattle.sb_meaning.specs.Terms.{Sort, Term, Terms, constant, word, numeral, apply, parameter, no_terms, with_term, terms_of}
use Rattle.sb_meaning.specs.Terms as symbol
use Rattle.sb_meaning.specs.Sorts.{signature_of, arity_of, is_of_one, sort_of, are_sorts, is_count, takes_sorts, is_left_out_use}
use Rattle.sb_script.specs.Names.{Name, is_name}
use Rattle.sb_script.specs.Symbols.{symbol_named, is_indexed, is_left_out}
use Rattle.sb_script.specs.Scopes.{Naming, Named, a_constant, a_definition, a_marked_name, a_term, named}
use Rattle.sb_script.specs.Faults.{Fault, unknown_symbol, wrong_sort, wrong_count, bad_index, unsupported, numeral_too_large}
use Rattle.sb_script.specs.Texts.{number_of}
use Rattle.sb_word.specs.LiteralWords.{character_of}

-- What takes arguments, some of them none.
pub data Head : Type 0 where
  head_constant : ℕ → Sort → Head
  head_symbol : symbol.Symbol → Head
  -- a definition: the sorts of its parameters, and its body
  head_definition : List Sort → Term → Head
  -- a term that is whole
  head_term : Term → Head

-- what a name stands for as a head
abbrev pub head_of : Named → Result Head Fault
head_of (a_constant serial sort) = Ok (head_constant serial sort)
head_of (a_definition sorts body) = Ok (head_definition sorts body)
head_of a_marked_name = Err unsupported
head_of (a_term t) = Ok (head_term t)

-- what a name that stands for nothing is as a head
abbrev pub head_of_theory : Name → Result Head Fault
head_of_theory name = elim (symbol_named name) [
  | Some s ↦ Ok (head_symbol s)
  | None ↦ if is_indexed name then Err bad_index
      else if is_left_out name then Err unsupported
      else Err (unknown_symbol name)
]

-- what a name is as a head
abbrev pub read_head : List Naming → Name → Result Head Fault
read_head names name = elim (named names name) [ Some n ↦ head_of n | None ↦ head_of_theory name ]

-- Indices.

-- numerals alone
abbrev pub indices_of : Forms → Option (List ℕ)
indices_of none = Some []
indices_of (more (Numeral digits) forms) = option_map (λ ns. number_of digits ∷ ns) (indices_of forms)
indices_of _ = None

abbrev pub are_small_indices : List ℕ → Bool
are_small_indices ns = list_all (λ n. nat_le n 65535) ns

abbrev pub if_named : Name → symbol.Symbol → Option symbol.Symbol
if_named name s = if is_name name (signature_of s).name then Some s else None

-- the symbol with these indices, by their number
abbrev pub symbol_with : Name → List ℕ → Option symbol.Symbol
symbol_with name (n ∷ []) = if_named name (symbol.re_power n)
symbol_with name (n ∷ m ∷ []) = if_named name (symbol.re_loop n m)
symbol_with name ns = None

abbrev pub if_small_indices : List ℕ → symbol.Symbol → Result Head Fault
if_small_indices ns s = if are_small_indices ns then Ok (head_symbol s) else Err numeral_too_large

-- a symbol that takes indices: first their number and kind are judged, then their size
abbrev pub with_indices : Name → Option (List ℕ) → Result Head Fault
with_indices name None = Err bad_index
with_indices name (Some ns) = elim (symbol_with name ns) [ Some s ↦ if_small_indices ns s | None ↦ Err bad_index ]

-- the digits behind #x
abbrev pub hexadecimal_digits : List ℕ → List ℕ
hexadecimal_digits (a ∷ b ∷ digits) = if nat_eq a 35 && nat_eq b 120 then digits else []
hexadecimal_digits _ = []

-- (_ char #xH): the word of a character
abbrev pub character_word : Forms → Result Head Fault
character_word (more (OtherNumber bytes) none) =
    elim (character_of (hexadecimal_digits bytes)) [ Some c ↦ Ok (head_term (word (c ∷ []))) | None ↦ Err bad_index ]
character_word _ = Err bad_index

-- what a name with indices is, where it stands for nothing and is no symbol that takes them
abbrev pub without_indices : Name → Forms → Result Head Fault → Result Head Fault
without_indices name indices (Ok head) = Err bad_index
without_indices name indices (Err (unknown_symbol unknown)) =
    if is_name name (codes "char") then character_word indices
    else Err (unknown_symbol unknown)
without_indices name indices (Err fault) = Err fault

-- what a name with indices is as a head
abbrev pub read_indexed : List Naming → Name → Forms → Result Head Fault
read_indexed names name indices =
    if is_indexed name && is_none (named names name) then with_indices name (indices_of indices)
    else without_indices name indices (read_head names name)

-- Arguments.

-- The fault of a symbol with arguments of these sorts, none where it takes them. What is left out is judged last.
abbrev pub judged : symbol.Symbol → List Sort → Option Fault
judged s sorts =
    if not (is_count (arity_of s) (length sorts)) then Some wrong_count
    else if not (takes_sorts (arity_of s) sorts) then Some wrong_sort
    else if is_left_out_use (arity_of s) sorts then Some unsupported
    else None

-- a symbol with its arguments, and one argument as it is
abbrev pub joined : symbol.Symbol → List Term → Term
joined s [] = apply s no_terms
joined s (t ∷ []) = t
joined s (t ∷ u ∷ ts) = apply s (terms_of (t ∷ u ∷ ts))

-- the term of a symbol with its arguments
abbrev pub made : symbol.Symbol → List Term → Term
made s ts = if is_of_one s then joined s ts else apply s (terms_of ts)

-- the body of a definition, with arguments in the places of its parameters
abbrev mutual
  pub with_arguments : List Term → Term → Term
  with_arguments ts (constant serial sort) = constant serial sort
  with_arguments ts (word w) = word w
  with_arguments ts (numeral n) = numeral n
  with_arguments ts (apply s terms) = apply s (each_with_arguments ts terms)
  with_arguments ts (parameter place sort) = unwrap_or (slice_get ts place) (parameter place sort)

  pub each_with_arguments : List Term → Terms → Terms
  each_with_arguments ts no_terms = no_terms
  each_with_arguments ts (with_term term terms) = with_term (with_arguments ts term) (each_with_arguments ts terms)

abbrev pub unless : Option Fault → Term → Result Term Fault
unless None t = Ok t
unless (Some fault) t = Err fault

-- the fault of a definition with arguments of these sorts
abbrev pub judged_definition : List Sort → List Sort → Option Fault
judged_definition parameters sorts =
    if not (length parameters == length sorts) then Some wrong_count
    else if are_sorts parameters sorts then None
    else Some wrong_sort

-- a head with its arguments
abbrev pub applied_to : Head → List Term → Result Term Fault
applied_to (head_constant serial sort) [] = Ok (constant serial sort)
applied_to (head_constant serial sort) (t ∷ ts) = Err wrong_count
applied_to (head_symbol s) ts = unless (judged s (map sort_of ts)) (made s ts)
applied_to (head_definition sorts body) ts = unless (judged_definition sorts (map sort_of ts)) (with_arguments ts body)
applied_to (head_term t) [] = Ok t
applied_to (head_term t) (u ∷ us) = Err wrong_count

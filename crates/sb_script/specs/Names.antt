-- Names: the bytes of a symbol, whether it is written between bars or not (SMT-LIB 2.6, sections 3.1 and 3.9).
use Rattle.std.specs.Prelude.{ℕ, Bool, not, ◌&&◌, ◌||◌, nat_eq, if◌then◌else◌, List, [], ◌∷◌, ◌++◌, codes, Option, Some, None}
use Rattle.std.specs.Cmp.Lexicographic.{pointwise}
use Rattle.std.specs.List.{list_any, flat_map}
use Rattle.sb_reader.specs.Tokens.{is_simple_symbol}

abbrev pub Name : Type 0
Name = List ℕ

-- the two names are one
abbrev pub is_name : Name → Name → Bool
is_name a b = pointwise nat_eq a b

abbrev pub is_among : List Name → Name → Bool
is_among names name = list_any (λ other. is_name name other) names

-- what stands in a table by this name; the first row counts
abbrev pub found_in : {A : Type 0} → List (Name × A) → Name → Option A
found_in [] name = None
found_in (row ∷ rows) name = if is_name name row.0 then Some row.1 else found_in rows name

-- what stands for a term of its own shape, and is no name unless it is written between bars
abbrev pub words_of_terms : List Name
words_of_terms = codes "forall" ∷ codes "exists" ∷ codes "match" ∷ codes "as" ∷ codes "!" ∷ []

abbrev pub words_of_scripts : List Name
words_of_scripts =
    codes "_" ∷ codes "let" ∷ codes "par"
    ∷ codes "BINARY" ∷ codes "DECIMAL" ∷ codes "HEXADECIMAL" ∷ codes "NUMERAL" ∷ codes "STRING"
    ∷ codes "assert" ∷ codes "check-sat" ∷ codes "check-sat-assuming"
    ∷ codes "declare-const" ∷ codes "declare-datatype" ∷ codes "declare-datatypes" ∷ codes "declare-fun" ∷ codes
    "declare-sort"
    ∷ codes "define-fun" ∷ codes "define-fun-rec" ∷ codes "define-funs-rec" ∷ codes "define-sort"
    ∷ codes "echo" ∷ codes "exit"
    ∷ codes "get-assertions" ∷ codes "get-assignment" ∷ codes "get-info" ∷ codes "get-model" ∷ codes "get-option" ∷
    codes "get-proof"
    ∷ codes "get-unsat-assumptions" ∷ codes "get-unsat-core" ∷ codes "get-value"
    ∷ codes "pop" ∷ codes "push" ∷ codes "reset" ∷ codes "reset-assertions"
    ∷ codes "set-info" ∷ codes "set-logic" ∷ codes "set-option" ∷ []

-- The word begins a term of its own shape.
abbrev pub begins_term : Name → Bool
begins_term name = is_among words_of_terms name

-- a reserved word, where it isn't written between bars
abbrev pub is_reserved : Name → Bool
is_reserved name = is_among words_of_terms name || is_among words_of_scripts name

-- a name is printed as it is, or between bars where it could not be read otherwise
abbrev pub name_text : Name → List ℕ
name_text name = if is_simple_symbol name && not (is_reserved name) then name else 124 ∷ (name ++ 124 ∷ [])

abbrev pub with_doubled_quote : ℕ → List ℕ
with_doubled_quote b = if nat_eq b 34 then 34 ∷ 34 ∷ [] else b ∷ []

-- a name within a text: each quote of it is doubled
abbrev pub name_in_text : Name → List ℕ
name_in_text name = flat_map with_doubled_quote (name_text name)

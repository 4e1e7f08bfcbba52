-- The names of the theories Core, Ints and Unicode Strings: symbols that are read, and what is left out.
use Rattle.std.specs.Prelude.{Bool, true, not, ◌||◌, ◌==◌, List, [], ◌∷◌, ◌++◌, map, filter, codes, Option, Some, None, is_some}
use Rattle.sb_script.specs.Names.{Name, is_among, found_in}
use Rattle.sb_script.specs.Brought.{a_symbol, a_sort, is_brought}
use Rattle.sb_meaning.specs.Terms.{Sort, Symbol, boolean, integer, text}
use Rattle.sb_meaning.specs.Sorts.{signature_of, symbols}
use Rattle.sb_script.specs.Scopes.{Naming, named}

-- symbols, by name
abbrev pub by_name : List Symbol → List (Name × Symbol)
by_name ss = map (λ s. ((signature_of s).name, s)) ss

-- the symbols of the theories, by name, and those that take indices
abbrev pub symbols_of_theories : List (Name × Symbol)
symbols_of_theories = by_name (filter (λ s. (signature_of s).indices == 0) symbols)

abbrev pub indexed_symbols : List (Name × Symbol)
indexed_symbols = by_name (filter (λ s. not ((signature_of s).indices == 0)) symbols)

-- the names of the theories that are not read, and names that they once had
abbrev pub names_left_out : List Name
names_left_out =
    codes "div" ∷ codes "mod" ∷ codes "abs"
    ∷ codes "str.<" ∷ codes "str.<=" ∷ codes "str.at" ∷ codes "str.substr" ∷ codes "str.indexof"
    ∷ codes "str.replace" ∷ codes "str.replace_all" ∷ codes "str.replace_re" ∷ codes "str.replace_re_all"
    ∷ codes "str.is_digit" ∷ codes "str.to_code" ∷ codes "str.from_code" ∷ codes "str.to_int" ∷ codes "str.from_int"
    ∷ codes "str.in.re" ∷ codes "str.to.re" ∷ codes "re.nostr" ∷ []

abbrev pub is_brought_row : Name × Symbol → Bool
is_brought_row row = is_brought (a_symbol row.1)

-- the symbol of a name, where it is read and takes no index
abbrev pub symbol_named : Name → Option Symbol
symbol_named name = found_in (filter is_brought_row symbols_of_theories) name

-- the name is of a symbol that is read and takes indices
abbrev pub is_indexed : Name → Bool
is_indexed name = is_some (found_in (filter is_brought_row indexed_symbols) name)

-- a term that uses one of these names is left out
abbrev pub left_out_names : List Name
left_out_names =
    map (λ row. row.0) (filter (λ row. not (is_brought_row row)) symbols_of_theories)
    ++ (map (λ row. row.0) (filter (λ row. not (is_brought_row row)) indexed_symbols) ++ names_left_out)

abbrev pub is_left_out : Name → Bool
is_left_out name = is_among left_out_names name

-- a name of the theories, which can't be declared
abbrev pub is_theory_name : Name → Bool
is_theory_name name = elim (symbol_named name) [ Some s ↦ true | None ↦ is_indexed name || is_left_out name ]

-- a name that is live, marked or of the theories can't be declared
abbrev pub is_taken : List Naming → Name → Bool
is_taken names name = is_some (named names name) || is_theory_name name

-- the sorts of constants, by name
abbrev pub sorts_of_constants : List (Name × Sort)
sorts_of_constants = (codes "Bool", boolean) ∷ (codes "Int", integer) ∷ (codes "String", text) ∷ []

-- the sort of a name, where constants may have it
abbrev pub sort_named : Name → Option Sort
sort_named name = found_in (filter (λ row. is_brought (a_sort row.1)) sorts_of_constants) name

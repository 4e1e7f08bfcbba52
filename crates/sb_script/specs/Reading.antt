-- How a term is read: the tree of a form, or the first fault in reading order (SMT-LIB 2.6, sections 3.6 and 3.7). The
-- head is read first (its name, then its indices), then the arguments from left to right, then their number and
-- their sorts are judged. A list of wrong shape is malformed whatever stands in it.
use Rattle.std.specs.Prelude.{Bool, true, false, not, ◌&&◌, ◌||◌, if◌then◌else◌, List, [], ◌∷◌, ◌++◌, map, codes, Option, Some, None, is_some, Result, Ok, Err}
use Rattle.sb_reader.specs.Forms.{Form, Forms, Symbol, QuotedSymbol, Keyword, Numeral, OtherNumber, Words, Group, none, more}
use Rattle.sb_script.specs.Names.{Name, is_name, is_among, is_reserved, begins_term}
use Rattle.sb_meaning.specs.Terms.{Term}
use Rattle.sb_script.specs.Brought.{numerals, lets, is_brought}
use Rattle.sb_script.specs.Faults.{Fault, unsupported, malformed, already_bound}
use Rattle.sb_script.specs.Texts.{read_text, read_numeral}
use Rattle.sb_script.specs.Scopes.{Naming, a_term}
use Rattle.sb_script.specs.Commands.{declarable}
use Rattle.sb_script.specs.Heads.{Head, read_head, read_indexed, applied_to}

infixl 10 ◌>>=◌
abbrev pub ◌>>=◌ : {A B : Type 0} → Result A Fault → (A → Result B Fault) → Result B Fault
(Ok x) >>= f = f x
(Err fault) >>= f = Err fault

-- a name that stands alone
abbrev pub read_name : List Naming → Name → Result Term Fault
read_name names name = do
  head ← read_head names name
  applied_to head []

-- (_ name index ..) without the underscore
abbrev pub read_index_list : List Naming → Forms → Result Head Fault
read_index_list names (more (Symbol name) (more index indices)) =
    if is_reserved name then Err malformed else read_indexed names name (more index indices)
read_index_list names (more (QuotedSymbol name) (more index indices)) = read_indexed names name (more index indices)
read_index_list names _ = Err malformed

-- (name term), of a let
abbrev pub is_binding : Form → Bool
is_binding (Group (more (Symbol name) (more term none))) = not (is_reserved name)
is_binding (Group (more (QuotedSymbol name) (more term none))) = true
is_binding _ = false

abbrev pub are_bindings : Forms → Bool
are_bindings none = true
are_bindings (more form forms) = is_binding form && are_bindings forms

-- ((name term) ..) term, of a let
abbrev pub is_let : Forms → Bool
is_let (more (Group (more binding bindings)) (more body none)) = is_binding binding && are_bindings bindings
is_let _ = false

-- the first name that stands again, behind these
abbrev pub first_again : List Name → List Name → Option Name
first_again before [] = None
first_again before (name ∷ names) = if is_among before name then Some name else first_again (name ∷ before) names

abbrev pub names_in : List Naming → List Name
names_in ns = map (λ n. n.0) ns

-- bindings that are read, unless they bind a name twice
abbrev pub once : List Naming → Result (List Naming) Fault
once bound = elim (first_again [] (names_in bound)) [ Some name ↦ Err (already_bound name) | None ↦ Ok bound ]

-- keywords of an annotation, each with one value at most, that of :named a name
abbrev mutual
  pub are_annotations : Forms → Bool
  are_annotations none = true
  are_annotations (more (Keyword key) forms) = are_annotations_of key forms
  are_annotations _ = false

  -- the same behind a keyword
  pub are_annotations_of : Name → Forms → Bool
  are_annotations_of key none = not (is_name key (codes ":named"))
  are_annotations_of key (more (Keyword next) forms) =
      not (is_name key (codes ":named")) && are_annotations_of next forms
  are_annotations_of key (more form forms) =
      (not (is_name key (codes ":named")) || is_some (declarable form)) && are_annotations forms

-- term :keyword value .., of an annotation: one keyword or more
abbrev pub is_annotation : Forms → Bool
is_annotation (more term (more annotation annotations)) = are_annotations (more annotation annotations)
is_annotation _ = false

-- the list has the shape that its head, a reserved word, asks for
abbrev pub has_shape_of : Name → Forms → Bool
has_shape_of name arguments =
    if is_name name (codes "!") then is_annotation arguments
    else if is_name name (codes "let") then is_let arguments
    else begins_term name

-- what follows a reserved word that is the head of a list, where it is left out
abbrev pub read_reserved : Name → Forms → Fault
read_reserved name arguments = if has_shape_of name arguments then unsupported else malformed

-- the term of a form
abbrev mutual
  pub read : List Naming → Form → Result Term Fault
  read names (Symbol name) = if begins_term name then Err unsupported else if is_reserved name then Err malformed
      else read_name names name
  read names (QuotedSymbol name) = read_name names name
  read names (Keyword name) = Err malformed
  read names (Numeral digits) = if is_brought numerals then read_numeral digits else Err unsupported
  read names (OtherNumber bytes) = Err unsupported
  read names (Words bytes) = read_text bytes
  read names (Group forms) = read_list names forms

  -- the term of a list of forms
  pub read_list : List Naming → Forms → Result Term Fault
  read_list names none = Err malformed
  read_list names (more head none) = Err malformed
  read_list names (more (Symbol name) (more first rest)) =
      if is_name name (codes "_") then read_index_list names (more first rest) >>= (λ head. applied_to head [])
      else if is_brought lets && (is_name name (codes "let") && is_let (more first rest))
      then read_let names (more first rest)
      else if is_reserved name then Err (read_reserved name (more first rest))
      else read_head names name >>= (λ head. read_all names (more first rest) >>= applied_to head)
  read_list names (more (QuotedSymbol name) (more first rest)) =
      read_head names name >>= (λ head. read_all names (more first rest) >>= applied_to head)
  read_list names (more (Group list) (more first rest)) =
      read_list_head names list >>= (λ head. read_all names (more first rest) >>= applied_to head)
  read_list names (more (Keyword name) (more first rest)) = Err malformed
  read_list names (more (Numeral digits) (more first rest)) = Err malformed
  read_list names (more (OtherNumber bytes) (more first rest)) = Err malformed
  read_list names (more (Words bytes) (more first rest)) = Err malformed

  -- the terms of forms, from left to right
  pub read_all : List Naming → Forms → Result (List Term) Fault
  read_all names none = Ok []
  read_all names (more form forms) = read names form >>= (λ t. read_all names forms >>= (λ ts. Ok (t ∷ ts)))

  -- a list that is the head of a list: a name with indices
  pub read_list_head : List Naming → Forms → Result Head Fault
  read_list_head names (more (Symbol name) rest) =
      if is_name name (codes "_") then read_index_list names rest
      else if is_name name (codes "as") then Err unsupported
      else Err malformed
  read_list_head names _ = Err malformed

  -- ((name term) ..) term, of a let: the terms are read in the outer scope, then the names are bound at once
  pub read_let : List Naming → Forms → Result Term Fault
  read_let names (more (Group bindings) (more body none)) =
      read_bindings names bindings >>= once >>= (λ bound. read (bound ++ names) body)
  read_let names _ = Err malformed

  pub read_bindings : List Naming → Forms → Result (List Naming) Fault
  read_bindings names none = Ok []
  read_bindings names (more (Group (more (Symbol name) (more value none))) bindings) =
      read names value >>= (λ t. read_bindings names bindings >>= (λ bound. Ok ((name, a_term t) ∷ bound)))
  read_bindings names (more (Group (more (QuotedSymbol name) (more value none))) bindings) =
      read names value >>= (λ t. read_bindings names bindings >>= (λ bound. Ok ((name, a_term t) ∷ bound)))
  read_bindings names _ = Err malformed

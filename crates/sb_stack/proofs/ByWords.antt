-- Values of live constants, as their words and truth values say them.
use Rattle.std.proofs.Common.{◌≡◌, ℕ, ◌+◌, Bool, true, false, if◌then◌else◌, List, [], ◌∷◌, ◌++◌, map, codes, Option, Some, None, option_map, refl, sym, ap, ap₂, ◌∙◌}
use Rattle.std.specs.List.{list_all}
use Rattle.std.proofs.lemmas.Bool.{and_parts, and_from, false≢true}
use Rattle.sb_reader.specs.Forms.{Form, Symbol, QuotedSymbol, Keyword, Numeral, OtherNumber, Words, Group}
use Rattle.sb_meaning.specs.Terms.{Sort, Term, text}
use Rattle.sb_meaning.specs.Values.{value_in}
use Rattle.sb_meaning.specs.Printed.{printed}
use Rattle.sb_script.specs.Names.{Name, name_text, is_name, is_reserved, begins_term}
use Rattle.sb_script.specs.Symbols.{is_theory_name}
use Rattle.sb_script.specs.Scopes.{Named, a_constant, a_definition, a_marked_name, a_term, named, constants_in}
use Rattle.sb_script.specs.State.{State}
use Rattle.sb_script.specs.Steps.{Step, answers, is_unsupported, line, list_text}
use Rattle.sb_script.specs.Replies.{sort_text, definition_text, value_text, Item, item_constant, item_unknown, item_malformed, item_other, item_named, item_of, all_constants}
use Rattle.sb_term.specs.Numbered.{term_at}
use Rattle.sb_term.specs.Symbols.{sort_in}
use Rattle.sb_sorts.specs.declared.scope.Named as scope
use Rattle.sb_sorts.specs.declared.scope.Named.TheVariants as code
use Rattle.sb_sorts.specs.Scopes.{naming_in, constants_among, serials_in, ascend_below}
use Rattle.sb_stack.specs.Speaking.{is_one_of}
use Rattle.sb_stack.specs.Stacked.{values_at}
use Rattle.sb_stack.specs.Values.{value_printed, definition_by, value_by, answers_by, is_live_item, with_names}
use Rattle.sb_stack.proofs.Live.{one_first, one_later, rest_ascends, value_there}

-- a constant's value is printed as what stands at its serial
printed_at : (cs : List (ℕ × Sort)) (words : List (List ℕ)) (truths : List Bool) (n : ℕ) (sort : Sort)
    → is_one_of cs n sort ≡ true
    → printed (value_in (values_at cs words truths) n sort) ≡ value_printed words truths n sort
printed_at cs words truths n sort h = ap printed (value_there cs words truths n sort h)

-- the definitions of a scope's constants
definitions_among : (ts : List Term) (from bound : ℕ) (cs : List (ℕ × Sort)) (words : List (List ℕ))
    (truths : List Bool) (ns : List (Name × scope.Named)) → ascend_below from bound (serials_in ns) ≡ true
    → ((n : ℕ) (sort : Sort) → is_one_of (constants_among ns) n sort ≡ true → is_one_of cs n sort ≡ true)
    → map (definition_text (values_at cs words truths)) (constants_in (map (naming_in ts) ns))
    ≡ map (definition_by words truths) (constants_in (map (naming_in ts) ns))
definitions_among ts from bound cs words truths [] h more = refl
definitions_among ts from bound cs words truths ((name, code.Constant serial sort) ∷ ns) h more =
    let kind : Sort = sort_in sort in
    let here = printed_at cs words truths serial.0 kind (more serial.0 kind (one_first serial.0 kind (constants_among ns))) in
    ap₂ (λ (said : List ℕ) (rest : List (List ℕ)).
    (codes "(define-fun " ++ (name_text name ++ (codes " () " ++ (sort_text kind ++ (codes " " ++ (said ++ codes ")"))))))
    ∷ rest) here
    (definitions_among ts (serial.0 + 1) bound cs words truths ns (rest_ascends from bound serial.0 (serials_in ns) h)
    (λ n k one. more n k (one_later from bound serial.0 kind (constants_among ns) n k h one)))
definitions_among ts from bound cs words truths ((name, code.Definition d) ∷ ns) h more =
    definitions_among ts from bound cs words truths ns h more
definitions_among ts from bound cs words truths ((name, code.Marked) ∷ ns) h more =
    definitions_among ts from bound cs words truths ns h more

pub definitions : (ts : List Term) (bound : ℕ) (words : List (List ℕ)) (truths : List Bool) (ns : List (Name × scope.Named))
    → ascend_below 0 bound (serials_in ns) ≡ true
    → map (definition_text (values_at (constants_among ns) words truths)) (constants_in (map (naming_in ts) ns))
    ≡ map (definition_by words truths) (constants_in (map (naming_in ts) ns))
definitions ts bound words truths ns h =
    definitions_among ts 0 bound (constants_among ns) words truths ns h (λ n sort one. one)

-- A name that stands for a constant stands for a live one.

-- the serial and the sort of a constant
abbrev serial_of : Option Named → ℕ
serial_of (Some (a_constant serial sort)) = serial
serial_of _ = 0

abbrev sort_of : Option Named → Sort
sort_of (Some (a_constant serial sort)) = sort
sort_of _ = text

abbrev is_constant : Option Named → Bool
is_constant (Some (a_constant serial sort)) = true
is_constant _ = false

pub constant_live : (ts : List Term) (from bound : ℕ) (cs : List (ℕ × Sort)) (ns : List (Name × scope.Named))
    (name : Name) → ascend_below from bound (serials_in ns) ≡ true
    → ((n : ℕ) (sort : Sort) → is_one_of (constants_among ns) n sort ≡ true → is_one_of cs n sort ≡ true)
    → (serial : ℕ) (sort : Sort) → named (map (naming_in ts) ns) name ≡ Some (a_constant serial sort)
    → is_one_of cs serial sort ≡ true
constant_live ts from bound cs [] name h wider serial sort is = absurd (false≢true (ap is_constant is))
constant_live ts from bound cs ((other, code.Constant m kind) ∷ ns) name h wider serial sort is =
    step (is_name name other) is
    (constant_live ts (m.0 + 1) bound cs ns name (rest_ascends from bound m.0 (serials_in ns) h)
    (λ n k one. wider n k (one_later from bound m.0 (sort_in kind) (constants_among ns) n k h one)) serial sort)
  where
    step : (b : Bool) → (if b then Some (a_constant m.0 (sort_in kind)) else named (map (naming_in ts) ns) name)
        ≡ Some (a_constant serial sort)
        → (named (map (naming_in ts) ns) name ≡ Some (a_constant serial sort) → is_one_of cs serial sort ≡ true)
        → is_one_of cs serial sort ≡ true
    step true same later =
        ap₂ (is_one_of cs) (sym (ap serial_of same)) (sym (ap sort_of same))
        ∙ wider m.0 (sort_in kind) (one_first m.0 (sort_in kind) (constants_among ns))
    step false same later = later same
constant_live ts from bound cs ((other, code.Definition d) ∷ ns) name h wider serial sort is =
    step (is_name name other) is (constant_live ts from bound cs ns name h wider serial sort)
  where
    step : (b : Bool)
        → (if b then Some (a_definition (map sort_in d.sorts) (term_at ts d.body))
        else named (map (naming_in ts) ns) name) ≡ Some (a_constant serial sort)
        → (named (map (naming_in ts) ns) name ≡ Some (a_constant serial sort) → is_one_of cs serial sort ≡ true)
        → is_one_of cs serial sort ≡ true
    step true same later = absurd (false≢true (ap is_constant same))
    step false same later = later same
constant_live ts from bound cs ((other, code.Marked) ∷ ns) name h wider serial sort is =
    step (is_name name other) is (constant_live ts from bound cs ns name h wider serial sort)
  where
    step : (b : Bool) → (if b then Some a_marked_name else named (map (naming_in ts) ns) name)
        ≡ Some (a_constant serial sort)
        → (named (map (naming_in ts) ns) name ≡ Some (a_constant serial sort) → is_one_of cs serial sort ≡ true)
        → is_one_of cs serial sort ≡ true
    step true same later = absurd (false≢true (ap is_constant same))
    step false same later = later same

abbrev item_for : Name → Option Named → Item
item_for name o = elim o [
  | Some (a_constant serial sort) ↦ item_constant name serial sort
  | Some _ ↦ item_other
  | None ↦ if is_theory_name name then item_other else item_unknown name
]

named_live : (cs : List (ℕ × Sort)) (name : Name) (o : Option Named)
    → ((serial : ℕ) (sort : Sort) → o ≡ Some (a_constant serial sort) → is_one_of cs serial sort ≡ true)
    → is_live_item cs (item_for name o) ≡ true
named_live cs name None live = unknown (is_theory_name name)
  where
    unknown : (b : Bool) → is_live_item cs (if b then item_other else item_unknown name) ≡ true
    unknown true = refl
    unknown false = refl
named_live cs name (Some (a_constant serial sort)) live = live serial sort refl
named_live cs name (Some (a_definition sorts body)) live = refl
named_live cs name (Some a_marked_name) live = refl
named_live cs name (Some (a_term t)) live = refl

bare_live : (cs : List (ℕ × Sort)) (item : Item) (b c : Bool) → is_live_item cs item ≡ true
    → is_live_item cs (if b then item_other else if c then item_malformed else item) ≡ true
bare_live cs item true c h = refl
bare_live cs item false true h = refl
bare_live cs item false false h = h

form_live : (ts : List Term) (bound : ℕ) (ns : List (Name × scope.Named)) (form : Form) → ascend_below 0 bound (serials_in ns) ≡ true
    → is_live_item (constants_among ns) (item_of (with_names (map (naming_in ts) ns)) form) ≡ true
form_live ts bound ns (Symbol name) h =
    bare_live (constants_among ns) (item_named (with_names (map (naming_in ts) ns)) name) (begins_term name)
    (is_reserved name)
    (named_live (constants_among ns) name (named (map (naming_in ts) ns) name)
    (constant_live ts 0 bound (constants_among ns) ns name h (λ n sort one. one)))
form_live ts bound ns (QuotedSymbol name) h =
    named_live (constants_among ns) name (named (map (naming_in ts) ns) name)
    (constant_live ts 0 bound (constants_among ns) ns name h (λ n sort one. one))
form_live ts bound ns (Keyword name) h = refl
form_live ts bound ns (Numeral name) h = refl
form_live ts bound ns (OtherNumber name) h = refl
form_live ts bound ns (Words name) h = refl
form_live ts bound ns (Group name) h = refl

pub forms_live : (ts : List Term) (bound : ℕ) (ns : List (Name × scope.Named)) (forms : List Form)
    → ascend_below 0 bound (serials_in ns) ≡ true
    → list_all (is_live_item (constants_among ns)) (map (item_of (with_names (map (naming_in ts) ns))) forms) ≡ true
forms_live ts bound ns [] h = refl
forms_live ts bound ns (form ∷ forms) h =
    and_from (is_live_item (constants_among ns) (item_of (with_names (map (naming_in ts) ns)) form)) _
    (form_live ts bound ns form h) (forms_live ts bound ns forms h)

-- Values that are asked for.

all_values : (cs : List (ℕ × Sort)) (words : List (List ℕ)) (truths : List Bool) (items : List Item)
    → list_all (is_live_item cs) items ≡ true
    → option_map (map (value_text (values_at cs words truths))) (all_constants items)
    ≡ option_map (map (value_by words truths)) (all_constants items)
all_values cs words truths [] h = refl
all_values cs words truths (item_constant name serial sort ∷ items) h =
    let parts = and_parts (is_one_of cs serial sort) (list_all (is_live_item cs) items) h in
    step (all_constants items) (printed_at cs words truths serial sort parts.0)
    (all_values cs words truths items parts.1)
  where
    step : (o : Option (List (Name × (ℕ × Sort))))
        → printed (value_in (values_at cs words truths) serial sort) ≡ value_printed words truths serial sort
        → option_map (map (value_text (values_at cs words truths))) o ≡ option_map (map (value_by words truths)) o
        → option_map (map (value_text (values_at cs words truths))) (elim o as (λ _. Option (List (Name × (ℕ × Sort))))
        [ Some ds ↦ Some ((name, (serial, sort)) ∷ ds) | None ↦ None ])
        ≡ option_map (map (value_by words truths)) (elim o as (λ _. Option (List (Name × (ℕ × Sort))))
        [ Some ds ↦ Some ((name, (serial, sort)) ∷ ds) | None ↦ None ])
    step None here rest = refl
    step (Some ds) here rest =
        let same : map (value_text (values_at cs words truths)) ds ≡ map (value_by words truths) ds = cc rest in
        ap₂ (λ (said : List ℕ) (others : List (List ℕ)).
        Some ((codes "(" ++ (name_text name ++ (codes " " ++ (said ++ codes ")")))) ∷ others)) here same
all_values cs words truths (item_unknown name ∷ items) h = refl
all_values cs words truths (item_malformed ∷ items) h = refl
all_values cs words truths (item_other ∷ items) h = refl

pub values_answered : (cs : List (ℕ × Sort)) (words : List (List ℕ)) (truths : List Bool) (items : List Item)
    (s : State) → list_all (is_live_item cs) items ≡ true
    → (elim (all_constants items) as (λ _. Step) [
      | Some ds ↦ answers (line (list_text (map (value_text (values_at cs words truths)) ds))) s
      | None ↦ is_unsupported s
    ]) ≡ answers_by words truths items s
values_answered cs words truths items s h = step (all_constants items) (all_values cs words truths items h)
  where
    step : (o : Option (List (Name × (ℕ × Sort))))
        → option_map (map (value_text (values_at cs words truths))) o ≡ option_map (map (value_by words truths)) o
        → (elim o as (λ _. Step) [
          | Some ds ↦ answers (line (list_text (map (value_text (values_at cs words truths)) ds))) s
          | None ↦ is_unsupported s
        ]) ≡ (elim o as (λ _. Step)
        [ Some ds ↦ answers (line (list_text (map (value_by words truths) ds))) s | None ↦ is_unsupported s ])
    step None same = refl
    step (Some ds) same =
        let texts : map (value_text (values_at cs words truths)) ds ≡ map (value_by words truths) ds = cc same in
        ap (λ ts. answers (line (list_text ts)) s) texts

-- Private: what the parts of reading say: heads, the forms of a slice, and the first fault.
use Rattle.std.specs.Prelude.{◌≡◌, ℕ, Bool, true, false, ◌&&◌, nat_lt, if◌then◌else◌, List, [], ◌∷◌, map, codes, Result, Ok, Err}
use Rattle.sb_reader.specs.Forms.{Form, Forms, Symbol, QuotedSymbol, Keyword, Numeral, OtherNumber, Words, Group, none, more}
use Rattle.sb_sorts.specs.declared.read.ReadFault.{ReadFault}
use Rattle.sb_sorts.specs.declared.head.Head.{Head}
use Rattle.sb_sorts.specs.declared.head.Head.TheVariants as head
use Rattle.sb_sorts.specs.declared.head.Front.{Front}
use Rattle.sb_sorts.specs.declared.head.Front.TheVariants as front
use Rattle.sb_sorts.specs.declared.apply.Arity.{Arity}
use Rattle.sb_sorts.specs.declared.apply.Arity.TheVariants as arity
use Rattle.sb_script.specs.Names.{Name, is_name, is_reserved}
use Rattle.sb_meaning.specs.Sorts as theory
use Rattle.sb_script.specs.Scopes.{Naming}
use Rattle.sb_meaning.specs.Terms.{Term, word}
use Rattle.sb_term.specs.Numbered.{term_at}
use Rattle.sb_script.specs.Heads as meaning
use Rattle.sb_script.specs.Faults.{Fault, malformed}
use Rattle.sb_script.specs.Heads.{head_constant, head_symbol, head_definition, head_term, read_head}
use Rattle.sb_script.specs.Reading.{◌>>=◌, read_index_list, read_list_head, read_reserved, is_binding, are_bindings}
use Rattle.sb_term.specs.Symbols.{sort_in, symbol_in}
use Rattle.sb_sorts.specs.Reads.{Faults}

-- where these are the terms by number
abbrev pub head_in : List Term → Head → meaning.Head
head_in ts (head.Constant serial sort) = head_constant serial.0 (sort_in sort)
head_in ts (head.Character c) = head_term (word (c.code ∷ []))
head_in ts (head.Bound id) = head_term (term_at ts id)
head_in ts (head.Symbol s) = head_symbol (symbol_in s)
head_in ts (head.Definition d) = head_definition (map sort_in d.now.sorts) (term_at ts d.now.body)

abbrev pub arity_in : Arity → theory.Arity
arity_in (arity.OfEach sorts) = theory.of_each (map sort_in sorts.now)
arity_in (arity.OrMore least sort) = theory.or_more least (sort_in sort)
arity_in arity.OfOneSort = theory.of_one_sort
arity_in arity.Choice = theory.choice

-- a constant that is the head has a serial below this
abbrev pub head_below : ℕ → Head → Bool
head_below n (head.Constant serial sort) = nat_lt serial.0 n
head_below n (head.Character c) = true
head_below n (head.Bound id) = true
head_below n (head.Symbol s) = true
head_below n (head.Definition d) = true

-- what is bound, and the body of a definition, has a number below this
abbrev pub has_number_below : ℕ → Head → Bool
has_number_below n (head.Constant serial sort) = true
has_number_below n (head.Character c) = true
has_number_below n (head.Bound id) = nat_lt id n
has_number_below n (head.Symbol s) = true
has_number_below n (head.Definition d) = nat_lt d.now.body n

-- a head that speaks of no constant, and of no number
abbrev pub is_of_theories : Head → Bool
is_of_theories (head.Constant serial sort) = false
is_of_theories (head.Character c) = true
is_of_theories (head.Bound id) = false
is_of_theories (head.Symbol s) = true
is_of_theories (head.Definition d) = false

-- The answer, seen by the view, is what reading gives.
abbrev pub Gives : {A B : Type 0} → (B → A) → Result A Fault → Result B ReadFault → Type 0
Gives view reading (Ok x) = reading ≡ Ok (view x)
Gives view reading (Err fault) = Faults reading fault

-- What a list begins with: a name with indices, which is whole, or a head with its arguments.
pub data Beginning : Type 0 where
  whole : meaning.Head → Beginning
  takes : meaning.Head → Beginning

abbrev pub beginning_in : List Term → Front → Beginning
beginning_in ts (front.Whole h) = whole (head_in ts h)
beginning_in ts (front.Takes h) = takes (head_in ts h)

abbrev pub beginning_below : ℕ → Front → Bool
beginning_below n (front.Whole h) = head_below n h
beginning_below n (front.Takes h) = head_below n h

abbrev pub beginning_number_below : ℕ → Front → Bool
beginning_number_below n (front.Whole h) = has_number_below n h
beginning_number_below n (front.Takes h) = has_number_below n h

abbrev pub with_arguments : Result meaning.Head Fault → Result Beginning Fault
with_arguments reading = reading >>= (λ h. Ok (takes h))

-- what a list begins with whose first form is a symbol
abbrev pub symbol_beginning : List Naming → Name → Forms → Result Beginning Fault
symbol_beginning names name others =
    if is_name name (codes "_") then read_index_list names others >>= (λ h. Ok (whole h))
    else if is_reserved name then Err (read_reserved name others)
    else with_arguments (read_head names name)

-- what a list begins with that has more forms than its first
abbrev pub some_beginning : List Naming → Form → Forms → Result Beginning Fault
some_beginning names (Symbol name) others = symbol_beginning names name others
some_beginning names (QuotedSymbol name) others = with_arguments (read_head names name)
some_beginning names (Group list) others = with_arguments (read_list_head names list)
some_beginning names (Keyword name) others = Err malformed
some_beginning names (Numeral digits) others = Err malformed
some_beginning names (OtherNumber bytes) others = Err malformed
some_beginning names (Words bytes) others = Err malformed

-- what a list begins with, by its first form and the others
abbrev pub beginning_of : List Naming → Form → Forms → Result Beginning Fault
beginning_of names first none = Err malformed
beginning_of names first (more second rest) = some_beginning names first (more second rest)

-- the form is ((name term) ..)
abbrev pub has_bindings : Form → Bool
has_bindings (Group (more binding bindings)) = is_binding binding && are_bindings bindings
has_bindings (Group none) = false
has_bindings (Symbol name) = false
has_bindings (QuotedSymbol name) = false
has_bindings (Keyword name) = false
has_bindings (Numeral digits) = false
has_bindings (OtherNumber bytes) = false
has_bindings (Words bytes) = false

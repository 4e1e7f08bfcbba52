-- What reading keeps holds of each term that is read, where it holds of what the names in force stand for.
use Rattle.std.proofs.Common.{◌≡◌, ℕ, Bool, true, false, ◌&&◌, if◌then◌else◌, List, [], ◌∷◌, ◌++◌, map, codes, Option, Some, None, Result, Ok, Err, refl, sym, ap, ◌∙◌}
use Rattle.std.specs.Prelude.{is_none}
use Rattle.std.specs.List.{list_all}
use Rattle.std.proofs.lemmas.Bool.{and_parts, and_from}
use Rattle.sb_reader.specs.Forms.{Form, Forms, Symbol, QuotedSymbol, Keyword, Numeral, OtherNumber, Words, Group, none, more}
use Rattle.sb_meaning.specs.Terms.{Sort, Term, constant, word}
use Rattle.sb_meaning.specs.Terms as symbol
use Rattle.sb_meaning.specs.Sorts.{sort_of}
use Rattle.sb_script.specs.Names.{Name, is_name, is_reserved, begins_term}
use Rattle.sb_script.specs.Brought.{numerals, lets, is_brought, is_brought_symbol}
use Rattle.sb_script.specs.Scopes.{Named, Naming, a_constant, a_definition, a_marked_name, a_term, named}
use Rattle.sb_script.specs.Symbols.{symbols_of_theories, symbol_named, is_indexed, is_left_out}
use Rattle.sb_script.specs.Faults.{Fault, unknown_symbol, bad_index, unsupported, numeral_too_large, malformed, already_bound}
use Rattle.sb_word.specs.LiteralWords.{character_of}
use Rattle.sb_script.specs.Texts.{read_text, read_numeral}
use Rattle.sb_script.specs.Heads.{Head, head_constant, head_symbol, head_definition, head_term, head_of, head_of_theory, indices_of, are_small_indices, symbol_with, if_small_indices, with_indices, hexadecimal_digits, character_word, without_indices, judged, made, with_arguments, unless, judged_definition, read_head, applied_to, read_indexed}
use Rattle.sb_script.specs.Reading.{◌>>=◌, read_name, read_index_list, read_reserved, is_let, first_again, names_in, once, read, read_list, read_all, read_list_head, read_let, read_bindings}
use Rattle.sb_script.specs.ReadingLaws.{if_read, ReadingKeeps}
use Rattle.sb_script.proofs.FoundLemmas.{if_some, some_by, found_passes}

pub by_test : {A : Type 0} (p : A → Bool) (b : Bool) (x y : Result A Fault) → if_read p x ≡ true → if_read p y ≡ true
    → if_read p (if b then x else y) ≡ true
by_test p true x y h k = h
by_test p false x y h k = k

by_bind : {A B : Type 0} (p : A → Bool) (q : B → Bool) (r : Result A Fault) (f : A → Result B Fault)
    → if_read p r ≡ true → ((x : A) → p x ≡ true → if_read q (f x) ≡ true) → if_read q (r >>= f) ≡ true
by_bind p q (Ok x) f h g = g x h
by_bind p q (Err fault) f h g = refl

pub all_both : {A : Type 0} (p : A → Bool) (xs ys : List A) → list_all p xs ≡ true → list_all p ys ≡ true
    → list_all p (xs ++ ys) ≡ true
all_both p [] ys h k = k
all_both p (x ∷ xs) ys h k =
    let parts = and_parts (p x) (list_all p xs) h in
    and_from (p x) (list_all p (xs ++ ys)) parts.0 (all_both p xs ys parts.1 k)

-- A test of terms, beside one of declared constants and one of definitions: reading keeps it, whatever is brought.
pub record IsRead (test : Term → Bool) (is_declared : ℕ → Sort → Bool) (is_defined : List Sort → Term → Bool) : Type 0
  where
    pub constants : (serial : ℕ) (sort : Sort) → is_declared serial sort ≡ true → test (constant serial sort) ≡ true
    pub texts : (bytes : List ℕ) → if_read test (read_text bytes) ≡ true
    pub numbers : is_brought numerals ≡ true → (digits : List ℕ) → if_read test (read_numeral digits) ≡ true
    pub characters : (digits : List ℕ) (c : ℕ) → character_of digits ≡ Some c → test (word (c ∷ [])) ≡ true
    pub applications : (s : symbol.Symbol) (ts : List Term) → is_brought_symbol s ≡ true → list_all test ts ≡ true
        → judged s (map sort_of ts) ≡ None → test (made s ts) ≡ true
    pub definitions : (own : List Sort) (body : Term) (ts : List Term) → is_defined own body ≡ true
        → list_all test ts ≡ true → judged_definition own (map sort_of ts) ≡ None
        → test (with_arguments ts body) ≡ true

-- what a name stands for passes
abbrev pub is_fine : (Term → Bool) → (ℕ → Sort → Bool) → (List Sort → Term → Bool) → Named → Bool
is_fine test is_declared is_defined (a_constant serial sort) = is_declared serial sort
is_fine test is_declared is_defined (a_definition own body) = is_defined own body
is_fine test is_declared is_defined a_marked_name = true
is_fine test is_declared is_defined (a_term t) = test t

module _ (fine : Term → Bool) (is_declared : ℕ → Sort → Bool) (is_defined : List Sort → Term → Bool)
    (kept : IsRead fine is_declared is_defined) where
  abbrev named_fine : Named → Bool
  named_fine kind = is_fine fine is_declared is_defined kind

  abbrev naming_fine : Naming → Bool
  naming_fine n = named_fine n.1

  abbrev head_fine : Head → Bool
  head_fine (head_constant serial sort) = is_declared serial sort
  head_fine (head_symbol s) = is_brought_symbol s
  head_fine (head_definition own body) = is_defined own body
  head_fine (head_term t) = fine t

  -- Heads with their arguments.

  unless_fine : (o : Option Fault) (t : Term) → (o ≡ None → fine t ≡ true) → if_read fine (unless o t) ≡ true
  unless_fine None t h = h refl
  unless_fine (Some fault) t h = refl

  applied_fine : (head : Head) (ts : List Term) → head_fine head ≡ true → list_all fine ts ≡ true
      → if_read fine (applied_to head ts) ≡ true
  applied_fine (head_constant serial sort) [] h all = kept.constants serial sort h
  applied_fine (head_constant serial sort) (t ∷ ts) h all = refl
  applied_fine (head_symbol s) ts h all =
      unless_fine (judged s (map sort_of ts)) (made s ts) (kept.applications s ts h all)
  applied_fine (head_definition own body) ts h all =
      unless_fine (judged_definition own (map sort_of ts)) (with_arguments ts body)
      (kept.definitions own body ts h all)
  applied_fine (head_term t) [] h all = h
  applied_fine (head_term t) (u ∷ us) h all = refl

  -- Heads.

  pub found_named : (names : List Naming) (name : Name) → list_all naming_fine names ≡ true
      → if_some named_fine (named names name) ≡ true
  found_named [] name h = refl
  found_named (m ∷ ms) name h =
      let parts = and_parts (naming_fine m) (list_all naming_fine ms) h in
      some_by named_fine (is_name name m.0) (Some m.1) (named ms name) parts.0 (found_named ms name parts.1)

  named_head : (kind : Named) → named_fine kind ≡ true → if_read head_fine (head_of kind) ≡ true
  named_head (a_constant serial sort) h = h
  named_head (a_definition own body) h = h
  named_head a_marked_name h = refl
  named_head (a_term t) h = h

  theory_head : (name : Name) → if_read head_fine (head_of_theory name) ≡ true
  theory_head name = step (symbol_named name) (found_passes is_brought_symbol symbols_of_theories name)
    where
      step : (o : Option symbol.Symbol) → if_some is_brought_symbol o ≡ true → if_read head_fine (elim o as (λ _. Result Head Fault) [
        | Some s ↦ Ok (head_symbol s)
        | None ↦ if is_indexed name then Err bad_index
            else if is_left_out name then Err unsupported
            else Err (unknown_symbol name)
      ]) ≡ true
      step (Some s) h = h
      step None h =
          by_test head_fine (is_indexed name) (Err bad_index)
          (if is_left_out name then Err unsupported else Err (unknown_symbol name)) refl
          (by_test head_fine (is_left_out name) (Err unsupported) (Err (unknown_symbol name)) refl refl)

  head_read : (names : List Naming) → list_all naming_fine names ≡ true → (name : Name)
      → if_read head_fine (read_head names name) ≡ true
  head_read names fit name = step (named names name) (found_named names name fit)
    where
      step : (o : Option Named) → if_some named_fine o ≡ true → if_read head_fine
          (elim o as (λ _. Result Head Fault) [ Some kind ↦ head_of kind | None ↦ head_of_theory name ]) ≡ true
      step (Some kind) h = named_head kind h
      step None h = theory_head name

  indices_head : (name : Name) (o : Option (List ℕ)) → if_read head_fine (with_indices name o) ≡ true
  indices_head name None = refl
  indices_head name (Some ns) = step (symbol_with name ns) (symbols_with ns)
    where
      symbols_with : (ns : List ℕ) → if_some is_brought_symbol (symbol_with name ns) ≡ true
      symbols_with (n ∷ []) =
          some_by is_brought_symbol (is_name name (codes "re.^")) (Some (symbol.re_power n)) None refl refl
      symbols_with (n ∷ m ∷ []) =
          some_by is_brought_symbol (is_name name (codes "re.loop")) (Some (symbol.re_loop n m)) None refl refl
      symbols_with _ = refl

      step : (o : Option symbol.Symbol) → if_some is_brought_symbol o ≡ true → if_read head_fine
          (elim o as (λ _. Result Head Fault) [ Some s ↦ if_small_indices ns s | None ↦ Err bad_index ]) ≡ true
      step (Some s) h = by_test head_fine (are_small_indices ns) (Ok (head_symbol s)) (Err numeral_too_large) h refl
      step None h = refl

  character_head : (indices : Forms) → if_read head_fine (character_word indices) ≡ true
  character_head (more (OtherNumber bytes) none) =
      step (character_of (hexadecimal_digits bytes)) (kept.characters (hexadecimal_digits bytes))
    where
      step : (o : Option ℕ) → ((c : ℕ) → o ≡ Some c → fine (word (c ∷ [])) ≡ true) → if_read head_fine
          (elim o as (λ _. Result Head Fault)
          [ Some c ↦ Ok (head_term (word (c ∷ []))) | None ↦ Err bad_index ]) ≡ true
      step None h = refl
      step (Some c) h = h c refl
  character_head _ = refl

  unindexed_head : (name : Name) (indices : Forms) (r : Result Head Fault)
      → if_read head_fine (without_indices name indices r) ≡ true
  unindexed_head name indices (Ok head) = refl
  unindexed_head name indices (Err (unknown_symbol unknown)) =
      by_test head_fine (is_name name (codes "char"))
      (character_word indices) (Err (unknown_symbol unknown)) (character_head indices) refl
  unindexed_head name indices (Err _) = refl

  indexed_read : (names : List Naming) (name : Name) (indices : Forms)
      → if_read head_fine (read_indexed names name indices) ≡ true
  indexed_read names name indices =
      by_test head_fine (is_indexed name && is_none (named names name)) (with_indices name (indices_of indices))
      (without_indices name indices (read_head names name)) (indices_head name (indices_of indices))
      (unindexed_head name indices (read_head names name))

  name_read : (names : List Naming) → list_all naming_fine names ≡ true → (name : Name)
      → if_read fine (read_name names name) ≡ true
  name_read names fit name =
      by_bind head_fine fine (read_head names name) (λ head. applied_to head []) (head_read names fit name)
      (λ head h. applied_fine head [] h refl)

  index_list_read : (names : List Naming) (forms : Forms) → if_read head_fine (read_index_list names forms) ≡ true
  index_list_read names (more (Symbol name) (more index indices)) =
      by_test head_fine (is_reserved name) (Err malformed) (read_indexed names name (more index indices)) refl
      (indexed_read names name (more index indices))
  index_list_read names (more (QuotedSymbol name) (more index indices)) =
      indexed_read names name (more index indices)
  index_list_read names _ = refl

  list_head_read : (names : List Naming) (forms : Forms) → if_read head_fine (read_list_head names forms) ≡ true
  list_head_read names (more (Symbol name) rest) =
      by_test head_fine (is_name name (codes "_")) (read_index_list names rest) _ (index_list_read names rest)
      (by_test head_fine (is_name name (codes "as")) (Err unsupported) (Err malformed) refl refl)
  list_head_read names _ = refl

  -- Terms.

  -- a head with its arguments
  arguments_fine : (head : Result Head Fault) (arguments : Result (List Term) Fault)
      → if_read head_fine head ≡ true → if_read (list_all fine) arguments ≡ true
      → if_read fine (head >>= (λ h. arguments >>= applied_to h)) ≡ true
  arguments_fine head arguments h all =
      by_bind head_fine fine head (λ h. arguments >>= applied_to h) h
      (λ x here. by_bind (list_all fine) fine arguments (applied_to x) all
      (λ ts each. applied_fine x ts here each))

  cons_read : {A B : Type 0} (p : A → Bool) (q : B → Bool) (f : A → B) (r : Result A Fault) (rs : Result (List B) Fault)
      → ((x : A) → p x ≡ true → q (f x) ≡ true) → if_read p r ≡ true → if_read (list_all q) rs ≡ true
      → if_read (list_all q) (r >>= (λ t. rs >>= (λ ts. Ok (f t ∷ ts)))) ≡ true
  cons_read p q f (Err fault) rs k h all = refl
  cons_read p q f (Ok t) (Err fault) k h all = refl
  cons_read p q f (Ok t) (Ok ts) k h all = and_from (q (f t)) (list_all q ts) (k t h) all

  once_fine : (bound : List Naming) → list_all naming_fine bound ≡ true
      → if_read (list_all naming_fine) (once bound) ≡ true
  once_fine bound h = step (first_again [] (names_in bound))
    where
      step : (o : Option Name) → if_read (list_all naming_fine) (elim o as (λ _. Result (List Naming) Fault)
          [ Some name ↦ Err (already_bound name) | None ↦ Ok bound ]) ≡ true
      step (Some name) = refl
      step None = h

  binding_read : (name : Name) (r : Result Term Fault) (rs : Result (List Naming) Fault) → if_read fine r ≡ true
      → if_read (list_all naming_fine) rs ≡ true
      → if_read (list_all naming_fine) (r >>= (λ t. rs >>= (λ bound. Ok ((name, a_term t) ∷ bound)))) ≡ true
  binding_read name r rs h all = cons_read fine naming_fine (λ t. (name, a_term t)) r rs (λ t k. k) h all

  number_read : (b : Bool) → is_brought numerals ≡ b → (digits : List ℕ)
      → if_read fine (if b then read_numeral digits else Err unsupported) ≡ true
  number_read true brought digits = kept.numbers brought digits
  number_read false brought digits = refl

  mutual
    pub term_read : (names : List Naming) → list_all naming_fine names ≡ true → (form : Form)
        → if_read fine (read names form) ≡ true
    term_read names fit (Symbol name) =
        by_test fine (begins_term name) (Err unsupported) _ refl
        (by_test fine (is_reserved name) (Err malformed) (read_name names name) refl (name_read names fit name))
    term_read names fit (QuotedSymbol name) = name_read names fit name
    term_read names fit (Keyword name) = refl
    term_read names fit (Numeral digits) = number_read (is_brought numerals) refl digits
    term_read names fit (OtherNumber bytes) = refl
    term_read names fit (Words bytes) = kept.texts bytes
    term_read names fit (Group forms) = list_read names fit forms

    list_read : (names : List Naming) → list_all naming_fine names ≡ true → (forms : Forms)
        → if_read fine (read_list names forms) ≡ true
    list_read names fit none = refl
    list_read names fit (more head none) = refl
    list_read names fit (more (Symbol name) (more first rest)) =
        let by_head : Result Term Fault =
        read_head names name >>= (λ head. read_all names (more first rest) >>= applied_to head) in
        let unbound : Result Term Fault =
        if is_reserved name then Err (read_reserved name (more first rest)) else by_head in
        let unindexed : Result Term Fault =
        if is_brought lets && (is_name name (codes "let") && is_let (more first rest))
        then read_let names (more first rest) else unbound in
        by_test fine (is_name name (codes "_"))
        (read_index_list names (more first rest) >>= (λ head. applied_to head [])) unindexed
        (by_bind head_fine fine (read_index_list names (more first rest)) (λ head. applied_to head [])
        (index_list_read names (more first rest)) (λ head h. applied_fine head [] h refl))
        (by_test fine (is_brought lets && (is_name name (codes "let") && is_let (more first rest)))
        (read_let names (more first rest)) unbound (let_read names fit (more first rest))
        (by_test fine (is_reserved name) (Err (read_reserved name (more first rest))) by_head refl
        (arguments_fine (read_head names name) (read_all names (more first rest)) (head_read names fit name)
        (all_read names fit (more first rest)))))
    list_read names fit (more (QuotedSymbol name) (more first rest)) =
        arguments_fine (read_head names name) (read_all names (more first rest)) (head_read names fit name)
        (all_read names fit (more first rest))
    list_read names fit (more (Group list) (more first rest)) =
        arguments_fine (read_list_head names list) (read_all names (more first rest)) (list_head_read names list)
        (all_read names fit (more first rest))
    list_read names fit (more (Keyword name) (more first rest)) = refl
    list_read names fit (more (Numeral digits) (more first rest)) = refl
    list_read names fit (more (OtherNumber bytes) (more first rest)) = refl
    list_read names fit (more (Words bytes) (more first rest)) = refl

    all_read : (names : List Naming) → list_all naming_fine names ≡ true → (forms : Forms)
        → if_read (list_all fine) (read_all names forms) ≡ true
    all_read names fit none = refl
    all_read names fit (more form forms) =
        cons_read fine fine (λ t. t) (read names form) (read_all names forms) (λ t k. k) (term_read names fit form)
        (all_read names fit forms)

    let_read : (names : List Naming) → list_all naming_fine names ≡ true → (forms : Forms)
        → if_read fine (read_let names forms) ≡ true
    let_read names fit (more (Group bindings) (more body none)) =
        by_bind (list_all naming_fine) fine (read_bindings names bindings >>= once)
        (λ bound. read (bound ++ names) body)
        (by_bind (list_all naming_fine) (list_all naming_fine) (read_bindings names bindings) once
        (bindings_read names fit bindings) once_fine)
        (λ bound all. term_read (bound ++ names) (all_both naming_fine bound names all fit) body)
    let_read names fit _ = refl

    bindings_read : (names : List Naming) → list_all naming_fine names ≡ true → (forms : Forms)
        → if_read (list_all naming_fine) (read_bindings names forms) ≡ true
    bindings_read names fit none = refl
    bindings_read names fit (more (Group (more (Symbol name) (more value none))) bindings) =
        binding_read name (read names value) (read_bindings names bindings) (term_read names fit value)
        (bindings_read names fit bindings)
    bindings_read names fit (more (Group (more (QuotedSymbol name) (more value none))) bindings) =
        binding_read name (read names value) (read_bindings names bindings) (term_read names fit value)
        (bindings_read names fit bindings)
    bindings_read names fit _ = refl

  pub read_keeps : (names : List Naming) → list_all naming_fine names ≡ true → (form : Form) (t : Term)
      → read names form ≡ Ok t → fine t ≡ true
  read_keeps names fit form t h = sym (ap (if_read fine) h) ∙ term_read names fit form

-- a test over the sorts of parameters
pub reading_keeps : ReadingKeeps
reading_keeps test is_declared kept parameters = read_keeps (test parameters) is_declared test (record {
  constants = kept.constants parameters;
  texts = kept.texts parameters;
  numbers = λ brought. kept.numerals parameters;
  characters = kept.characters parameters;
  applications = λ s ts brought. kept.applications parameters s ts;
  definitions = kept.definitions parameters;
})

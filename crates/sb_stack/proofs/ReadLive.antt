-- A term that is read over the names of a scope speaks of its constants alone.
use Rattle.std.proofs.Common.{◌≡◌, ℕ, zero, suc, ◌+◌, ◌<◌, Bool, true, false, if◌then◌else◌, nat_le, List, [], ◌∷◌, ◌++◌, map, length, slice_get, unwrap_or, Result, Ok, Err, IfOk, refl, ◌∙◌}
use Rattle.std.specs.Prelude.{is_some}
use Rattle.std.specs.List.{list_all}
use Rattle.std.proofs.lemmas.Bool.{and_parts, and_from}
use Rattle.std.proofs.lemmas.List.Folds.{list_all-append}
use Rattle.sb_word.specs.LiteralWords.{word_of_literal, first_bad}
use Rattle.sb_reader.specs.Forms.{Form}
use Rattle.sb_meaning.specs.Terms.{Sort, Symbol, Term, Terms, constant, word, numeral, apply, parameter, no_terms, with_term, terms_of}
use Rattle.sb_meaning.specs.Sorts.{is_of_one}
use Rattle.sb_script.specs.Names.{Name}
use Rattle.sb_script.specs.Faults.{Fault, bad_literal, numeral_too_large}
use Rattle.sb_script.specs.Texts.{read_text, number_of}
use Rattle.sb_script.specs.Heads.{joined, made, with_arguments, each_with_arguments}
use Rattle.sb_script.specs.Reading.{read}
use Rattle.sb_script.specs.ReadingLaws.{if_read, IsKept, passes, ReadingKeeps}
use Rattle.sb_sorts.specs.declared.scope.Named.{Named}
use Rattle.sb_sorts.specs.declared.scope.Named.TheVariants as code
use Rattle.sb_script.specs.Scopes.{Naming}
use Rattle.sb_sorts.specs.declared.read.ReadFault.{ReadFault}
use Rattle.sb_sorts.specs.declared.read.Parameter.{Parameter}
use Rattle.sb_sorts.specs.Bodies.{bound_in}
use Rattle.sb_sorts.specs.Reads.{ReadsAs}
use Rattle.sb_sorts.specs.Scopes.{ScopeNames, naming_in, names_in, constants_among, serials_in, ascend_below}
use Rattle.sb_term.specs.Numbered.{term_at}
use Rattle.sb_term.specs.Symbols.{sort_in}
use Rattle.sb_stack.specs.Speaking.{is_one_of, speaks_of, speak_of}
use Rattle.sb_stack.specs.Keeping.{kind_speaks, speak_before}
use Rattle.sb_stack.proofs.Bodies.{all_bodies}
use Rattle.sb_stack.proofs.Live.{one_first, one_later, rest_ascends}

-- a test of terms that looks at no parameters
abbrev over_any : List (ℕ × Sort) → List Sort → Term → Bool
over_any ns sorts t = speaks_of ns t

by_test : {A : Type 0} (p : A → Bool) (b : Bool) (x y : Result A Fault) → if_read p x ≡ true → if_read p y ≡ true
    → if_read p (if b then x else y) ≡ true
by_test p true x y h k = h
by_test p false x y h k = k

texts_speak : (ns : List (ℕ × Sort)) (bytes : List ℕ) → if_read (speaks_of ns) (read_text bytes) ≡ true
texts_speak ns bytes =
    by_test (speaks_of ns) (is_some (first_bad bytes)) (Err bad_literal) (Ok (word (word_of_literal bytes))) refl refl

list_speaks : (ns : List (ℕ × Sort)) (ts : List Term) → list_all (speaks_of ns) ts ≡ true → speak_of ns (terms_of ts) ≡ true
list_speaks ns [] h = refl
list_speaks ns (t ∷ ts) h =
    let parts = and_parts (speaks_of ns t) (list_all (speaks_of ns) ts) h in
    and_from (speaks_of ns t) (speak_of ns (terms_of ts)) parts.0 (list_speaks ns ts parts.1)

joined_speaks : (ns : List (ℕ × Sort)) (s : Symbol) (ts : List Term) → list_all (speaks_of ns) ts ≡ true
    → speaks_of ns (joined s ts) ≡ true
joined_speaks ns s [] h = refl
joined_speaks ns s (t ∷ []) h = (and_parts (speaks_of ns t) true h).0
joined_speaks ns s (t ∷ u ∷ ts) h = list_speaks ns (t ∷ u ∷ ts) h

made_speaks : (ns : List (ℕ × Sort)) (s : Symbol) (ts : List Term) → list_all (speaks_of ns) ts ≡ true
    → speaks_of ns (made s ts) ≡ true
made_speaks ns s ts h = step (is_of_one s)
  where
    step : (b : Bool) → speaks_of ns (if b then joined s ts else apply s (terms_of ts)) ≡ true
    step true = joined_speaks ns s ts h
    step false = list_speaks ns ts h

argument_speaks : (ns : List (ℕ × Sort)) (ts : List Term) (place : ℕ) (other : Term) → list_all (speaks_of ns) ts ≡ true
    → speaks_of ns other ≡ true → speaks_of ns (unwrap_or (slice_get ts place) other) ≡ true
argument_speaks ns [] place other h k = k
argument_speaks ns (t ∷ ts) zero other h k = (and_parts (speaks_of ns t) (list_all (speaks_of ns) ts) h).0
argument_speaks ns (t ∷ ts) (suc place) other h k =
    argument_speaks ns ts place other (and_parts (speaks_of ns t) (list_all (speaks_of ns) ts) h).1 k

mutual
  body_speaks : (ns : List (ℕ × Sort)) (ts : List Term) → list_all (speaks_of ns) ts ≡ true → (body : Term)
      → speaks_of ns body ≡ true → speaks_of ns (with_arguments ts body) ≡ true
  body_speaks ns ts all (constant serial sort) h = h
  body_speaks ns ts all (word w) h = refl
  body_speaks ns ts all (numeral n) h = refl
  body_speaks ns ts all (apply s terms) h = each_speaks ns ts all terms h
  body_speaks ns ts all (parameter place sort) h = argument_speaks ns ts place (parameter place sort) all refl

  each_speaks : (ns : List (ℕ × Sort)) (ts : List Term) → list_all (speaks_of ns) ts ≡ true → (terms : Terms)
      → speak_of ns terms ≡ true → speak_of ns (each_with_arguments ts terms) ≡ true
  each_speaks ns ts all no_terms h = refl
  each_speaks ns ts all (with_term t terms) h =
      let parts = and_parts (speaks_of ns t) (speak_of ns terms) h in
      and_from (speaks_of ns (with_arguments ts t)) (speak_of ns (each_with_arguments ts terms))
      (body_speaks ns ts all t parts.0) (each_speaks ns ts all terms parts.1)

speaking_is_kept : (ns : List (ℕ × Sort)) → IsKept (over_any ns) (is_one_of ns)
speaking_is_kept ns = record {
  constants = λ parameters serial sort h. h;
  texts = λ parameters bytes. texts_speak ns bytes;
  numerals = λ parameters digits.
      by_test (speaks_of ns) (nat_le (number_of digits) 0x7fffffff) (Ok (numeral (number_of digits)))
      (Err numeral_too_large) refl refl;
  characters = λ parameters digits c h. refl;
  applications = λ parameters s ts all taken. made_speaks ns s ts all;
  definitions = λ parameters own body ts h all taken. body_speaks ns ts all body h;
}

-- the names of a scope stand for its constants, beside others, and for bodies that speak of them
all_pass : (from bound : ℕ) (ns : List (Name × Named)) (cs : List (ℕ × Sort)) (table : List Term)
    → ascend_below from bound (serials_in ns) ≡ true
    → ((n : ℕ) (sort : Sort) → is_one_of (constants_among ns) n sort ≡ true → is_one_of cs n sort ≡ true)
    → list_all (λ n. kind_speaks cs table n.1) ns ≡ true
    → list_all (λ n. passes (over_any cs) (is_one_of cs) [] n.1) (map (naming_in table) ns) ≡ true
all_pass from bound [] cs table h more bodies = refl
all_pass from bound ((name, code.Constant serial sort) ∷ ns) cs table h more bodies =
    and_from (is_one_of cs serial.0 (sort_in sort)) _
    (more serial.0 (sort_in sort) (one_first serial.0 (sort_in sort) (constants_among ns)))
    (all_pass (serial.0 + 1) bound ns cs table (rest_ascends from bound serial.0 (serials_in ns) h)
    (λ n k one. more n k (one_later from bound serial.0 (sort_in sort) (constants_among ns) n k h one)) bodies)
all_pass from bound ((name, code.Definition d) ∷ ns) cs table h more bodies =
    let parts = and_parts (speaks_of cs (term_at table d.body))
    (list_all (λ (n : Name × Named). kind_speaks cs table n.1) ns) bodies in
    and_from (speaks_of cs (term_at table d.body)) _ parts.0 (all_pass from bound ns cs table h more parts.1)
all_pass from bound ((name, code.Marked) ∷ ns) cs table h more bodies =
    all_pass from bound ns cs table h more bodies

-- a parameter speaks of nothing
parameters_pass : (place : ℕ) (ps : List Parameter) (cs : List (ℕ × Sort))
    → list_all (λ n. passes (over_any cs) (is_one_of cs) [] n.1) (bound_in place ps) ≡ true
parameters_pass place [] cs = refl
parameters_pass place (p ∷ ps) cs = parameters_pass (place + 1) ps cs

pub read_speaks : ReadingKeeps → (bound : ℕ) (ns : List (Name × Named)) (table : List Term) (ps : List Parameter)
    (form : Form) (t : Term) → ascend_below 0 bound (serials_in ns) ≡ true → speak_before [] ns table ≡ true
    → read (bound_in 0 ps ++ map (naming_in table) ns) form ≡ Ok t → speaks_of (constants_among ns) t ≡ true
read_speaks keeps bound ns table ps form t h bodies is =
    let cs : List (ℕ × Sort) = constants_among ns in
    keeps (over_any cs) (is_one_of cs) (speaking_is_kept cs) [] (bound_in 0 ps ++ map (naming_in table) ns)
    (list_all-append (λ (n : Naming). passes (over_any cs) (is_one_of cs) [] n.1) (bound_in 0 ps)
    (map (naming_in table) ns)
    ∙ and_from _ _ (parameters_pass 0 ps cs)
    (all_pass 0 bound ns cs table h (λ n sort one. one) (all_bodies ns table bodies))) form t is

-- the number of a term that was read stands for one that speaks of live constants
pub read_stands : ReadingKeeps → (bound : ℕ) (scope : ScopeNames) (table new : List Term) (ps : List Parameter)
    (form : Form) (r : Result ℕ ReadFault) → ascend_below 0 bound (serials_in scope.names) ≡ true
    → speak_before [] scope.names table ≡ true → ReadsAs new (read (bound_in 0 ps ++ names_in table scope) form) r
    → IfOk r (λ id. (id < length new) × (speaks_of (constants_among scope.names) (term_at new id) ≡ true))
read_stands keeps bound scope table new ps form (Ok id) ascend bodies h =
    (h.1, read_speaks keeps bound scope.names table ps form (term_at new id) ascend bodies h.0)
read_stands keeps bound scope table new ps form (Err fault) ascend bodies h = tt

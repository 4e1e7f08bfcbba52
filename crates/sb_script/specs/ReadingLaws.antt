-- What holds of each term that is read, where it holds of what the names in force stand for.
use Rattle.std.specs.Prelude.{◌≡◌, ℕ, Bool, true, List, [], ◌∷◌, map, Some, None, Result, Ok, Err}
use Rattle.std.specs.List.{list_all}
use Rattle.sb_reader.specs.Forms.{Form}
use Rattle.sb_meaning.specs.Terms.{Sort, Symbol, Term, constant, word}
use Rattle.sb_meaning.specs.Sorts.{sort_of}
use Rattle.sb_script.specs.Scopes.{Named, Naming, a_constant, a_definition, a_marked_name, a_term}
use Rattle.sb_script.specs.Faults.{Fault}
use Rattle.sb_word.specs.LiteralWords.{character_of}
use Rattle.sb_script.specs.Texts.{read_text, read_numeral}
use Rattle.sb_script.specs.Heads.{judged, judged_definition, made, with_arguments}
use Rattle.sb_script.specs.Reading.{read}
use Rattle.sb_script.specs.WellSorted.{is_well_sorted_over}

-- what is read passes the test
abbrev pub if_read : {A : Type 0} → (A → Bool) → Result A Fault → Bool
if_read test (Ok x) = test x
if_read test (Err fault) = true

-- A test of terms whose parameters are of some sorts, beside one of declared constants: reading keeps it.
pub record IsKept (test : List Sort → Term → Bool) (is_declared : ℕ → Sort → Bool) : Type 0 where
  pub constants : (parameters : List Sort) (serial : ℕ) (sort : Sort) → is_declared serial sort ≡ true
      → test parameters (constant serial sort) ≡ true
  pub texts : (parameters : List Sort) (bytes : List ℕ) → if_read (test parameters) (read_text bytes) ≡ true
  pub numerals : (parameters : List Sort) (digits : List ℕ) → if_read (test parameters) (read_numeral digits) ≡ true
  pub characters : (parameters : List Sort) (digits : List ℕ) (c : ℕ) → character_of digits ≡ Some c
      → test parameters (word (c ∷ [])) ≡ true
  pub applications : (parameters : List Sort) (s : Symbol) (ts : List Term) → list_all (test parameters) ts ≡ true
      → judged s (map sort_of ts) ≡ None → test parameters (made s ts) ≡ true
  -- a body, over the sorts of the definition's own parameters, with arguments
  pub definitions : (parameters own : List Sort) (body : Term) (ts : List Term) → test own body ≡ true
      → list_all (test parameters) ts ≡ true → judged_definition own (map sort_of ts) ≡ None
      → test parameters (with_arguments ts body) ≡ true

-- what a name stands for passes
abbrev pub passes : (List Sort → Term → Bool) → (ℕ → Sort → Bool) → List Sort → Named → Bool
passes test is_declared parameters (a_constant serial sort) = is_declared serial sort
passes test is_declared parameters (a_definition own body) = test own body
passes test is_declared parameters a_marked_name = true
passes test is_declared parameters (a_term t) = test parameters t

abbrev pub ReadingKeeps : Type 0
ReadingKeeps = (test : List Sort → Term → Bool) (is_declared : ℕ → Sort → Bool) → IsKept test is_declared
    → (parameters : List Sort) (names : List Naming)
    → list_all (λ n. passes test is_declared parameters n.1) names ≡ true → (form : Form) (t : Term)
    → read names form ≡ Ok t → test parameters t ≡ true

-- what a name stands for is well sorted
abbrev pub is_sorted_naming : List Sort → Naming → Bool
is_sorted_naming parameters n = passes is_well_sorted_over (λ serial sort. true) parameters n.1

abbrev pub ReadIsWellSorted : Type 0
ReadIsWellSorted = (parameters : List Sort) (names : List Naming)
    → list_all (is_sorted_naming parameters) names ≡ true → (form : Form) (t : Term) → read names form ≡ Ok t
    → is_well_sorted_over parameters t ≡ true

-- Private: values as words and truth values, and what of the last model holds under others.
use Rattle.std.specs.Prelude.{◌≡◌, ◌&&◌, ◌==◌, ℕ, ◌<◌, Bool, true, false, if◌then◌else◌, List, [], ◌∷◌, length, map, slice_get, Option, Some, None}
use Rattle.std.specs.HashSet.{HashSet, contains}
use Rattle.std.specs.List.{list_all}
use Rattle.sb_word.specs.Words.{are_characters}
use Rattle.sb_meaning.specs.Terms.{Sort, Term, boolean, integer, text, reglan}
use Rattle.sb_meaning.specs.Values.{Value, Valuation, Text, Int, Truth}
use Rattle.sb_meaning.specs.Truth.{holds}
use Rattle.sb_script.specs.Brought.{asked}
use Rattle.sb_script.specs.State.{Assertion, asserted, Assumption}
use Rattle.sb_rulebook.specs.Verdicts.{is_same_truth, assumption_holds}
use Rattle.sb_atoms.specs.Given.{GivesValues}
use Rattle.sb_stack.specs.declared.constant.LiveConstant.{LiveConstant}
use Rattle.sb_proof.specs.declared.line.Value as code
use Rattle.sb_proof.specs.Lines.{value_in as read}
use Rattle.sb_models.specs.Knowing.{word_at, truth_at, is_true_under}

-- the numbers, or one of them is no character
abbrev pub are_codes : List ℕ → Option (List ℕ) → Type 0
are_codes numbers (Some codes) = codes ≡ numbers
are_codes numbers None = are_characters numbers ≡ false

abbrev pub word_in : List ℕ → Option (List ℕ)
word_in w = if are_characters w then Some w else None

-- the numbers of a value, none where it is no text
abbrev pub text_in : Value → List ℕ
text_in (Text w) = w
text_in (Int n) = []
text_in (Truth b) = []

-- the truth value of a value, false where it is none
abbrev pub truth_in : Value → Bool
truth_in (Truth b) = b
truth_in (Int n) = false
truth_in (Text w) = false

-- the value is a word; one that is no text has the empty one
abbrev pub is_word : Value → Bool
is_word x = are_characters (text_in x)

-- the value is of the kind that constants of the sort have
abbrev pub is_kind : Sort → Value → Bool
is_kind boolean (Truth b) = true
is_kind integer (Int n) = true
is_kind text (Text w) = true
is_kind reglan (Text w) = true
is_kind _ _ = false

-- and so are the values, one of each constant
abbrev pub are_kinds : List (ℕ × Sort) → List Value → Bool
are_kinds [] [] = true
are_kinds (c ∷ cs) (x ∷ xs) = is_kind c.1 x && are_kinds cs xs
are_kinds _ _ = false

abbrev pub texts_in : List code.Value → List (List ℕ)
texts_in values = map (λ v. text_in (read v)) values

abbrev pub truths_in : List code.Value → List Bool
truths_in values = map (λ v. truth_in (read v)) values

-- the word is that of these numbers
abbrev pub IsWordOf : List ℕ → List ℕ → Type 0
IsWordOf word numbers = (word ≡ numbers) × (are_characters numbers ≡ true)

abbrev pub IsConstantAt : List LiveConstant → ℕ → LiveConstant → Type 0
IsConstantAt constants place c = slice_get constants place ≡ Some c

-- What constants are given, one of each in order. The first of a serial counts, and another serial has this.
abbrev pub one_given : {X : Type 0} → List LiveConstant → List X → ℕ → X → X
one_given [] xs serial other = other
one_given (c ∷ constants) [] serial other = other
one_given (c ∷ constants) (x ∷ xs) serial other =
    if c.serial.0 == serial then x else one_given constants xs serial other

abbrev pub word_given : List LiveConstant → List (List ℕ) → ℕ → List ℕ → List ℕ
word_given constants words serial other = one_given constants words serial other

-- the values of constants, by serial
abbrev pub given : List (ℕ × Sort) → List Value → Valuation
given [] xs = []
given (d ∷ ds) [] = []
given (d ∷ ds) (x ∷ xs) = (d.0, x) ∷ given ds xs

-- the values are words where they are texts, and make the assertions and the assumptions true
abbrev pub are_tried : List (ℕ × Sort) → List Value → List Assertion → List Assumption → Bool
are_tried ds xs assertions assumptions = list_all is_word xs
    && (list_all (is_true_under (given ds xs)) assertions && list_all (assumption_holds (given ds xs)) assumptions)

-- the assumption is true where constants have these truth values, by serial
abbrev pub is_assumed : List Bool → Assumption → Bool
is_assumed truths a = is_same_truth (truth_at truths a.0) a.1

-- the serials that the set has
abbrev pub marks_of : {S : Type 0} → HashSet ℕ S → ℕ → Bool
marks_of marks serial = contains (λ a b. a == b) marks serial

abbrev pub also_marked : (ℕ → Bool) → ℕ → ℕ → Bool
also_marked marks one serial = if one == serial then true else marks serial

-- a serial that is not marked has the same word
abbrev pub AreSame : List (List ℕ) → List (List ℕ) → (ℕ → Bool) → Type 0
AreSame old new marks = (serial : ℕ) → marks serial ≡ false → word_at old serial ≡ word_at new serial

-- a serial that is not marked now was not before, and has the same word
abbrev pub Changes : List (List ℕ) → (ℕ → Bool) → List (List ℕ) → (ℕ → Bool) → Type 0
Changes old marks new marks' = (serial : ℕ) → marks' serial ≡ false
    → (marks serial ≡ false) × (word_at old serial ≡ word_at new serial)

-- it stands at the serial, and others stay
abbrev pub IsPutAt : {X : Type 0} → ℕ → X → (ℕ → X) → (ℕ → X) → Type 0
IsPutAt place x old new = (serial : ℕ) → new serial ≡ (if place == serial then x else old serial)

abbrev pub IsPut : ℕ → List ℕ → List (List ℕ) → List (List ℕ) → Type 0
IsPut place w old new = IsPutAt place w (word_at old) (word_at new)

abbrev pub IsTruthPut : ℕ → Bool → List Bool → List Bool → Type 0
IsTruthPut place b old new = IsPutAt place b (truth_at old) (truth_at new)

-- all words stay, and there is one at the place
abbrev pub HasWordAt : ℕ → List (List ℕ) → List (List ℕ) → Type 0
HasWordAt place old new = (place < length new) × ((serial : ℕ) → word_at new serial ≡ word_at old serial)

-- all truth values stay, and there is one at the place
abbrev pub HasTruthAt : ℕ → List Bool → List Bool → Type 0
HasTruthAt place old new = (place < length new) × ((serial : ℕ) → truth_at new serial ≡ truth_at old serial)

-- the term asks something of the word of one constant alone, whose serial is not marked
pub record IsOfSame (marks : ℕ → Bool) (t : Term) : Type 0 where
  pub serial : ℕ
  pub regex : Term
  pub is : asked t ≡ Some (serial, regex)
  pub same : marks serial ≡ false

-- what stands at such a place, and is of a constant with the same word, is true where the constants have these words
abbrev pub MayPass : List (List ℕ) → List Bool → (ℕ → Bool) → ℕ → List Assertion → Type 0
MayPass words truths marks held assertions = (place : ℕ) (t : Term) → place < held
    → slice_get assertions place ≡ Some (asserted t) → IsOfSame marks t → (v : Valuation)
    → GivesValues words truths v t → holds t v ≡ true

-- What is known of a script's live assertions from one check to the next.
use Rattle.std.specs.Prelude.{◌≡◌, ◌==◌, ℕ, ◌≤◌, Bool, true, false, List, [], ◌∷◌, take, map, slice_get, unwrap_or}
use Rattle.std.specs.List.{list_all, list_any}
use Rattle.sb_meaning.specs.Values.{Valuation}
use Rattle.sb_meaning.specs.Truth.{holds}
use Rattle.sb_script.specs.State.{Assertion, asserted, a_mark}
use Rattle.sb_rulebook.specs.Accepted.{term_of}
use Rattle.sb_rulebook.specs.Verdicts.{assertion_holds}
use Rattle.sb_fragment.specs.Inside.{AreInside}
use Rattle.sb_atoms.specs.Given.{GivesValues}
use Rattle.sb_stack.specs.declared.constant.LiveConstant.{LiveConstant}
use Rattle.sb_stack.specs.Stacked.{Stacked, assertion_in}
use Rattle.sb_models.specs.declared.models.Models.{Models}

-- the assertion is true under the values, and no mark
abbrev pub is_true_under : Valuation → Assertion → Bool
is_true_under v a = assertion_holds v (term_of a)

-- the values give the constants in them these words and truth values, by serial
abbrev pub GiveAll : List (List ℕ) → List Bool → Valuation → List Assertion → Type 0
GiveAll words truths v [] = Unit {0}
GiveAll words truths v (asserted t ∷ rest) = GivesValues words truths v t × GiveAll words truths v rest
GiveAll words truths v (a_mark ∷ rest) = GiveAll words truths v rest

-- each of them is true where its constants have these words and truth values, and none is a mark
abbrev pub AreTrueBy : List (List ℕ) → List Bool → List Assertion → Type 0
AreTrueBy words truths [] = Unit {0}
AreTrueBy words truths (asserted t ∷ rest) =
    ((v : Valuation) → GivesValues words truths v t → holds t v ≡ true) × AreTrueBy words truths rest
AreTrueBy words truths (a_mark ∷ rest) = ⊥

-- the test is that of whether all of them are true where their constants have these words and truth values
abbrev pub IsTruthBy : List (List ℕ) → List Bool → List Assertion → Bool → Type 0
IsTruthBy words truths assertions true = AreTrueBy words truths assertions
IsTruthBy words truths assertions false =
    (v : Valuation) → GiveAll words truths v assertions → list_all (is_true_under v) assertions ≡ false

-- the live assertions, by the table of their terms
abbrev pub assertions_of : Stacked → List Assertion
assertions_of stack = map (assertion_in stack.table) stack.assertions

-- the word at a serial, the empty one past the last
abbrev pub word_at : List (List ℕ) → ℕ → List ℕ
word_at words serial = unwrap_or (slice_get words serial) []

-- the truth value at a serial, false past the last
abbrev pub truth_at : List Bool → ℕ → Bool
truth_at truths serial = unwrap_or (slice_get truths serial) false

abbrev pub is_serial_of : List LiveConstant → ℕ → Bool
is_serial_of constants serial = list_any (λ c. c.serial.0 == serial) constants

-- what is no serial of these constants has the empty word
abbrev pub AreEmptyBut : List LiveConstant → List (List ℕ) → Type 0
AreEmptyBut constants words = (serial : ℕ) → is_serial_of constants serial ≡ false → word_at words serial ≡ []

-- So many assertions, from the first on, are decided ones, and so many are true under the words and truth values.
pub record Knows (m : Models) (stack : Stacked) : Type 0 where
  pub inside : AreInside m.fragment.inside stack.table stack.assertions
  pub held_front : m.held ≤ m.fragment.inside
  pub held : AreTrueBy m.words.items m.truths.items (take m.held (assertions_of stack))
  pub empty : AreEmptyBut m.constants.items m.words.items

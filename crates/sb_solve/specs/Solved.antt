-- What a check comes to.
use Rattle.std.specs.Prelude.{◌≡◌, ◌⊎◌, ℕ, Bool, true, List, slice_get, Option, Some, option_map, Contains}
use Rattle.sb_solve.specs.Words.{AllKept, AreTerms, Asserted, Backing, Backs, Memo, Regex, Spending, Stacked, Term, are_words, asked_in, asserted, asserted_at, holds, live, live_constants, state_of, values_at}
use Rattle.sb_script.specs.Models.{occurs}
use Rattle.sb_solve.specs.Assumed.{IsRefuting, make_true}
use Rattle.sb_solve.specs.Values.{truth_in, word_in, word_or_empty, word_there, are_words_there}
use Rattle.sb_solve.specs.declared.check.Solved.{Solved}
use Rattle.sb_solve.specs.declared.check.Solved.TheVariants as solved

abbrev pub level_at : List (Option Term × ℕ) → ℕ → Option ℕ
level_at live place = option_map (λ a. a.1) (slice_get live place)

-- each known clause of an assertion was known before, or is of the level of the live assertion at its place
abbrev pub AreOfLevels : List (Option Term × ℕ) → List (Option Asserted) → List (Option Asserted) → Type 0
AreOfLevels live old new = (place : ℕ) (a : Asserted) → asserted_at new place ≡ Some a
    → (asserted_at old place ≡ Some a) ⊎ (level_at live place ≡ Some a.level)

-- the constant occurs in the live assertion at one of these places
pub record OccursAt (s : Stacked) (places : List ℕ) (serial : ℕ) : Type 0 where
  pub place : ℕ
  pub term : Term
  pub listed : Contains places place
  pub stands : slice_get (live (state_of s)) place ≡ Some (asserted term)
  pub there : occurs serial term ≡ true

-- The live assertions at these places are true of all words and truth values that are these for each constant that
-- occurs in one of them; a constant without a word here has the empty one.
abbrev pub AreTrueAt : Stacked → List ℕ → List (Option (List ℕ)) → List Bool → Type 0
AreTrueAt s places words truths = (full : List (List ℕ)) (others : List Bool) → are_words full ≡ true
    → ((serial : ℕ) → OccursAt s places serial → (word_in full serial ≡ word_or_empty (word_there words serial))
    × (truth_in others serial ≡ truth_in truths serial))
    → (place : ℕ) (t : Term) → Contains places place → slice_get (live (state_of s)) place ≡ Some (asserted t)
    → holds t (values_at (live_constants s) full others) ≡ true

-- So are they, and the truth values make the assumptions true.
abbrev pub AreTrueUnder : Stacked → List ℕ → List (Option (List ℕ)) → List Bool → Type 0
AreTrueUnder s places words truths = AreTrueAt s places words truths × (make_true truths s.assumptions ≡ true)

-- The words are words of characters. Where a reader of the proof kept what the evidence knew before, and the live
-- assertions fit the sorts of constants, those at these places, and the assumptions, are true of the words and truth
-- values.
pub record IsValued (s : Stacked) (places : List ℕ) (rs : List Regex) (memo : Memo) (e : Backing)
    (words : List (Option (List ℕ))) (truths : List Bool) : Type 0
  where
    pub characters : are_words_there words ≡ true
    pub given : (before : AllKept) → Backs rs memo e before → AreTerms (asked_in (state_of s))
        → AreTrueUnder s places words truths

-- What an answer about the assertions at some places and the assumptions says, over what was known before it and what
-- is known then: there are values; the number is that of a clause that denies assumptions alone; all is spent.
abbrev pub IsSolved : Stacked → List ℕ → List Regex → Memo → Backing → Backing → Spending → Solved → Type 0
IsSolved s places rs memo e f budget (solved.Sat words truths) = IsValued s places rs memo e words.items truths.items
IsSolved s places rs memo e f budget (solved.Unsat id) = IsRefuting s.assumptions f.atoms f.kept id.0
IsSolved s places rs memo e f budget solved.Spent = budget.spent ≡ budget.limit

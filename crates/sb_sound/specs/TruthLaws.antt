-- What an accepted proof of a script means, in the words of scripts.
use Rattle.std.specs.Prelude.{◌≡◌, ℕ, true, false, not, List, [], ◌∷◌, ◌++◌, map, slice_get, Option, Some, None, Ok}
use Rattle.std.specs.List.{list_all}
use Rattle.sb_lit.specs.Kept.{KeptClause, kept_at}
use Rattle.sb_meaning.specs.Terms.{Term}
use Rattle.sb_meaning.specs.Values.{Value, Valuation}
use Rattle.sb_meaning.specs.Truth.{all_hold}
use Rattle.sb_reader.specs.Entries.{Entry}
use Rattle.sb_script.specs.State as state
use Rattle.sb_script.specs.State.{State, Assertion, asserted, a_mark, Assumption, assumed, live, constants_of, fits, is_model, Satisfiable}
use Rattle.sb_script.specs.Fragment.{in_fragment}
use Rattle.sb_script.specs.Verdicts.{IsCore}
use Rattle.sb_script.specs.Steps.{Step, answers, leaves, checks, exits}
use Rattle.sb_script.specs.Replies.{step_of}
use Rattle.sb_rulebook.specs.Lines.{verdict_line, Said, said_sat, said_unsat, said_unknown, said_unsupported}
use Rattle.sb_rulebook.specs.Reading.{LineText, texts_of, read}
use Rattle.sb_rulebook.specs.Kept.{AllKept, most_counted}
use Rattle.sb_rulebook.specs.Verdicts.{denied_by, valued}
use Rattle.sb_rulebook.specs.Judging.{asks, Progress, beginning, meets, accepted}
use Rattle.sb_rulebook.specs.JudgingTexts.{through, judged}
use Rattle.sb_rulebook.specs.Accepted.{asked_in, question_in, event_of_leaving, events}
use Rattle.sb_sound.specs.AcceptedLaws.{is_verdict_read, counted_among}

-- the terms of the live assertions at these places
abbrev pub terms_at : List Assertion → List ℕ → List Term
terms_at assertions [] = []
terms_at assertions (place ∷ places) = elim (slice_get assertions place) [
  | Some (asserted t) ↦ t ∷ terms_at assertions places
  | Some a_mark ↦ terms_at assertions places
  | None ↦ terms_at assertions places
]

-- no values of the live constants make the assumptions true, and the live assertions at these places
abbrev pub AreContradictory : State → List ℕ → List Assumption → Type 0
AreContradictory s places named =
    (v : Valuation) → fits (constants_of s) v ≡ true
    → all_hold (map assumed named ++ terms_at (live s) places) v ≡ true → ⊥

-- `unsat`: no values of the live constants make all live assertions and all assumptions true
pub record IsTrueUnsat (s : State) (given : List Assumption) (kept : AllKept) (id : ℕ) (places : Option (List ℕ))
    : Type 0
  where
    pub inside : in_fragment s ≡ true
    pub all : Satisfiable s given → ⊥
    -- nor all live assertions and those assumptions alone that the named clause denies, of those that the proof keeps
    pub clause : KeptClause
    pub there : kept_at kept.clauses id ≡ Some clause
    pub core : IsCore s given (denied_by (question_in s given) kept clause)
    -- nor these and the assertions that are listed, where any are
    pub rests : (listed : List ℕ) → places ≡ Some listed
        → AreContradictory s listed (denied_by (question_in s given) kept clause)

-- `sat`: the values of the line are of the live constants, and make all live assertions and all assumptions true
pub record IsTrueSat (s : State) (given : List Assumption) (values : List Value) : Type 0 where
  pub inside : in_fragment s ≡ true
  pub valuation : Valuation
  pub of_constants : valued (constants_of s) values ≡ Some valuation
  pub model : is_model s given valuation ≡ true

-- `unknown`: the number is the limit in force, and so many of the lines that came for the check are counted
pub record IsTrueUnknown (s : State) (lines : List LineText) (n : ℕ) : Type 0 where
  pub inside : in_fragment s ≡ true
  pub limit : n ≡ most_counted (asked_in s)
  pub counted : counted_among lines ≡ n

-- what is said of a check is true of the state and the assumptions under which it stands, by what the proof keeps
abbrev pub IsTrueOf : State → List Assumption → AllKept → List LineText → Said → Type 0
IsTrueOf s given kept lines (said_unsat id places) = IsTrueUnsat s given kept id places
IsTrueOf s given kept lines (said_sat values) = IsTrueSat s given values
IsTrueOf s given kept lines (said_unknown n) = IsTrueUnknown s lines n
IsTrueOf s given kept lines said_unsupported = in_fragment s ≡ false

-- A check is answered by the first verdict line among those that came, which take the proof from how far it had come,
-- and what it says is true; then the rest.
pub record IsAnsweredSo (s : State) (given : List Assumption) (before : Progress) (came : List LineText) (said : Said)
    (Rest : Progress → List LineText → Type 0) : Type 0
  where
    pub lines : List LineText
    pub verdict : LineText
    pub left : List LineText
    pub whole : came ≡ lines ++ verdict ∷ left
    pub no_verdicts : list_all (λ text. not (is_verdict_read (read text))) lines ≡ true
    pub is_verdict : read verdict ≡ Ok (verdict_line said)
    pub after : Progress
    pub run : through (meets (asks (question_in s given)) before) came ≡ (after, left)
    pub so : IsTrueOf s given after.kept lines said
    pub rest : Rest after left

-- each check takes the next verdict, other steps take none, and behind the end of the run there is none
abbrev pub AreTrueBehind : Step → State → Progress → (State → Progress → List LineText → List Said → Type 0)
    → List LineText → List Said → Type 0
AreTrueBehind (answers text new) s p Rest came verdicts = Rest new p came verdicts
AreTrueBehind (leaves what text new) s p Rest came verdicts = Rest new (meets (event_of_leaving what) p) came verdicts
AreTrueBehind (checks given) s p Rest came [] = ⊥
AreTrueBehind (checks given) s p Rest came (said ∷ verdicts) =
    IsAnsweredSo s given p came said (λ after left. Rest s after left verdicts)
AreTrueBehind (exits text) s p Rest came verdicts = verdicts ≡ []

-- The verdicts are those of the checks of a script that goes on from this state, and of a proof that had come so far,
-- in order, and each is true where its check stands. The lines up to a verdict came for its check.
abbrev pub AreTrue : State → Progress → List Entry → List LineText → List Said → Type 0
AreTrue s p [] came verdicts = verdicts ≡ []
AreTrue s p (entry ∷ entries) came verdicts =
    AreTrueBehind (step_of entry s) s p (λ next after left rest. AreTrue next after entries left rest) came verdicts

-- an accepted proof of a script
abbrev pub AcceptedScriptIsTrue : Type 0
AcceptedScriptIsTrue = (entries : List Entry) (bytes : List ℕ) (verdicts : List Said)
    → judged (events state.start entries) bytes ≡ accepted verdicts
    → AreTrue state.start beginning entries (texts_of bytes) verdicts

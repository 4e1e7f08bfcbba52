-- Private: what a search is asked about, what a check comes to, and what the lines that are put for it say.
use Rattle.std.specs.Prelude.{◌≡◌, ℕ, ◌<◌, ◌^◌, ◌-◌, ◌==◌, Bool, true, false, ◌&&◌, ◌||◌, List, map, Option, None, IsSome}
use Rattle.std.specs.List.{list_all, list_any}
use Rattle.sb_lit.specs.Budgets.{Spending}
use Rattle.sb_lang.specs.Regex.{Regex}
use Rattle.sb_script.specs.Fragment.{in_fragment}
use Rattle.sb_script.specs.Models.{IsGiven}
use Rattle.sb_script.specs.State.{Assumption, constants_of, fits}
use Rattle.sb_rulebook.specs.Lines.{Said, said_sat, said_unsat, said_unknown, said_unsupported}
use Rattle.sb_rulebook.specs.Kept.{AllKept}
use Rattle.sb_rulebook.specs.Accepted.{asked_in}
use Rattle.sb_rulebook.specs.Verdicts.{assumption_holds}
use Rattle.sb_atoms.specs.Numbered.{atoms_in}
use Rattle.sb_stack.specs.Stacked.{Stacked, given_in, state_of, live_constants, values_at}
use Rattle.sb_stack.specs.declared.verdict.Verdict.{Verdict}
use Rattle.sb_stack.specs.declared.verdict.Verdict.TheVariants as verdict
use Rattle.sb_store.specs.declared.store.Store.{Store}
use Rattle.sb_trace.specs.Putting.{Puts}
use Rattle.sb_refute.specs.Assuming.{literals_at}
use Rattle.sb_refute.specs.Backing.{Backing, Backs}
use Rattle.sb_solve.specs.declared.check.Solved.{Solved}
use Rattle.sb_solve.specs.declared.check.Solved.TheVariants as solved
use Rattle.sb_prover.specs.declared.checking.Solution.{Solution}
use Rattle.sb_prover.specs.declared.checking.Solution.TheVariants as solution
use Rattle.sb_solve.specs.Assumed.{IsRefuting, denied_in}
use Rattle.sb_solve.specs.Solved.{IsValued}
use Rattle.sb_solve.specs.Values.{truth_in}
use Rattle.sb_decide.specs.declared.decide.Decider.{Decider}
use Rattle.sb_decide.specs.declared.decide.Decided.{Decided}
use Rattle.sb_decide.specs.declared.decide.Decided.TheVariants as decided
use Rattle.sb_decide.specs.Conjoined.{is_listed}
use Rattle.sb_term.specs.declared.term.Serial.{Serial}
use Rattle.sb_decide.specs.Ready.{IsReady, IsClash, IsQuestion, IsClosed}
use Rattle.sb_prover.specs.Saying.{said_value}

-- a constant has no word, or the check is ready
abbrev pub IsAsked : Decider → Stacked → Decided → Type 0
IsAsked kept s decided.Outside = ⊥
IsAsked kept s decided.Dead = IsSome kept.dead
IsAsked kept s decided.Ready = IsReady kept s

-- the assertions at these places refute the check, or they are a question about all of the live ones, where the others
-- are those of other structure
abbrev pub AreAsked : List ℕ → Stacked → Decided → List ℕ → Type 0
AreAsked others s decided.Outside places = ⊥
AreAsked others s decided.Dead places = IsClash s places
AreAsked others s decided.Ready places = IsQuestion others s places

-- Words and truth values of the constants that a search was asked about, where the check is ready and the question was
-- about all of the live assertions.
pub record AreValues (kept : Decider) (s : Stacked) (store : Store) (e : Backing)
    (found : List (Option (List ℕ))) (truths : List Bool) : Type 0
  where
    pub ready : IsReady kept s
    pub places : List ℕ
    pub question : IsQuestion kept.others.items s places
    pub valued : IsValued s places store.arena store.graph.memo e found truths

-- what a search says: there are values, or a clause is kept that denies assumptions alone, or so many lines were
-- counted as a check may have
abbrev pub Finds : Decider → Stacked → Store → Backing → Backing → Spending → Solved → Type 0
Finds kept s store e f budget (solved.Sat words truths) = AreValues kept s store e words.items truths.items
Finds kept s store e f budget (solved.Unsat id) = IsRefuting (given_in s) f.atoms f.kept id.0
Finds kept s store e f budget solved.Spent = budget.spent ≡ budget.limit

-- there are words where the check is ready alone
abbrev pub IsReadyThen : Decider → Stacked → Solved → Type 0
IsReadyThen kept s (solved.Sat words truths) = IsReady kept s
IsReadyThen kept s _ = Unit {0}

-- they are those of these constants, and false for each other one
abbrev pub AreTruthsAmong : List Serial → List Bool → List Bool → Type 0
AreTruthsAmong serials truths others =
    (n : ℕ) → truth_in others n ≡ (is_listed serials n && truth_in truths n)

-- the constant is assumed to be true
abbrev pub is_assumed : List Assumption → ℕ → Bool
is_assumed given n = list_any (λ a. (a.0 == n) && a.1) given

-- the same, but that what is assumed to be true is
abbrev pub AreTruthsOf : List Serial → List Assumption → List Bool → List Bool → Type 0
AreTruthsOf serials given truths others =
    (n : ℕ) → truth_in others n ≡ ((is_listed serials n && truth_in truths n) || is_assumed given n)

-- these are the assumptions that the clause denies
abbrev pub AreDenied : Stacked → Backing → ℕ → List Assumption → Type 0
AreDenied s e id core =
    (rs : List Regex) → core ≡ denied_in (atoms_in rs e.atoms) (literals_at e.kept id) (given_in s)

-- it is what was found of the constants that occur in assertions of other structure or are assumed, with the words that
-- memberships give the others; the values are of the live constants; or it is the clause with the assumptions that it
-- denies
abbrev pub IsCompleted : Decider → Stacked → Backing → Solved → Solution → Type 0
IsCompleted kept s e (solved.Sat words truths) (solution.Sat full others) =
    IsClosed kept s words.items full.items × AreTruthsOf kept.spoken.keys (given_in s) truths.items others.items
    × (fits (constants_of (state_of s)) (values_at (live_constants s) full.items others.items) ≡ true)
IsCompleted kept s e (solved.Unsat id) (solution.Unsat found core) = (found ≡ id) × AreDenied s e id.0 core.items
IsCompleted kept s e solved.Spent solution.Spent = Unit {0}
IsCompleted kept s e _ _ = ⊥

-- the check is inside, and may give these values, or a clause is among what the evidence knows that denies assumptions
-- alone, and these are the ones; or it is outside
abbrev pub SaysTrue : Stacked → Backing → Solution → Type 0
SaysTrue s e (solution.Sat words truths) = (in_fragment (state_of s) ≡ true)
    × IsGiven (state_of s) (given_in s) (values_at (live_constants s) words.items truths.items)
    × (list_all (assumption_holds (values_at (live_constants s) words.items truths.items)) (given_in s) ≡ true)
SaysTrue s e (solution.Unsat id core) = (in_fragment (state_of s) ≡ true)
    × IsRefuting (given_in s) e.atoms e.kept id.0 × AreDenied s e id.0 core.items
SaysTrue s e solution.Spent = in_fragment (state_of s) ≡ true
SaysTrue s e solution.Outside = in_fragment (state_of s) ≡ false

-- so many lines were counted as a check may have, where that is the answer
abbrev pub IsSpent : AllKept → Solution → Type 0
IsSpent kept solution.Spent = kept.counted ≡ 2 ^ 64 - 1
IsSpent kept _ = Unit {0}

-- Lines were put that lead to an answer, as far as a check may have lines.
pub record IsSolution (s : Stacked) (before : AllKept) (store : Store) (e : Backing) (r : Solution)
    (old new : Option (List ℕ)) : Type 0
  where
    pub after : AllKept
    pub puts : Puts (asked_in (state_of s)) before after old new
    pub backs : Backs store.arena store.graph.memo e after
    pub spent : IsSpent after r

-- the verdict of an answer
abbrev pub verdict_of : Solution → Verdict
verdict_of (solution.Sat words truths) = verdict.Sat words truths
verdict_of (solution.Unsat id core) = verdict.Unsat core
verdict_of solution.Spent = verdict.Unknown
verdict_of solution.Outside = verdict.Outside

-- and what the verdict's line says
abbrev pub said_by : Stacked → Solution → Said
said_by s (solution.Sat words truths) = said_sat (map (said_value words.items truths.items) (live_constants s))
said_by s (solution.Unsat id core) = said_unsat id.0 None
said_by s solution.Spent = said_unknown (2 ^ 64 - 1)
said_by s solution.Outside = said_unsupported

-- the number of a clause has a text
abbrev pub IsNumbered : Solution → Type 0
IsNumbered (solution.Unsat id core) = id.0 < 2 ^ 64
IsNumbered _ = Unit {0}

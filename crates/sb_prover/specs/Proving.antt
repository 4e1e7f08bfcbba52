-- What is known of a proof that is written along a script.
use Rattle.std.specs.Prelude.{◌≡◌, ℕ, ◌≤◌, ◌^◌, ◌-◌, Bool, false, List, ◌++◌, length, take, slice_get, Option, Some, None, option_map, IfSome}
use Rattle.sb_lit.specs.Budgets.{Spending}
use Rattle.sb_lang.specs.Regex.{Regex}
use Rattle.sb_regex.specs.Numbered.{Extends}
use Rattle.sb_reader.specs.Entries.{Entry}
use Rattle.sb_script.specs.State.{State, live}
use Rattle.sb_script.specs.Replies.{step_of}
use Rattle.sb_script.specs.Verdicts.{Verdict}
use Rattle.sb_rulebook.specs.Accepted.{asked_in}
use Rattle.sb_rulebook.specs.Atoms.{AtomOver}
use Rattle.sb_rulebook.specs.Kept.{Asked, nothing_kept}
use Rattle.sb_rulebook.specs.Brought.{newest_format}
use Rattle.sb_rulebook.specs.Verdicts.{Question}
use Rattle.sb_rulebook.specs.Judging.{Event, leaves_above, leaves_all, at_rest, Progress}
use Rattle.sb_sound.specs.Certified.{Proves}
use Rattle.sb_proof.specs.Tapes.{with_bytes}
use Rattle.sb_atoms.specs.Numbered.{HaveRegexesBelow}
use Rattle.sb_store.specs.declared.store.Store.{Store}
use Rattle.sb_store.specs.Stores.{Grows}
use Rattle.sb_meaning.specs.Terms.{Term}
use Rattle.sb_stack.specs.declared.stack.Step.{Step}
use Rattle.sb_stack.specs.declared.stack.Step.TheVariants as code
use Rattle.sb_stack.specs.Steps.{IsStep}
use Rattle.sb_stack.specs.declared.verdict.Verdict as answer
use Rattle.sb_stack.specs.declared.verdict.Verdict.TheVariants as verdict
use Rattle.sb_refute.specs.declared.evidence.Asserted.{Asserted}
use Rattle.sb_refute.specs.Backing.{Backing, Backs, asserted_at}
use Rattle.sb_sound.specs.SoundLaws.{Continues, GoesOn}
use Rattle.sb_sound.specs.ScriptLaws.{IsFit}
use Rattle.sb_solve.specs.Truth.{IsTrue}

pub record Proving : Type 0 where
  pub evidence : Backing
  -- the first line stands in the proof
  pub begun : Bool

-- The proof has come so far that no line is due, and what its reader keeps is what is known of it.
pub record IsAbreast (store : Store) (proving : Proving) (p : Progress) : Type 0 where
  pub rests : p.phase ≡ at_rest
  pub begun : p.begun ≡ proving.begun
  pub first : p.begun ≡ false → p.kept ≡ nothing_kept newest_format
  pub format : p.kept.format ≡ newest_format
  pub counted : p.kept.counted ≡ 0
  pub backs : Backs store.arena store.graph.memo proving.evidence p.kept
  pub regexes : HaveRegexesBelow (length store.arena) proving.evidence.atoms

-- The levels of live assertions.

abbrev pub level_at : List (Option Term × ℕ) → ℕ → Option ℕ
level_at live place = option_map (λ a. a.1) (slice_get live place)

-- each clause of an assertion that is known is of the level of the live assertion at its place
abbrev pub HaveLevels : List (Option Term × ℕ) → Backing → Type 0
HaveLevels live e = (place : ℕ) (a : Asserted) → asserted_at e.asserted place ≡ Some a
    → level_at live place ≡ Some a.level

-- no assertion is of a level above this one
abbrev pub AreLow : ℕ → List (Option Term × ℕ) → Type 0
AreLow level live = (place n : ℕ) → level_at live place ≡ Some n → n ≤ level

-- levels are left: those above this one, or with all assertions
abbrev pub leaving : Option ℕ → Event
leaving (Some level) = leaves_above level
leaving None = leaves_all

-- Clauses keep the levels that they have where more assertions are live.
abbrev pub LevelsStay : Type 0
LevelsStay = (live more : List (Option Term × ℕ)) (e : Backing) → HaveLevels live e → HaveLevels (live ++ more) e

-- what a step makes of the live assertions with their levels: where levels are left a front of them stays, of which
-- none is above the level down to which they were left; else all stay in front
abbrev pub MovesLive : Step → State → State → Type 0
MovesLive (code.Left text level) old new =
    ((asked_in new).live ≡ take (length (live new)) (asked_in old).live)
    × IfSome level (λ n. AreLow n (asked_in new).live)
MovesLive _ old new = (more : List (Option Term × ℕ)) × ((asked_in new).live ≡ (asked_in old).live ++ more)

-- Each entry of a script does so.
abbrev pub EntriesMoveLive : Type 0
EntriesMoveLive = (entry : Entry) (old new : State) (step : Step) → IsStep (step_of entry old) step old new
    → MovesLive step old new

-- What is true of the evidence.

-- The evidence stays true where the script goes on, and loses no assertion.
abbrev pub TrueGoesOn : Type 0
TrueGoesOn = (before now : Asked) (x : Store) (e : Backing) → Continues before now
    → IsTrue before x.arena x.graph.memo e → IsTrue now x.arena x.graph.memo e

-- And where the store grows.
abbrev pub TrueGrown : Type 0
TrueGrown = (asked : Asked) (ts : List Term) (x y : Store) (e : Backing) → Grows ts x y
    → HaveRegexesBelow (length x.arena) e.atoms → IsTrue asked x.arena x.graph.memo e
    → IsTrue asked y.arena y.graph.memo e

-- the script goes on where levels are left: those above this one, or with all assertions
abbrev pub GoesDown : Option ℕ → Asked → Asked → Type 0
GoesDown (Some level) before now = GoesOn level before now
GoesDown None before now = Unit {0}

-- what a step makes of what is asked
abbrev pub LeadsTo : Step → State → State → Type 0
LeadsTo (code.Left text level) old new = GoesDown level (asked_in old) (asked_in new)
LeadsTo _ old new = Continues (asked_in old) (asked_in new)

-- Behind each entry of a script the terms fit the sorts of the constants, where they did before, and the script goes
-- on.
abbrev pub EntriesStayFit : Type 0
EntriesStayFit = (entry : Entry) (old new : State) (step : Step) → IsStep (step_of entry old) step old new
    → IsFit old → IsFit new × LeadsTo step old new

-- A proof that has come so far stays so where the store grows.
abbrev pub AbreastStays : Type 0
AbreastStays = (ts : List Term) (x y : Store) (proving : Proving) (p : Progress) → Grows ts x y
    → IsAbreast x proving p → IsAbreast y proving p

-- atoms whose regexes are below a number have them below a greater one, so also where the arena grew
abbrev pub RegexesStayBelow : Type 0
RegexesStayBelow = (rs more : List Regex) (atoms : List (AtomOver ℕ)) → Extends rs more
    → HaveRegexesBelow (length rs) atoms → HaveRegexesBelow (length more) atoms

-- Lines were put that prove a verdict, and the proof has come so far behind them.
pub record IsProved (q : Question) (v : Verdict) (before : Progress) (store : Store) (proving : Proving)
    (old new : Option (List ℕ)) : Type 0
  where
    pub lines : List ℕ
    pub after : Progress
    pub proves : Proves before after q lines v
    pub told : new ≡ with_bytes lines old
    pub abreast : IsAbreast store proving after

-- no verdict but unknown, or as many steps are spent as a check may have
abbrev pub HasSpent : Spending → answer.Verdict → Type 0
HasSpent budget verdict.Unknown = budget.spent ≡ 2 ^ 64 - 1
HasSpent budget _ = Unit {0}

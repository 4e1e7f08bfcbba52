-- A run that begins, and what it does by the words.
use Rattle.std.proofs.Common.{◌≡◌, ℕ, ◌<◌, ◌≤◌, ◌⊎◌, false, List, [], ◌++◌, length, take, drop, Option, Some, None, Result, Ok, Err, OnOk, IfErr, refl, sym, ap, ap₂, ◌∙◌, subst, inl, inr, arith, length-append}
use Rattle.std.proofs.lemmas.Bool.{false≢true}
use Rattle.std.proofs.lemmas.List.{take-append-drop, take-append-le}
use Rattle.std.proofs.Math.Seq.{take-append_seam}
use Rattle.sb_world.specs.Outside.{Outside, Rose}
use Rattle.sb_world.specs.Moved.{moved_by, nothing}
use Rattle.sb_world.proofs.CallerLemmas.{moved_by-nothing}
use Rattle.sb_reader.specs.Entries.{Begins}
use Rattle.sb_reader.proofs.CallerLemmas.{shortens_to_itself, beginning_stays, beginning_is_first}
use Rattle.sb_reader.specs.Feeding.{Unanswered, ShortensTo}
use Rattle.sb_script.specs.State.{State, start}
use Rattle.sb_rulebook.specs.Refusals.{Refusal}
use Rattle.sb_rulebook.specs.Lines.{Said}
use Rattle.sb_rulebook.specs.Judging.{at_rest, beginning, accepted, refused}
use Rattle.sb_stack.specs.Stacked.{state_of}
use Rattle.sb_input.specs.TakingEntries.{EntriesState}
use Rattle.sb_input.specs.TakingLines.{LinesState}
use Rattle.sb_check.specs.Standing.{IsAt}
use Rattle.sb_check.specs.declared.checker.CheckerFault.{CheckerFault}
use Rattle.sb_words.specs.CheckerWords.{script_of, proof_of}
use Rattle.sb_sound.specs.TruthLaws.{AcceptedScriptIsTrue}
use Rattle.sb_sound.specs.Outcomes.{behind, IsAccepted}
use Rattle.sb_sound.specs.OutcomeLaws.{OneOutcome}
use Rattle.sb_sound.proofs.CallerLemmas.{whole_none}
use Rattle.sb_check.specs.declared.check.Run.{Run}
use Rattle.sb_check.specs.declared.check.CheckStatus.{CheckStatus}
use Rattle.sb_check.specs.declared.check.CheckStatus.TheVariants as status
use Rattle.sb_check.specs.Running.{Asked, AreHeld, AreLeft, IsAsked, IsOpened, Run as RunBy, RunOf, CountsFaults, MeansSo, HasExit, IsBounded, IsPastScript, IsPastProof, PastLimit, asked_for, opened}
use Rattle.sb_check.specs.Sofar.{GoesOn, HasAccepted, Stops, Concludes}
use Rattle.sb_check.proofs.EntryFacts.{behind-ended}

pub goes_at_first : (run : Run) (limit : ℕ) (script proof : List ℕ) (o : Outside)
    → run.entries ≡ record { kept = ([], false); read = 0; limit = limit }
    → run.lines ≡ record { line = []; kept = []; ended = false; read = 0; limit = limit }
    → IsAt at_rest run.checker.judge beginning → state_of run.checker.judge.stack ≡ start → run.next_check ≡ 1
    → AreLeft o script proof → GoesOn limit script proof run o o
goes_at_first run limit script proof o e l at state next left =
    let kept = ap (λ (s : EntriesState). s.kept) e in
    let read = ap (λ (s : EntriesState). s.read) e in
    let goes_on = ap (λ (k : Unanswered). k.1) kept in
    let lines = ap (λ (s : LinesState). s.kept) l in
    let lines_read = ap (λ (s : LinesState). s.read) l in
    record {
      entries_limit = ap (λ (s : EntriesState). s.limit) e;
      lines_limit = ap (λ (s : LinesState). s.limit) l;
      list = [];
      all = [];
      all_is = refl;
      state = ap (λ s. Some s) (sym state);
      bytes = [];
      rest = [];
      begins = refl;
      shorter = subst (λ (k : Unanswered). ShortensTo [] k.0) (sym kept) (shortens_to_itself []);
      script_left = script;
      script_is = record { told = left.script_is; none = λ ended. absurd (false≢true (sym goes_on ∙ ended)) };
      script_split = refl;
      script_read = sym read;
      script_within = omega (arith, read);
      script_below = λ ended. absurd (false≢true (sym goes_on ∙ ended));
      front = [];
      whole = whole_none;
      proof_left = proof;
      proof_is = record {
        told = left.proof_is;
        none = λ ended. absurd (false≢true (sym (ap (λ (s : LinesState). s.ended) l) ∙ ended));
      };
      proof_split = ap (λ (k : List ℕ). k ++ proof) (sym lines);
      proof_read = omega (arith, lines_read);
      proof_within = omega (arith, lines_read);
      progress = beginning;
      rests = at;
      goes = λ more. refl;
      next = next;
      moved = sym (moved_by-nothing o)
          ∙ ap₂ (λ x y. moved_by (record nothing { script = x; proof = y }) o) (sym read) (sym lines_read);
    }

pub concluded : (r : Result (Unit {0}) CheckerFault) (run : Run) (limit : ℕ) (script proof : List ℕ)
    (old before now : Outside)
    → OnOk r ((limit : ℕ) (script proof : List ℕ) (old : Outside) → GoesOn limit script proof run old before
    → HasAccepted limit script proof old now)
    → IfErr r (λ fault. (limit : ℕ) (script proof : List ℕ) (old : Outside) → GoesOn limit script proof run old before
    → Stops fault limit script proof old now)
    → GoesOn limit script proof run old before → Concludes r limit script proof old now
concluded (Ok _) run limit script proof old before now ok err first = ok limit script proof old first
concluded (Err _) run limit script proof old before now ok err first = err limit script proof old first

-- both are opened, and hold what their files do
opened_of : (s : CheckStatus) (asked : Asked) (old middle new : Outside) → middle ≡ opened asked old
    → ((script proof : List ℕ) → AreLeft middle script proof → RunOf s asked.limit script proof middle new)
    → (script proof : List ℕ) → AreHeld asked old script proof
    → RunOf s asked.limit script proof (opened asked old) new
opened_of s asked old middle new is h script proof held =
    subst (λ o. RunOf s asked.limit script proof o new) is
    (h script proof (subst (λ o. AreLeft o script proof) (sym is) (record {
      script_is = held.script_is;
      proof_is = held.proof_is;
    })))

pub run_opened : (s : CheckStatus) (asked : Asked) (old middle new : Outside) → IsOpened s → middle ≡ opened asked old
    → ((script proof : List ℕ) → AreLeft middle script proof → RunOf s asked.limit script proof middle new)
    → RunBy asked s old new
run_opened status.Accepted asked old middle new opens is h = opened_of status.Accepted asked old middle new is h
run_opened status.Refused asked old middle new opens is h = opened_of status.Refused asked old middle new is h
run_opened status.Usage asked old middle new opens is h = absurd opens
run_opened status.Fault asked old middle new opens is h =
    inr (inr (opened_of status.Fault asked old middle new is h))
run_opened status.NoMemory asked old middle new opens is h =
    inr (inr (opened_of status.NoMemory asked old middle new is h))
run_opened status.InputLimit asked old middle new opens is h = opened_of status.InputLimit asked old middle new is h

same_some : (a b : List ℕ) → Some a ≡ Some b → a ≡ b
same_some a b e = Prim.cc (e)

-- what is asked is as the words have it
asked_is : (words : List (List ℕ)) (limit : ℕ) (asked : Asked) (script proof : List ℕ) → script_of words ≡ Some script
    → proof_of words ≡ Some proof → IsAsked words limit asked
    → asked_for script proof limit ≡ asked
asked_is words limit asked script proof s p h =
    ap₂ (λ x y. asked_for x y limit) (same_some script asked.script (sym s ∙ h.0))
    (same_some proof asked.proof (sym p ∙ h.1))
    ∙ ap (λ (n : ℕ). record asked { limit = n }) (sym h.2)

pub run_asked : (words : List (List ℕ)) (limit : ℕ) (script proof : List ℕ) (s : CheckStatus) (old new : Outside)
    → script_of words ≡ Some script → proof_of words ≡ Some proof
    → RunBy (asked_for script proof limit) s old new → (asked : Asked)
    → IsAsked words limit asked → RunBy asked s old new
run_asked words limit script proof s old new is_script is_proof run asked h =
    subst (λ a. RunBy a s old new) (asked_is words limit asked script proof is_script is_proof h) run

-- what is accepted means what it says
pub accepted_means : (s : CheckStatus) (asked : Asked) (script proof : List ℕ) (old new : Outside)
    → AcceptedScriptIsTrue → s ≡ status.Accepted → RunBy asked s old new → AreHeld asked old script proof
    → MeansSo script proof old new
accepted_means s asked script proof old new law is run held =
    let w = subst (λ t. RunBy asked t old new) is run script proof held in
    record {
      said = w.0;
      entries = w.1.is.entries;
      all = w.1.is.all;
      judged = w.1.is.judged;
      true_of = law w.1.is.entries proof w.0 w.1.is.judged;
      written = ap (λ (o : Outside). o.answers.written) w.1.moved;
    }

not_both : (said others : List Said) (n : ℕ) (refusal : Refusal) → accepted said ≡ refused others n refusal → ⊥
not_both said others n refusal e = cc

-- what is refused is not accepted
pub refused_means : (s : CheckStatus) (asked : Asked) (script proof : List ℕ) (old new : Outside) → OneOutcome
    → s ≡ status.Refused → RunBy asked s old new → AreHeld asked old script proof
    → (said : List Said) → IsAccepted script proof said → ⊥
refused_means s asked script proof old new one is run held said accepts =
    let w = subst (λ t. RunBy asked t old new) is run script proof held in
    not_both said w.0 w.1 w.2
    (sym accepts.judged ∙ one script proof accepts.entries (refused w.0 w.1 w.2) accepts.all w.3.is tt)

-- Where the inputs stand below the limit it is not met.

-- bytes that begin others go on up to them
goes_on_behind : (bytes left front more : List ℕ) → bytes ++ left ≡ front ++ more → length front ≤ length bytes
    → (middle : List ℕ) × (bytes ≡ front ++ middle)
goes_on_behind bytes left front more e h =
    let n = length front in (
      drop n bytes,
      sym (take-append-drop n bytes)
          ∙ ap (λ (x : List ℕ). x ++ drop n bytes) (sym (take-append-le n bytes left h) ∙ ap (take n) e
          ∙ take-append_seam front more),
    )

no_state : (o : Option State) (s : State) → o ≡ None → o ≡ Some s → ⊥
no_state o s none some = cc

-- (exit) is not passed over
never_past_exit : (limit : ℕ) (script proof : List ℕ) (said : List Said) → HasExit limit script
    → IsPastScript limit script proof said → ⊥
never_past_exit limit script proof said exit past =
    let middle = goes_on_behind past.front past.more exit.front exit.more (sym past.split ∙ exit.split)
    (omega (arith, past.at_limit, exit.within)) in
    let begins = subst (λ (bytes : List ℕ). Begins false bytes exit.entries (exit.left ++ middle.0)) (sym middle.1)
    (beginning_stays false exit.front middle.0 exit.entries exit.left exit.begins) in
    let others = beginning_is_first false past.front exit.entries past.entries (exit.left ++ middle.0) past.left begins
    past.begins past.none in
    no_state (behind start past.entries) past.after
    (ap (behind start) others.1 ∙ behind-ended start exit.entries others.0 exit.last) past.no_exit

never_past_script : (limit : ℕ) (script proof : List ℕ) (said : List Said) → IsBounded limit script
    → IsPastScript limit script proof said → ⊥
never_past_script limit script proof said (inl below) past = absurd (omega (
  arith,
  below,
  past.at_limit,
  ap length past.split,
  length-append past.front past.more,
))
never_past_script limit script proof said (inr exit) past = never_past_exit limit script proof said exit past

never_past_proof : (limit : ℕ) (script proof : List ℕ) (said : List Said) → length proof < limit
    → IsPastProof limit script proof said → ⊥
never_past_proof limit script proof said below past = absurd (omega (
  arith,
  below,
  past.at_limit,
  ap length past.split,
  length-append past.front (past.left ++ past.more),
  length-append past.left past.more,
))

never_past : (limit : ℕ) (script proof : List ℕ) (old new : Outside) → IsBounded limit script → length proof < limit
    → PastLimit limit script proof old new → ⊥
never_past limit script proof old new bounded below past = elim past.past as (λ _. ⊥) [
  | inl of_script ↦ never_past_script limit script proof past.said bounded of_script.1
  | inr of_proof ↦ never_past_proof limit script proof past.said below of_proof.1
]

-- without a fault, a proof within the limit is accepted or refused, or memory is wanting
pub complete_by : (s : CheckStatus) (asked : Asked) (script proof : List ℕ) (old new : Outside) (f g : ℕ)
    → RunBy asked s old new → CountsFaults s f g → (Rose f g → ⊥) → AreHeld asked old script proof
    → (limit : ℕ) → asked.limit ≡ limit → IsBounded limit script → length proof < limit
    → (s ≡ status.Accepted) ⊎ ((s ≡ status.Refused) ⊎ (s ≡ status.NoMemory))
complete_by status.Accepted asked script proof old new f g run counts no_fault held limit is bounded below = inl refl
complete_by status.Refused asked script proof old new f g run counts no_fault held limit is bounded below =
    inr (inl refl)
complete_by status.NoMemory asked script proof old new f g run counts no_fault held limit is bounded below =
    inr (inr refl)
complete_by status.Fault asked script proof old new f g run counts no_fault held limit is bounded below =
    absurd (no_fault counts)
complete_by status.Usage asked script proof old new f g run counts no_fault held limit is bounded below = absurd run
complete_by status.InputLimit asked script proof old new f g run counts no_fault held limit is bounded below =
    absurd (never_past limit script proof (opened asked old) new bounded below
    (subst (λ (n : ℕ). PastLimit n script proof (opened asked old) new) is (run script proof held)))

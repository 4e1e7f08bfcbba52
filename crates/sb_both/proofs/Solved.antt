-- A script that is answered with its proof.
use Rattle.std.proofs.Common.{◌≡◌, ℕ, ◌^◌, ◌<◌, ◌⊎◌, true, List, [], ◌++◌, length, drop, Option, Some, IfSome, option_map, unwrap_or, sym, subst, inl, inr, ap, ◌∙◌, arith}
use Rattle.std.proofs.lemmas.List.{drop_all}
use Rattle.sb_world.specs.Outside.{Outside, Rose}
use Rattle.sb_reader.specs.Entries.{Entry}
use Rattle.sb_words.specs.SolverWords.{are_taken}
use Rattle.sb_session.specs.declared.solve.SolveStatus.{SolveStatus}
use Rattle.sb_session.specs.declared.solve.SolveStatus.TheVariants as status
use Rattle.sb_session.specs.Replying.{Asked, asked_by, asks_proof}
use Rattle.sb_session.specs.Solve.{opened, IsBounded}
use Rattle.sb_session.specs.Certifying.{AreAllEntries, IsCertified}
use Rattle.sb_rulebook.specs.Accepted.{Accepted}
use Rattle.sb_rulebook.specs.PrintedLaws.{PrintedProofIsAccepted}
use Rattle.sb_sound.specs.Outcomes.{AreEntriesOf}
use Rattle.sb_sound.specs.OutcomeLaws.{SolvedEntries, WholeEntries}
use Rattle.sb_both.specs.Runs.{Proves, script_name, solver_words, of_solver}
use Rattle.sb_both.proofs.WordsTaken.{solver_takes, solver_asks}

-- a count that stays at nothing never rose
pub never_rises : Rose 0 0 → ⊥
never_rises rose =
    elim rose.greater as (λ _. ⊥) [ inl h ↦ absurd (omega (arith, h)) | inr e ↦ absurd (omega (arith, e)) ]

abbrev IsAnswered : SolveStatus → Type 0
IsAnswered s = (s ≡ status.Done) ⊎ (s ≡ status.Unfinished)

abbrev IsAnsweredOrCut : SolveStatus → Type 0
IsAnsweredOrCut s = (s ≡ status.Done) ⊎ ((s ≡ status.Unfinished) ⊎ (s ≡ status.NoMemory))

pub answered : (s : SolveStatus) (words : List (List ℕ)) (old : Outside) (script : List ℕ) → words ≡ solver_words
    → old.file script_name ≡ Some script
    → (are_taken words ≡ true → (Rose 0 0 → ⊥) → ((script : List ℕ) × IsBounded (asked_by words (2 ^ 32)) script old)
    → IsAnsweredOrCut s)
    → length script < 2 ^ 32 → IsAnsweredOrCut s
answered s words old script words_are held complete short =
    let bounded : (script : List ℕ) × IsBounded of_solver script old = (script, (held, inl short)) in
    complete (ap are_taken words_are ∙ solver_takes) never_rises
    (subst (λ (asked : Asked). (script : List ℕ) × IsBounded asked script old)
    (sym (ap (λ (ws : List (List ℕ)). asked_by ws (2 ^ 32)) words_are ∙ solver_asks)) bounded)

-- Where the entries stand in front of bytes that were read, they are all entries of the script.
entries_of : SolvedEntries → WholeEntries → (script : List ℕ) (o : Outside) (entries : List Entry)
    → o.script_in.left ≡ Some script → AreAllEntries o entries → AreEntriesOf script entries
entries_of to_exit whole script o entries held (inl all) =
    let same : script ≡ all.0 = subst (λ (left : Option (List ℕ)). IfSome left (λ bytes. bytes ≡ all.0)) held all.2 in
    subst (λ (bytes : List ℕ). AreEntriesOf bytes entries) (sym same) (whole all.0 all.1 entries all.3 all.4)
entries_of to_exit whole script o entries held (inr all) =
    let bytes : List ℕ = all.0 in
    let rest : List ℕ = drop (length bytes) script in
    let front : script ≡ bytes ++ rest =
    subst (λ (left : Option (List ℕ)). IfSome left (λ left. left ≡ bytes ++ drop (length bytes) left)) held all.5 in
    to_exit script bytes rest all.4 all.1 entries all.2 all.3 front
    (λ ended.
    let same : script ≡ bytes =
    subst (λ (left : Option (List ℕ)). IfSome left (λ left. left ≡ bytes)) held (all.6 ended) in
    let within = ap length same in
    drop_all (length bytes) script (omega (arith, within)))
    all.7 all.8 all.9

-- what was written is the proof
written_is : (o : Outside) (before : List ℕ) (written proof : List ℕ) → o.proof_out.written ≡ Some before
    → Some written ≡ option_map (λ bytes. bytes ++ proof) (option_map (λ (_ : List ℕ). []) o.proof_out.written)
    → written ≡ proof
written_is o before written proof old new =
    let behind : List ℕ → List ℕ = λ bytes. bytes ++ proof in
    let emptied : List ℕ → List ℕ = λ _. [] in
    ap (λ (w : Option (List ℕ)). unwrap_or w [])
    (new ∙ ap (λ (w : Option (List ℕ)). option_map behind (option_map emptied w)) old)

pub proved : SolvedEntries → WholeEntries → PrintedProofIsAccepted → (s : SolveStatus) (words : List (List ℕ)) (old new : Outside)
    (script before : List ℕ) → words ≡ solver_words → old.file script_name ≡ Some script
    → old.proof_out.written ≡ Some before
    → (are_taken words ≡ true → asks_proof (asked_by words (2 ^ 32)) ≡ true → IsAnswered s
    → IsCertified (asked_by words (2 ^ 32)) old new)
    → IsAnswered s → (proof : List ℕ) → new.proof_out.written ≡ Some proof → Proves script proof
proved to_exit whole accepts s words old new script before words_are held was certified answered proof written =
    let asked = ap (λ (ws : List (List ℕ)). asked_by ws (2 ^ 32)) words_are ∙ solver_asks in
    let made : IsCertified of_solver old new =
    subst (λ (asked : Asked). IsCertified asked old new) asked
    (certified (ap are_taken words_are ∙ solver_takes) (ap asks_proof asked) answered) in
    record {
      entries = made.entries;
      all = entries_of to_exit whole script (opened of_solver old) made.entries held made.script;
      accepted = subst (λ (bytes : List ℕ). Accepted made.entries bytes)
          (sym (written_is old before proof made.proof was (sym written ∙ made.written)))
          (accepts made.entries made.proof made.accepted);
    }

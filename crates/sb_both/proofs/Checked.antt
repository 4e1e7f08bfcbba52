-- A proof that is checked.
use Rattle.std.proofs.Common.{◌≡◌, ℕ, ◌^◌, ◌⊎◌, true, List, length, refl, sym, subst, inl, inr, ap, ◌∙◌, arith}
use Rattle.sb_world.specs.Outside.{Outside}
use Rattle.sb_world.specs.Worlds.{AddsFile}
use Rattle.sb_words.specs.CheckerWords.{are_taken}
use Rattle.sb_rulebook.specs.Lines.{Said}
use Rattle.sb_check.specs.declared.check.CheckStatus.{CheckStatus}
use Rattle.sb_check.specs.declared.check.CheckStatus.TheVariants as status
use Rattle.sb_check.specs.Running.{Asked, IsAsked, AreHeld, Run, CountsFaults, MeansSo}
use Rattle.sb_sound.specs.Outcomes.{IsAccepted}
use Rattle.sb_both.specs.Both.{Confirms, IsConfirmed}
use Rattle.sb_both.specs.Runs.{Proves, script_name, proof_name, checker_words, of_checker}
use Rattle.sb_both.proofs.WordsTaken.{checker_takes, checker_asks}
use Rattle.sb_both.proofs.Solved.{never_rises}

other_name : script_name ≡ proof_name → ⊥
other_name e = let lengths = ap length e in absurd (omega (arith, lengths))

-- both files are held where they are added one after the other
pub both_held : (first second third : Outside) (script proof : List ℕ) → AddsFile first second script_name script
    → AddsFile second third proof_name proof → AreHeld of_checker third script proof
both_held first second third script proof adds_script adds_proof = record {
  script_is = adds_proof.others script_name other_name ∙ adds_script.added;
  proof_is = adds_proof.added;
}

abbrev IsAcceptedOrCut : CheckStatus → Type 0
IsAcceptedOrCut s = (s ≡ status.Accepted) ⊎ ((s ≡ status.NoMemory) ⊎ (s ≡ status.InputLimit))

by_status : (s : CheckStatus) (old new : Outside) → Run of_checker s old new → CountsFaults s 0 0
    → (s ≡ status.Refused → ⊥) → IsAcceptedOrCut s
by_status status.Accepted old new run counts never_refused = inl refl
by_status status.NoMemory old new run counts never_refused = inr (inl refl)
by_status status.InputLimit old new run counts never_refused = inr (inr refl)
by_status status.Usage old new run counts never_refused = absurd run
by_status status.Fault old new run counts never_refused = absurd (never_rises counts)
by_status status.Refused old new run counts never_refused = absurd (never_refused refl)

pub checked : (s : CheckStatus) (words : List (List ℕ)) (script proof : List ℕ) (old new : Outside)
    → words ≡ checker_words → AreHeld of_checker old script proof
    → (are_taken words ≡ true → (asked : Asked) → IsAsked words (2 ^ 32) asked → Run asked s old new)
    → CountsFaults s 0 0
    → (s ≡ status.Refused → (asked : Asked) (script proof : List ℕ) → IsAsked words (2 ^ 32) asked
    → AreHeld asked old script proof → (said : List Said) → IsAccepted script proof said → ⊥)
    → Proves script proof → IsAcceptedOrCut s
checked s words script proof old new words_are held runs counts refused proves =
    let asks = subst (λ (ws : List (List ℕ)). IsAsked ws (2 ^ 32) of_checker) (sym words_are) checker_asks in
    by_status s old new (runs (ap are_taken words_are ∙ checker_takes) of_checker asks) counts
    (λ is. refused is of_checker script proof asks held proves.accepted.0
    (record { entries = proves.entries; all = proves.all; judged = proves.accepted.1 }))

pub means : (s : CheckStatus) (words : List (List ℕ)) (script proof : List ℕ) (old new : Outside)
    → words ≡ checker_words → AreHeld of_checker old script proof
    → (s ≡ status.Accepted → (asked : Asked) (script proof : List ℕ) → IsAsked words (2 ^ 32) asked
    → AreHeld asked old script proof → MeansSo script proof old new)
    → s ≡ status.Accepted → IsConfirmed script
means s words script proof old new words_are held meaning is_accepted =
    let asks = subst (λ (ws : List (List ℕ)). IsAsked ws (2 ^ 32) of_checker) (sym words_are) checker_asks in
    let so = meaning is_accepted of_checker script proof asks held in
    let confirms : Confirms script proof so.said =
    record { entries = so.entries; all = so.all; judged = so.judged; true_of = so.true_of } in
    (proof, so.said, confirms)

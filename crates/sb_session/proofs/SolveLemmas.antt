-- From the outcome of a run to its status.
use Rattle.std.proofs.Common.{◌≡◌, ◌+◌, ◌<◌, ◌≤◌, ◌⊎◌, ℕ, Bool, true, false, List, [], ◌∷◌, ◌++◌, length, take, drop, Option, Some, None, IfSome, Result, Ok, Err, IfOk, OnErr, append_assoc, length-append, refl, sym, ap, ap₂, ◌∙◌, subst, inl, inr, arith}
use Rattle.sb_session.proofs.Words.{Along, Asked, Begins, asked_by, asked_for, CountsFaults, CountsStop, CutShort, Entry, GoesOn, IsBounded, Outside, PastLimit, Rose, Run, SolveStatus, Stage, Stop, Write, asks_proof, beginning_is_first, beginning_stays, beginnings, created, false≢true, is_exit, open_at, opened, source_of, status_by, take-append-drop, take-append-le, take-append_seam}
use Rattle.sb_world.specs.declared.InPort.TheVariants as in_port
use Rattle.sb_words.specs.SolverWords.{script_of, proof_of}
use Rattle.sb_session.specs.declared.command.Stop.TheVariants as stop
use Rattle.sb_session.specs.declared.solve.SolveStatus.TheVariants.{Done, Unfinished, Usage, Fault, NoMemory, InputLimit}

pub run_by : (asked : Asked) (r : Result SolveStatus Stop) (old new : Outside) (f g : ℕ)
    → IfOk r (λ s. Run asked s old new × CountsFaults s f g) → OnErr r (CutShort asked old new)
    → Run asked (status_by r) old new
run_by asked (Ok s) old new f g ok err = ok.0
run_by asked (Err stop.Fault) old new f g ok err = err
run_by asked (Err stop.NoMemory) old new f g ok err = err
run_by asked (Err stop.Spent) old new f g ok err = err

-- and for what words ask
pub run_asked : (words : List (List ℕ)) (script proof : Option (List ℕ)) (limit : ℕ) (r : Result SolveStatus Stop)
    (old new : Outside) (f g : ℕ) → script ≡ script_of words → proof ≡ proof_of words
    → IfOk r (λ s. Run (asked_for script proof limit) s old new × CountsFaults s f g)
    → OnErr r (CutShort (asked_for script proof limit) old new) → Run (asked_by words limit) (status_by r) old new
run_asked words script proof limit r old new f g s p ok err =
    subst (λ (a : Asked). Run a (status_by r) old new)
    (ap₂ (λ (s p : Option (List ℕ)). asked_for s p limit) s p)
    (run_by (asked_for script proof limit) r old new f g ok err)

pub counts_by : (P : SolveStatus → Type 0) (r : Result SolveStatus Stop) (f g : ℕ)
    → IfOk r (λ s. P s × CountsFaults s f g) → CountsStop r f g → CountsFaults (status_by r) f g
counts_by P (Ok s) f g ok faults = ok.1
counts_by P (Err stop.Fault) f g ok faults = faults
counts_by P (Err stop.NoMemory) f g ok faults = faults
counts_by P (Err stop.Spent) f g ok faults = faults

-- a run from the outside that is opened is one from before
pub run_from : (asked : Asked) (proved : Bool) (r : Result SolveStatus Stop) (old from now : Outside)
    (limit f g h : ℕ) → asked.limit ≡ limit → proved ≡ asks_proof asked → from ≡ opened asked old → g ≡ f
    → IfOk r (λ s. (a : Asked) (o : Outside) → a.limit ≡ limit → proved ≡ asks_proof a → from ≡ opened a o
    → Run a s o now)
    → IfOk r (λ s. CountsFaults s g h) → IfOk r (λ s. Run asked s old now × CountsFaults s f h)
run_from asked proved (Err _) old from now limit f g h l k e same run counts = tt
run_from asked proved (Ok s) old from now limit f g h l k e same run counts =
    (run asked old l k e, subst (λ (n : ℕ). CountsFaults s n h) same counts)

-- None of the entries that are answered is (exit).
no_exit_among : (proved : Bool) (s : Stage) (before : List Entry) (entry : Entry) (behind : List Entry)
    (writes : List Write) (after : Stage) → Along (GoesOn proved) s (before ++ entry ∷ behind) writes after
    → is_exit entry ≡ false
no_exit_among proved s [] entry behind writes after h = h.3.0
no_exit_among proved s (first ∷ before) entry behind writes after h =
    no_exit_among proved h.2 before entry behind h.1 after h.5

-- a list goes on behind each shorter beginning of what it begins
goes_on_behind : (bytes left front behind : List ℕ) → bytes ++ left ≡ front ++ behind → length front ≤ length bytes
    → (more : List ℕ) × (bytes ≡ front ++ more)
goes_on_behind bytes left front behind e h =
    let n = length front in (
      drop n bytes,
      sym (take-append-drop n bytes)
          ∙ ap (λ (x : List ℕ). x ++ drop n bytes) (sym (take-append-le n bytes left h) ∙ ap (take n) e
          ∙ take-append_seam front behind),
    )

-- creating an output leaves the script
pub script_opened : (asked : Asked) (old : Outside) → (opened asked old).script_in.left ≡ source_of asked.script old
script_opened asked old = by_proof asked.proof
  where
    by_proof : (proof : Option (List ℕ))
        → (created proof (open_at in_port.Script asked.script old)).script_in.left ≡ source_of asked.script old
    by_proof None = refl
    by_proof (Some name) = refl

-- a script that is shorter than the limit holds no so many bytes
no_limit_below : (asked : Asked) (script : List ℕ) (old new : Outside) → source_of asked.script old ≡ Some script
    → length script < asked.limit → PastLimit asked old new → ⊥
no_limit_below asked script old new told below past =
    let front : IfSome (Some script) (λ left. left ≡ past.bytes ++ drop (length past.bytes) left) =
    subst (λ (o : Option (List ℕ)). IfSome o (λ left. left ≡ past.bytes ++ drop (length past.bytes) left))
    (script_opened asked old ∙ told) past.front in
    let e : length script ≡ length past.bytes + length (drop (length past.bytes) script) =
    ap length front ∙ length-append past.bytes (drop (length past.bytes) script) in
    let at : length past.bytes ≡ asked.limit = past.at_limit in
    omega arith

-- nor does one whose (exit) stands before the limit
no_limit_exit : (asked : Asked) (script front behind : List ℕ) (entries : List Entry) (exit : Entry) (left : List ℕ)
    (old new : Outside) → source_of asked.script old ≡ Some script → script ≡ front ++ behind
    → length front < asked.limit → Begins false front (entries ++ exit ∷ []) left → is_exit exit ≡ true
    → PastLimit asked old new → ⊥
no_limit_exit asked script front behind entries exit left old new told split below begins exits past =
    let read : IfSome (Some script) (λ left. left ≡ past.bytes ++ drop (length past.bytes) left) =
    subst (λ (o : Option (List ℕ)). IfSome o (λ left. left ≡ past.bytes ++ drop (length past.bytes) left))
    (script_opened asked old ∙ told) past.front in
    let at : length past.bytes ≡ asked.limit = past.at_limit in
    let same : past.bytes ++ drop (length past.bytes) script ≡ front ++ behind = ◌∙◌ {b = script} (sym read) split in
    let more = goes_on_behind past.bytes (drop (length past.bytes) script) front behind same (omega arith) in
    let stays = subst (λ (b : List ℕ). Begins false b (entries ++ exit ∷ []) (left ++ more.0)) (sym more.1)
    (beginning_stays false front more.0 (entries ++ exit ∷ []) left begins) in
    let others = beginning_is_first false past.bytes (entries ++ exit ∷ []) past.answered.entries (left ++ more.0)
    past.left stays past.answered.answered.begins past.answered.none in
    let e : past.answered.entries ≡ entries ++ exit ∷ others.0 =
    ◌∙◌ {b = (entries ++ exit ∷ []) ++ others.0} others.1 (append_assoc entries (exit ∷ []) others.0) in
    let goes : is_exit exit ≡ false =
    no_exit_among (asks_proof asked) beginnings entries exit others.0 past.answered.writes past.answered.s
    (subst (λ (es : List Entry). Along (GoesOn (asks_proof asked)) beginnings es past.answered.writes past.answered.s) e
    past.answered.answered.along) in
    false≢true (sym goes ∙ exits)

-- without a fault, a script that is bounded is answered, or memory is wanting
pub complete_by : (asked : Asked) (status : SolveStatus) (old new : Outside) (f g : ℕ) → Run asked status old new
    → CountsFaults status f g → (Rose f g → ⊥) → ((script : List ℕ) × IsBounded asked script old)
    → (status ≡ Done) ⊎ ((status ≡ Unfinished) ⊎ (status ≡ NoMemory))
complete_by asked Done old new f g run counts no_fault bounded = inl refl
complete_by asked Unfinished old new f g run counts no_fault bounded = inr (inl refl)
complete_by asked NoMemory old new f g run counts no_fault bounded = inr (inr refl)
complete_by asked Fault old new f g run counts no_fault bounded = absurd (no_fault counts)
complete_by asked Usage old new f g run counts no_fault bounded = absurd run
complete_by asked InputLimit old new f g run counts no_fault bounded = absurd (elim bounded.1.1 [
  | inl below ↦ no_limit_below asked bounded.0 old new bounded.1.0 below run
  | inr exit ↦ no_limit_exit asked bounded.0 exit.0 exit.1 exit.2 exit.3 exit.4 old new bounded.1.0 exit.5 exit.6 exit.7
      exit.8 run
])

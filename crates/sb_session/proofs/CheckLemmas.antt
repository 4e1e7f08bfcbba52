-- A check is answered with its proof, or without one.
use Rattle.sb_session.proofs.Words.{◌≡◌, ◌⊎◌, ℕ, ◌<◌, Bool, true, false, if◌then◌else◌, List, [], ◌∷◌, map, length, take, drop, codes, Option, Some, None, is_some, Result, Ok, Err, IfOk, IfSome, refl, sym, ap, ◌∙◌, subst, inl, inr, AbreastStays, AnswersCheck, CutCheck, CutOf, CutProof, FindsUnproved, Grows, HasDeclared, HasLevels, HasRegexes, HasTrue, Holds, IsAbreast, IsFit, IsKnown, IsProved, IsTracked, IsVerdict, Outside, Progress, ProvesCheck, Proving, SessionState, Sort, Stacked, State, Stop, Store, Term, Verdict, WorldError, end_writes, false≢true, found, is_outside, is_proved, is_sorted_state, is_sat, is_unknown, is_unsat, last_lines, live_constants, moved_by, moved_by-nothing, plain, proof_of, session_of, settled, state_of, stop_of, verdict_in, verdict_text, without_words, write_at, writing_all, Decider, Knows, newest_format, text_of, header_line, end_line, bytes_of, with_bytes, Assumption, given_in, question_of}
use Rattle.sb_world.specs.declared.OutPort.TheVariants as out_port
use Rattle.sb_world.specs.declared.WorldError.TheVariants as world_error
use Rattle.sb_stack.specs.declared.verdict.Verdict as code
use Rattle.sb_stack.specs.declared.verdict.Verdict.TheVariants as verdict
use Rattle.sb_session.specs.declared.command.Stop.TheVariants as stop
use Rattle.sb_session.proofs.WritingLemmas.{one_written, one_cut, none_cut, lines_written, lines_cut, behind_lines, cut_in_lines, cut_behind_lines}

abreast_of : (s : SessionState) (proving : Proving) (p : Progress) → s.proof ≡ Some proving → IsTracked s p
    → IsAbreast s.store proving p
abreast_of s proving p e h = subst (λ (proof : Option Proving). IsTracked (record s { proof = proof }) p) e h

tracked_by : (s : SessionState) (proving : Proving) (p : Progress) → s.proof ≡ Some proving
    → IsAbreast s.store proving p → IsTracked s p
tracked_by s proving p e h = subst (λ (proof : Option Proving). IsTracked (record s { proof = proof }) p) (sym e) h

pub ok_map : {T E : Type 0} {P Q : T → Type 0} (r : Result T E) → ((x : T) → P x → Q x) → IfOk r P → IfOk r Q
ok_map (Ok x) f h = f x h
ok_map (Err e) f h = tt

pub some_weaker : {T : Type 0} (o : Option T) (P Q : T → Type 0) → ((x : T) → P x → Q x) → IfSome o P → IfSome o Q
some_weaker None P Q f h = tt
some_weaker (Some x) P Q f h = f x h

-- no error of the outside is want of steps
pub never_spent : (s : Stop) (e : WorldError) → s ≡ stop_of e → s ≡ stop.Spent → ⊥
never_spent s world_error.Failed is h = Prim.cc (is, h)
never_spent s world_error.NoMemory is h = Prim.cc (is, h)

-- a proof is written, or none
pub is_kind : (proved : Bool) (proving : Proving) → is_some (proof_of proved proving) ≡ proved
is_kind true proving = refl
is_kind false proving = refl

-- where a proof is written, it has come so far
pub tracked_if : (s : SessionState) (proved : Bool) (proving : Proving) (p : Progress)
    → s.proof ≡ proof_of proved proving → IsAbreast s.store proving p → IsTracked s p
tracked_if s false proving p e h = subst (λ (o : Option Proving). IsTracked (record s { proof = o }) p) (sym e) tt
tracked_if s true proving p e h = tracked_by s proving p e h

-- The end of the proof.

-- the last lines are not empty
last_lines_begin : (p : Progress) → (b : ℕ) × (bytes : List ℕ) × (last_lines p ≡ b ∷ bytes)
last_lines_begin p = by_begun p.begun
  where
    by_begun : (begun : Bool)
        → (b : ℕ) × (bytes : List ℕ)
        × (bytes_of (map text_of (if begun then end_line ∷ [] else header_line newest_format ∷ end_line ∷ []))
        ≡ b ∷ bytes)
    by_begun true = (101, codes "nd\n", refl)
    by_begun false = (115, drop 1 (bytes_of (map text_of (header_line newest_format ∷ end_line ∷ []))), refl)

-- without a proof nothing is written
pub end_untold : (s : SessionState) (proving : Proving) (p : Progress) (o : Outside) → s.proof ≡ proof_of false proving
    → o ≡ moved_by (writing_all (end_writes (is_proved s) p)) o
end_untold s proving p o e =
    subst (λ (b : Bool). o ≡ moved_by (writing_all (end_writes b p)) o) (sym (ap is_some e)) (sym (moved_by-nothing o))

pub end_none : (s : SessionState) (proving : Proving) (p : Progress) (old new : Outside) → s.proof ≡ Some proving
    → new ≡ old → CutOf (end_writes (is_proved s) p) old new
end_none s proving p old new e same =
    let last = last_lines_begin p in
    subst (λ (b : Bool). CutOf (end_writes b p) old new) (sym (ap is_some e))
    (subst (λ (bytes : List ℕ). CutOf ((out_port.Proof, bytes) ∷ []) old new) (sym last.2)
    (none_cut out_port.Proof last.0 last.1 [] old new same))

-- what the tape tells is what was put
told_is : (bytes lines : List ℕ) → Some bytes ≡ with_bytes lines (Some []) → bytes ≡ lines
told_is bytes lines e = cc

told_behind : (empty told lines : List ℕ) → empty ≡ [] → Some told ≡ with_bytes lines (Some empty) → told ≡ lines
told_behind empty told lines start e =
    told_is told lines (e ∙ ap (λ (x : List ℕ). with_bytes lines (Some x)) start)

-- what the prover promises of the last lines
abbrev pub Finishes : Proving → List ℕ → List ℕ → Type 0
Finishes proving empty told = (store : Store) (p : Progress) → IsAbreast store proving p
    → Some told ≡ with_bytes (last_lines p) (Some empty)

pub end_written : (s : SessionState) (proving : Proving) (p : Progress) (empty told bytes : List ℕ) (old new : Outside)
    → s.proof ≡ Some proving → IsTracked s p → empty ≡ [] → bytes ≡ told → Finishes proving empty told
    → new ≡ write_at out_port.Proof bytes old → new ≡ moved_by (writing_all (end_writes (is_proved s) p)) old
end_written s proving p empty told bytes old new e tracked start same tells written =
    let is = same ∙ told_behind empty told (last_lines p) start
    (tells s.store p (abreast_of s proving p e tracked)) in
    subst (λ (b : Bool). new ≡ moved_by (writing_all (end_writes b p)) old) (sym (ap is_some e))
    (one_written out_port.Proof (last_lines p) old new
    (written ∙ ap (λ (x : List ℕ). write_at out_port.Proof x old) is))

pub end_cut_short : (s : SessionState) (proving : Proving) (p : Progress) (empty told bytes : List ℕ)
    (old new : Outside) → s.proof ≡ Some proving → IsTracked s p → empty ≡ [] → bytes ≡ told
    → Finishes proving empty told
    → ((out : ℕ) × (out < length bytes) × (new ≡ write_at out_port.Proof (take out bytes) old))
    → CutOf (end_writes (is_proved s) p) old new
end_cut_short s proving p empty told bytes old new e tracked start same tells cut =
    let is = same ∙ told_behind empty told (last_lines p) start
    (tells s.store p (abreast_of s proving p e tracked)) in
    subst (λ (b : Bool). CutOf (end_writes b p) old new) (sym (ap is_some e))
    (one_cut out_port.Proof (last_lines p) old new
    (subst (λ (x : List ℕ). (out : ℕ) × (out < length x) × (new ≡ write_at out_port.Proof (take out x) old)) is cut))

-- The lines of a check.

module _ (st : Stacked) (old new : Decider) (before after : Proving) (v : Verdict) (p : Progress)
    (empty told bytes : List ℕ) (o o' : Outside) (start : empty ≡ []) (same : bytes ≡ told)
    (is : IsVerdict (state_of st) (given_in st) v)
    (proves : (q : Progress) → IsAbreast old.store before q
    → IsProved (question_of st) v q new.store after (Some empty) (Some told)) where
  pub check_proved : (proved : Bool) → proved ≡ true → o' ≡ write_at out_port.Proof bytes o
      → IsTracked (session_of st old (proof_of proved before)) p
      → ProvesCheck (state_of st) (given_in st) v p (is_some (proof_of proved before))
      (session_of st new (proof_of proved after)) o o'
  check_proved false e written tracked = absurd (false≢true e)
  check_proved true e written tracked =
      let h = proves p tracked in
      record {
        lines = h.lines;
        progress = h.after;
        finds = (is, h.proves);
        tracked = h.abreast;
        outside = lines_written h.lines o o' (written ∙ ap (λ (x : List ℕ). write_at out_port.Proof x o)
            (same ∙ told_behind empty told h.lines start h.told));
      }

  pub check_cut : (proved : Bool) → proved ≡ true
      → ((out : ℕ) × (out < length bytes) × (o' ≡ write_at out_port.Proof (take out bytes) o))
      → IsTracked (session_of st old (proof_of proved before)) p
      → CutProof (state_of st) (given_in st) p (is_some (proof_of proved before)) o o'
  check_cut false e cut tracked = absurd (false≢true e)
  check_cut true e cut tracked =
      let h = proves p tracked in
      record {
        v = v;
        lines = h.lines;
        progress = h.after;
        finds = (is, h.proves);
        cut = lines_cut h.lines o o'
            (subst (λ (x : List ℕ). (out : ℕ) × (out < length x) × (o' ≡ write_at out_port.Proof (take out x) o))
            (same ∙ told_behind empty told h.lines start h.told) cut);
      }

-- without a proof
pub check_unwritten : (st : Stacked) (new : Decider) (before after : Proving) (v : Verdict) (p : Progress)
    (proved : Bool) (o : Outside) → proved ≡ false → FindsUnproved (state_of st) (given_in st) [] v
    → ProvesCheck (state_of st) (given_in st) v p (is_some (proof_of proved before))
    (session_of st new (proof_of proved after)) o o
check_unwritten st new before after v p true o e h = absurd (false≢true (sym e))
check_unwritten st new before after v p false o e h =
    record { lines = []; progress = p; finds = (h, refl); tracked = tt; outside = sym (moved_by-nothing o) }

-- A state's mode is nothing to what a verdict makes of it.

settled_of_same : (v : Verdict) (s t : State) → record s { mode = plain } ≡ record t { mode = plain }
    → settled v s ≡ settled v t
settled_of_same (is_sat w) s t e = ap (settled (is_sat w)) e
settled_of_same (is_unsat named) s t e = ap (settled (is_unsat named)) e
settled_of_same is_unknown s t e = ap (settled is_unknown) e
settled_of_same is_outside s t e = ap (settled is_outside) e

-- what is known of the proof stays where more is derived
pub tracked_stays : AbreastStays → (ts : List Term) (session after : SessionState) (p : Progress)
    → after.proof ≡ session.proof → Grows ts session.store after.store → IsTracked session p → IsTracked after p
tracked_stays stays ts session after p same grows h = by_proof session.proof same h
  where
    by_proof : (proof : Option Proving) → after.proof ≡ proof
        → IsTracked (record session { proof = proof }) p → IsTracked after p
    by_proof None e h = subst (λ (o : Option Proving). IsTracked (record after { proof = o }) p) (sym e) tt
    by_proof (Some proving) e h =
        tracked_by after proving p e (stays ts session.store after.store proving p grows h)

module _ (p : Progress) (session proven after : SessionState) (v : Verdict) where
  -- the check is answered
  pub check_answered : (old mid new : Outside) → ((q : Progress) → IsTracked proven q → IsTracked after q)
      → ProvesCheck (state_of session.stack) (given_in session.stack) v p (is_proved session) proven old mid
      → state_of after.stack ≡ settled v (state_of session.stack)
      → new ≡ write_at out_port.Answers (verdict_text v) mid → AnswersCheck p session after old new
  check_answered old mid new stays h settles written = record {
    v = v;
    lines = h.lines;
    progress = h.progress;
    finds = h.finds;
    state = settles;
    tracked = stays h.progress h.tracked;
    outside = behind_lines h.lines ((out_port.Answers, verdict_text v) ∷ []) old mid new h.outside
        (one_written out_port.Answers (verdict_text v) mid new written);
  }

  -- its answer is cut
  pub answer_cut : (old mid new : Outside)
      → ProvesCheck (state_of session.stack) (given_in session.stack) v p (is_proved session) proven old mid
      → ((out : ℕ) × (out < length (verdict_text v))
      × (new ≡ write_at out_port.Answers (take out (verdict_text v)) mid))
      → CutCheck p session old new
  answer_cut old mid new h cut = record {
    v = v;
    lines = h.lines;
    progress = h.progress;
    finds = h.finds;
    cut = cut_behind_lines h.lines ((out_port.Answers, verdict_text v) ∷ []) old mid new h.outside
        (one_cut out_port.Answers (verdict_text v) mid new cut);
  }

-- its proof is cut
pub proof_cut : (p : Progress) (session : SessionState) (old new : Outside)
    → (new ≡ old) ⊎ CutProof (state_of session.stack) (given_in session.stack) p (is_proved session) old new
    → (new ≡ old) ⊎ CutCheck p session old new
proof_cut p session old new (inl same) = inl same
proof_cut p session old new (inr h) = inr (record {
  v = h.v;
  lines = h.lines;
  progress = h.progress;
  finds = h.finds;
  cut = cut_in_lines h.lines ((out_port.Answers, verdict_text h.v) ∷ []) old new h.cut;
})

-- a verdict makes the same of states that differ in their mode and words alone
pub settled_of_rest : (v : code.Verdict) (old new : Stacked) → without_words new ≡ without_words old
    → settled (verdict_in (live_constants new) v) (state_of new)
    ≡ settled (verdict_in (live_constants old) v) (state_of old)
settled_of_rest v old new e =
    ap (λ (ns : List (ℕ × Sort)). settled (verdict_in ns v) (state_of new)) (ap (λ (s : Stacked). live_constants s) e)
    ∙ settled_of_same (verdict_in (live_constants old) v) (state_of new) (state_of old)
    (ap (λ (s : Stacked). record (state_of s) { mode = plain }) e)

pub text_of_rest : (v : code.Verdict) (old new : Stacked) → without_words new ≡ without_words old
    → verdict_text (verdict_in (live_constants new) v) ≡ verdict_text (verdict_in (live_constants old) v)
text_of_rest v old new e = ap (λ (s : Stacked). verdict_text (verdict_in (live_constants s) v)) e

-- What holds goes on to hold behind a check, since the state is the same but for its mode.
pub held_found : (v : code.Verdict) (old new : Stacked) (kept : Decider) (proving : Proving)
    → without_words new ≡ without_words old → Knows kept (found v new) → HasRegexes kept.store proving
    → HasLevels (state_of old) proving → IsFit (state_of old) → is_sorted_state (state_of old) ≡ true
    → HasTrue (state_of old) kept.store proving → HasDeclared (state_of old) proving
    → Holds (found v new) kept proving
held_found v old new kept proving rest knows regexes levels fit sorted sound declared = record {
  knows = knows;
  regexes = regexes;
  levels = subst (λ (t : State). HasLevels t proving) same levels;
  fit = subst (λ (t : State). IsFit t) same fit;
  sorted = subst (λ (t : State). is_sorted_state t ≡ true) same sorted;
  sound = subst (λ (t : State). HasTrue t kept.store proving) same sound;
  declared = subst (λ (t : State). HasDeclared t proving) same declared;
}
  where
    of : (v : code.Verdict) → record (state_of new) { mode = plain } ≡ record (state_of (found v new)) { mode = plain }
    of (verdict.Sat words truths) = refl
    of (verdict.Unsat assumptions) = refl
    of verdict.Unknown = refl
    of verdict.Outside = refl

    same : record (state_of old) { mode = plain } ≡ record (state_of (found v new)) { mode = plain }
    same = sym (ap (λ (s : Stacked). record (state_of s) { mode = plain }) rest) ∙ of v

-- Without a proof a verdict that is known may be given.

pub known_finds : (s : State) (given : List Assumption) (ns : List (ℕ × Sort)) (v : code.Verdict) → IsKnown v
    → IsVerdict s given (verdict_in ns v) → FindsUnproved s given [] (verdict_in ns v)
known_finds s given ns (verdict.Sat words truths) known h = (refl, h)
known_finds s given ns (verdict.Unsat assumptions) known h = (refl, h)
known_finds s given ns verdict.Unknown known h = absurd known
known_finds s given ns verdict.Outside known h = (refl, h)

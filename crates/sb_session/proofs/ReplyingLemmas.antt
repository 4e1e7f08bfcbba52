-- What a whole run answers, whatever stands in its proof.
use Rattle.sb_session.proofs.Words.{◌≡◌, ◌⊎◌, ℕ, ◌+◌, Bool, true, false, if◌then◌else◌, List, [], ◌∷◌, ◌++◌, length, take, drop, Option, Some, None, option_map, IfSome, append_assoc, refl, sym, ap, ap₂, ◌∙◌, subst, inl, inr, arith, Along, Answered, AnsweredToTheEnd, AnsweredToTheExit, AnsweredUnfinished, Answering, Answers, AnswersBy, AnswersUpTo, Asked, Cut, CutInScript, CutShort, EndsBy, Entry, Finding, FindsProved, FindsUnproved, GoesOn, HoldsNoEntry, IsAll, IsAnswered, IsAnsweredOn, IsCut, IsFront, IsProperFront, IsReadOf, IsReply, IsTouched, MayFind, Moved, Outside, PastLimit, Progress, Reached, Run, SolveStatus, Stage, State, Verdict, Write, append-nil, asks_proof, beginnings, created, drop-length, end_writes, false≢true, is_exit, is_open_gap, is_outside, is_sat, is_unknown, is_unsat, moved_by, moved_by-nothing, open_at, opened, read_at, source_of, step_of, take-append-drop, unfinished_line, unfinished_writes, with_lines, work, write_at, writing_all, writing_all-append, ◌≤◌, length-append, MayBeUndecided, IsVerdict, steps_allowed, LinesAreCounted}
use Rattle.sb_world.specs.declared.InPort.TheVariants as in_port
use Rattle.sb_world.specs.declared.OutPort.TheVariants as out_port
use Rattle.sb_world.specs.Outside.{Output}
use Rattle.sb_script.specs.State.{Assumption, start}
use Rattle.sb_script.specs.Steps as meaning
use Rattle.sb_session.specs.Reading.{ComesNext, CutAnswer, CutBetween, NextAnswer}
use Rattle.sb_session.specs.declared.solve.SolveStatus.TheVariants.{Done, Unfinished, Usage, Fault, NoMemory, InputLimit}
use Rattle.sb_session.proofs.CertifyingLemmas.{proof_in, proof_in-append, proof_of_answer}
use Rattle.sb_session.proofs.UndecidedLemmas.{IsWithin, wider, certified_leads}
use Rattle.sb_session.proofs.EndLemmas.{begins_first, front_of_all}
use Rattle.sb_session.proofs.SolveLemmas.{script_opened}
use Rattle.sb_session.proofs.WritingLemmas.{writes_on, work_reads}

-- What pieces say to standard output, where none of them goes to standard error.

abbrev answers_in : List Write → List ℕ
answers_in writes = (writing_all writes).answers

abbrev AreQuiet : List Write → Type 0
AreQuiet [] = Unit {0}
AreQuiet ((out_port.Faults, bytes) ∷ writes) = ⊥
AreQuiet ((_, bytes) ∷ writes) = AreQuiet writes

-- the pieces say this
abbrev Say : List Write → List ℕ → Type 0
Say writes bytes = AreQuiet writes × (answers_in writes ≡ bytes)

quiet_faults : (writes : List Write) → AreQuiet writes → (writing_all writes).faults ≡ []
quiet_faults [] h = refl
quiet_faults ((out_port.Answers, bytes) ∷ writes) h = quiet_faults writes h
quiet_faults ((out_port.Proof, bytes) ∷ writes) h = quiet_faults writes h
quiet_faults ((out_port.Faults, bytes) ∷ writes) h = absurd h

quiet_both : (writes more : List Write) → AreQuiet writes → AreQuiet more → AreQuiet (writes ++ more)
quiet_both [] more h k = k
quiet_both ((out_port.Answers, bytes) ∷ writes) more h k = quiet_both writes more h k
quiet_both ((out_port.Proof, bytes) ∷ writes) more h k = quiet_both writes more h k
quiet_both ((out_port.Faults, bytes) ∷ writes) more h k = absurd h

say_both : (writes more : List Write) (first second : List ℕ) → Say writes first → Say more second
    → Say (writes ++ more) (first ++ second)
say_both writes more first second h k = (
  quiet_both writes more h.0 k.0,
  ap (λ (m : Moved). m.answers) (writing_all-append writes more) ∙ ap₂ (λ (x y : List ℕ). x ++ y) h.1 k.1,
)

-- no proof is read by what is written
no_proof_read : (writes : List Write) → (writing_all writes).proof ≡ 0
no_proof_read [] = refl
no_proof_read ((out_port.Answers, bytes) ∷ writes) = let h = no_proof_read writes in omega arith
no_proof_read ((out_port.Proof, bytes) ∷ writes) = let h = no_proof_read writes in omega arith
no_proof_read ((out_port.Faults, bytes) ∷ writes) = let h = no_proof_read writes in omega arith

say_answer : (lines reply : List ℕ) → Say (with_lines lines ((out_port.Answers, reply) ∷ [])) reply
say_answer [] reply = (tt, append-nil reply)
say_answer (b ∷ bs) reply = (tt, append-nil reply)

-- the end of a proof says nothing
say_end : (proved : Bool) (p : Progress) → Say (end_writes proved p) []
say_end true p = (tt, refl)
say_end false p = (tt, refl)

say_end_if : (ends proved : Bool) (p : Progress) → Say (if ends then end_writes proved p else []) []
say_end_if true proved p = say_end proved p
say_end_if false proved p = (tt, refl)

say_piece : (bytes : List ℕ) → Say ((out_port.Answers, bytes) ∷ []) bytes
say_piece bytes = (tt, append-nil bytes)

taken_on : (out : ℕ) (bytes more : List ℕ) → bytes ++ more ≡ (take out bytes ++ []) ++ (drop out bytes ++ more)
taken_on out bytes more =
    ap (λ (x : List ℕ). x ++ more) (sym (take-append-drop out bytes))
    ∙ (append_assoc (take out bytes) (drop out bytes) more
    ∙ ap (λ (x : List ℕ). x ++ (drop out bytes ++ more)) (sym (append-nil (take out bytes))))

-- a front of pieces says a front of what they say
front_says : (front own : List Write) → IsProperFront front own → AreQuiet own
    → AreQuiet front × ((rest : List ℕ) × (answers_in own ≡ answers_in front ++ rest))
front_says front [] h quiet = absurd h
front_says front ((out_port.Answers, bytes) ∷ own) (inl h) quiet =
    subst (λ (ws : List Write). AreQuiet ws
    × ((rest : List ℕ) × (bytes ++ answers_in own ≡ answers_in ws ++ rest))) (sym h.2)
    (tt, (drop h.0 bytes ++ answers_in own, taken_on h.0 bytes (answers_in own)))
front_says front ((out_port.Proof, bytes) ∷ own) (inl h) quiet =
    subst (λ (ws : List Write). AreQuiet ws × ((rest : List ℕ) × (answers_in own ≡ answers_in ws ++ rest))) (sym h.2)
    (tt, (answers_in own, refl))
front_says front ((out_port.Faults, bytes) ∷ own) (inl h) quiet = absurd quiet
front_says front ((out_port.Answers, bytes) ∷ own) (inr h) quiet =
    let further = front_says h.0 own h.2 quiet in
    subst (λ (ws : List Write). AreQuiet ws
    × ((rest : List ℕ) × (bytes ++ answers_in own ≡ answers_in ws ++ rest))) (sym h.1) (
      further.0,
      (further.1.0, ap (λ (x : List ℕ). bytes ++ x) further.1.1 ∙ sym (append_assoc bytes (answers_in h.0) further.1.0)),
    )
front_says front ((out_port.Proof, bytes) ∷ own) (inr h) quiet =
    subst (λ (ws : List Write). AreQuiet ws × ((rest : List ℕ) × (answers_in own ≡ answers_in ws ++ rest))) (sym h.1)
    (front_says h.0 own h.2 quiet)
front_says front ((out_port.Faults, bytes) ∷ own) (inr h) quiet = absurd quiet

-- What is written of a proof.

-- so many bytes are, where it is told
abbrev AtLeast : ℕ → Option (List ℕ) → Type 0
AtLeast n written = IfSome written (λ bytes. n ≤ length bytes)

fewer : (n m : ℕ) (written : Option (List ℕ)) → n ≤ m → AtLeast m written → AtLeast n written
fewer n m None less h = tt
fewer n m (Some bytes) less h = omega (arith, less, h)

written_behind : (told : Option (List ℕ)) (bytes : List ℕ)
    → AtLeast (length bytes) (option_map (λ w. w ++ bytes) told)
written_behind None bytes = tt
written_behind (Some front) bytes = omega (arith, length-append front bytes)

all_written : (o new : Outside) (count : ℕ) (writes : List Write) → new ≡ moved_by (work count writes) o
    → AtLeast (length (proof_in writes)) new.proof_out.written
all_written o new count writes e =
    subst (λ (x : Outside). AtLeast (length (proof_in writes)) x.proof_out.written) (sym e)
    (written_behind o.proof_out.written (proof_in writes))

length-proof : (writes more : List Write)
    → length (proof_in (writes ++ more)) ≡ length (proof_in writes) + length (proof_in more)
length-proof writes more = ap length (proof_in-append writes more) ∙ length-append (proof_in writes) (proof_in more)

-- The reply to an entry, without the lines of its proof.

-- a verdict that is found may be, where as much is written as an undecided check has steps
may_find : (proved : Bool) (written : Option (List ℕ)) (s : State) (given : List Assumption) (v : Verdict)
    → IsVerdict s given v → (v ≡ is_unknown → MayBeUndecided proved written s) → MayFind proved written s given [] v
may_find proved written s given (is_sat w) h so = h
may_find proved written s given (is_unsat named) h so = h
may_find proved written s given is_unknown h so = (h, so refl)
may_find proved written s given is_outside h so = h

unproved_may : (written : Option (List ℕ)) (s : State) (given : List Assumption) (lines : List ℕ) (v : Verdict)
    → FindsUnproved s given lines v → MayFind false written s given [] v
unproved_may written s given lines (is_sat w) h = h.1
unproved_may written s given lines (is_unsat named) h = h.1
unproved_may written s given lines is_unknown h = absurd h
unproved_may written s given lines is_outside h = h.1

reply_without : (Finds May : Finding) (step : meaning.Step) (s : State) (lines : List ℕ) (found : Option Verdict)
    (reply : List ℕ) (after : State)
    → ((given : List Assumption) (v : Verdict) → found ≡ Some v → Finds s given lines v → May s given [] v)
    → IsReply Finds step s lines found reply after → IsReply May step s [] found reply after
reply_without Finds May (meaning.answers bytes new) s lines found reply after finds h = (refl, h.1, h.2, h.3)
reply_without Finds May (meaning.leaves what bytes new) s lines found reply after finds h = (refl, h.1, h.2, h.3)
reply_without Finds May (meaning.checks given) s lines found reply after finds h =
    (h.0, finds given h.0 h.2 h.1, h.2, h.3, h.4)
reply_without Finds May (meaning.exits bytes) s lines found reply after finds h = (refl, h.1, h.2, h.3)

module _ (counts : LinesAreCounted) (written : Option (List ℕ)) where
  answered_by : (n : ℕ) (proved : Bool) (s : Stage) (entry : Entry) (lines reply : List ℕ) (found : Option Verdict)
      (after : Stage) → IsWithin n s.1 → AtLeast (n + length lines) written
      → Answering proved s entry lines reply found after
      → IsAnswered proved written s.0 entry reply after.0 × IsWithin (n + length lines) after.1
  answered_by n true s entry lines reply found after within room h =
      let leads = certified_leads counts n s entry lines reply found after within h in (
        (
          found,
          reply_without (FindsProved s.1 after.1) (MayFind true written) (step_of entry s.0) s.0 lines found reply
              after.0 (λ given v is finds. may_find true written s.0 given v finds.0
              (λ unknown. (
                refl,
                fewer (steps_allowed s.0) (n + length lines) written
                    (leads.spent (is ∙ ap Some unknown)) room,
              ))) h.replies,
        ),
        leads.within,
      )
  answered_by n false s entry lines reply found after within room h = (
    (
      found,
      reply_without FindsUnproved (MayFind false written) (step_of entry s.0) s.0 lines found reply after.0
          (λ given v is finds. unproved_may written s.0 given lines v finds) h.0,
    ),
    subst (IsWithin (n + length lines)) (sym h.1)
        (record { rests = within.rests; counted = let few = within.counted in omega (arith, few) }),
  )

  -- what answers an entry is a reply to it
  answered : (n : ℕ) (proved : Bool) (s : Stage) (entry : Entry) (writes : List Write) (after : Stage) → IsWithin n s.1
      → AtLeast (n + length (proof_in writes)) written → (h : Answers proved s entry writes after)
      → IsAnswered proved written s.0 entry h.reply after.0 × Say writes h.reply
      × IsWithin (n + length (proof_in writes)) after.1
  answered n proved s entry writes after within room h =
      let lines : proof_in writes ≡ h.lines = ap proof_in h.written ∙ proof_of_answer h.lines h.reply in
      let by = answered_by n proved s entry h.lines h.reply h.found after within
      (subst (λ (bytes : List ℕ). AtLeast (n + length bytes) written) lines room) h.answered in (
        by.0,
        subst (λ (ws : List Write). Say ws h.reply) (sym h.written) (say_answer h.lines h.reply),
        subst (λ (bytes : List ℕ). IsWithin (n + length bytes) after.1) (sym lines) by.1,
      )

  -- and all of them one after another
  answered_along : (n : ℕ) (proved : Bool) (s : Stage) (entries : List Entry) (writes : List Write) (after : Stage)
      → IsWithin n s.1 → AtLeast (n + length (proof_in writes)) written
      → Along (GoesOn proved) s entries writes after
      → (answers : List ℕ) × Along (IsAnsweredOn proved written) s.0 entries answers after.0 × Say writes answers
      × IsWithin (n + length (proof_in writes)) after.1
  answered_along n proved s [] writes after within room h = (
    [],
    (refl, ap (λ (t : Stage). t.0) h.1),
    subst (λ (ws : List Write). Say ws []) (sym h.0) (tt, refl),
    subst (λ (t : Stage). IsWithin (n + length (proof_in writes)) t.1) (sym h.1)
        (wider n (n + length (proof_in writes)) s.1 (omega arith) within),
  )
  answered_along n proved s (entry ∷ entries) writes after within room h =
      let own_bytes = length (proof_in h.0) in
      let more_bytes = length (proof_in h.1) in
      let long : length (proof_in writes) ≡ own_bytes + more_bytes =
      ap (λ (ws : List Write). length (proof_in ws)) h.4 ∙ length-proof h.0 h.1 in
      let reply = h.3.1.reply in
      let own = answered n proved s entry h.0 h.2 within
      (fewer (n + own_bytes) (n + length (proof_in writes)) written (omega (arith, long)) room) h.3.1 in
      let rest = answered_along (n + own_bytes) proved h.2 entries h.1 after own.2
      (fewer (n + own_bytes + more_bytes) (n + length (proof_in writes)) written (omega (arith, long)) room) h.5 in (
        reply ++ rest.0,
        (reply, rest.0, h.2.0, (h.3.0, own.0), refl, rest.1),
        subst (λ (ws : List Write). Say ws (reply ++ rest.0)) (sym h.4) (say_both h.0 h.1 reply rest.0 own.1 rest.2),
        wider (n + own_bytes + more_bytes) (n + length (proof_in writes)) after.1 (omega (arith, long)) rest.3,
      )

-- What is touched.

-- the outside with this left of its inputs, and this written to two outputs; the third one is this
abbrev with_parts : Outside → Output → Option (List ℕ) → Option (List ℕ) → Option (List ℕ) → Option (List ℕ) → Outside
with_parts o proof_out script proof answers faults = record o {
  script_in = record o.script_in { left = script };
  proof_in = record o.proof_in { left = proof };
  answers = record o.answers { written = answers };
  proof_out = proof_out;
  faults = record o.faults { written = faults };
}

same_parts : (o : Outside) (proof_out : Output) (a b c d a' b' c' d' : Option (List ℕ)) → a ≡ a' → b ≡ b' → c ≡ c'
    → d ≡ d' → with_parts o proof_out a b c d ≡ with_parts o proof_out a' b' c' d'
same_parts o proof_out a b c d a' b' c' d' p q r s = rw (p, q, r, s) refl

-- all but what takes a proof
abbrev touched_by : ℕ → List ℕ → Output → Outside → Outside
touched_by count bytes proof_out o =
    record (write_at out_port.Answers bytes (read_at in_port.Script count o)) { proof_out = proof_out }

moved_so : (m : Moved) (count : ℕ) (bytes : List ℕ) (o : Outside) → m.script ≡ count → m.proof ≡ 0 → m.answers ≡ bytes
    → m.faults ≡ [] → moved_by m o ≡ touched_by count bytes (moved_by m o).proof_out o
moved_so m count bytes o p q r s =
    same_parts o (moved_by m o).proof_out
    (option_map (drop m.script) o.script_in.left) (option_map (drop m.proof) o.proof_in.left)
    (option_map (λ w. w ++ m.answers) o.answers.written) (option_map (λ w. w ++ m.faults) o.faults.written)
    (option_map (drop count) o.script_in.left) o.proof_in.left
    (option_map (λ w. w ++ bytes) o.answers.written) o.faults.written
    (ap (λ (n : ℕ). option_map (drop n) o.script_in.left) p)
    (ap (λ (n : ℕ). option_map (drop n) o.proof_in.left) q
    ∙ ap (λ (x : Outside). x.proof_in.left) (moved_by-nothing o))
    (ap (λ (b : List ℕ). option_map (λ w. w ++ b) o.answers.written) r)
    (ap (λ (b : List ℕ). option_map (λ w. w ++ b) o.faults.written) s
    ∙ ap (λ (x : Outside). x.faults.written) (moved_by-nothing o))

-- what takes the proof plays no part
created_or_not : (proof : Option (List ℕ)) (count : ℕ) (bytes : List ℕ) (proof_out : Output) (o : Outside)
    → touched_by count bytes proof_out (created proof o) ≡ touched_by count bytes proof_out o
created_or_not None count bytes proof_out o = refl
created_or_not (Some name) count bytes proof_out o = refl

touched : (asked : Asked) (proof : Option (List ℕ)) (count : ℕ) (writes : List Write) (bytes : List ℕ)
    (old new : Outside) → Say writes bytes
    → new ≡ moved_by (work count writes) (created proof (open_at in_port.Script asked.script old))
    → IsTouched asked count bytes old new
touched asked proof count writes bytes old new say e =
    let o = open_at in_port.Script asked.script old in
    let none : (work count writes).proof ≡ 0 = let h = no_proof_read writes in omega arith in
    e
    ∙ (moved_so (work count writes) count bytes (created proof o) (work_reads count writes) none say.1
    (quiet_faults writes say.0)
    ∙ (ap (λ (out : Output). touched_by count bytes out (created proof o)) (ap (λ (x : Outside). x.proof_out) (sym e))
    ∙ created_or_not proof count bytes new.proof_out o))

-- How far the run came.

read_of : (source : Option (List ℕ)) (bytes : List ℕ) (ended : Bool)
    → IfSome source (λ all. all ≡ bytes ++ drop (length bytes) all)
    → (ended ≡ true → IfSome source (λ all. all ≡ bytes)) → IsReadOf source bytes ended
read_of None bytes ended front whole = tt
read_of (Some all) bytes ended front whole =
    (drop (length bytes) all, front, λ e. ap (drop (length bytes)) (whole e) ∙ drop-length bytes)

read_script : (asked : Asked) (old : Outside) (bytes : List ℕ) (ended : Bool) → IsFront bytes (opened asked old)
    → (ended ≡ true → IsAll bytes (opened asked old)) → IsReadOf (source_of asked.script old) bytes ended
read_script asked old bytes ended front whole =
    subst (λ (source : Option (List ℕ)). IsReadOf source bytes ended) (script_opened asked old)
    (read_of (opened asked old).script_in.left bytes ended front whole)

-- the pieces are all that is written
and_no_more : (asked : Asked) (old new : Outside) (count : ℕ) (writes : List Write)
    → new ≡ moved_by (work count writes) (opened asked old) → new ≡ moved_by (work count (writes ++ [])) (opened asked old)
and_no_more asked old new count writes e =
    e ∙ ap (λ (ws : List Write). moved_by (work count ws) (opened asked old)) (sym (append-nil writes))

-- Entries in front of the bytes are answered, and more is written behind.
module _ (counts : LinesAreCounted) (asked : Asked) (old new : Outside) (bytes : List ℕ) (ended : Bool)
    (entries : List Entry) (left : List ℕ) (writes : List Write) (s : Stage) (front : IsFront bytes (opened asked old))
    (whole : ended ≡ true → IsAll bytes (opened asked old))
    (so : Answered (asks_proof asked) bytes ended entries left writes s) (more : List Write)
    (e : new ≡ moved_by (work (length bytes) (writes ++ more)) (opened asked old)) where
  room : (n : ℕ) → n ≤ length (proof_in writes) + length (proof_in more) → AtLeast n new.proof_out.written
  room n less = fewer n (length (proof_in (writes ++ more))) new.proof_out.written
      (let long = length-proof writes more in omega (arith, less, long))
      (all_written (opened asked old) new (length bytes) (writes ++ more) e)

  abbrev said : (answers : List ℕ) × Along (IsAnsweredOn (asks_proof asked) new.proof_out.written) start entries answers s.0
      × Say writes answers × IsWithin (0 + length (proof_in writes)) s.1
  said = answered_along counts new.proof_out.written 0 (asks_proof asked) beginnings entries writes s
      (record { rests = refl; counted = omega arith }) (room (0 + length (proof_in writes)) (omega arith)) so.along

  abbrev reached : Reached (asks_proof asked) new.proof_out.written (source_of asked.script old)
  reached = record {
    bytes = bytes;
    ended = ended;
    entries = entries;
    left = left;
    answers = said.0;
    state = s.0;
    read = read_script asked old bytes ended front whole;
    begins = so.begins;
    along = said.1;
  }

  -- the reply to an entry whose lines are among what is written
  replied : (entry : Entry) (own : List Write) (after : Stage) → length (proof_in own) ≤ length (proof_in more)
      → (h : Answers (asks_proof asked) s entry own after)
      → IsAnswered (asks_proof asked) new.proof_out.written s.0 entry h.reply after.0 × Say own h.reply
  replied entry own after less h =
      let reply = answered counts new.proof_out.written (0 + length (proof_in writes)) (asks_proof asked) s entry own
      after said.3 (room (0 + length (proof_in writes) + length (proof_in own)) (omega (arith, less))) h in
      (reply.0, reply.1)

  up_to : (status : SolveStatus) (last : List ℕ) → Say more last → EndsBy status asked.limit reached last
      → AnswersUpTo asked status old new
  up_to status last say ends = record {
    reached = reached;
    last = last;
    ends = ends;
    touched = touched asked asked.proof (length bytes) (writes ++ more) (said.0 ++ last) old new
        (say_both writes more said.0 last said.2 say) e;
  }

-- a reply, and behind it what says nothing
say_reply : (own more : List Write) (reply : List ℕ) → Say own reply → Say more [] → Say (own ++ more) reply
say_reply own more reply h k = subst (Say (own ++ more)) (append-nil reply) (say_both own more reply [] h k)

-- A front of an answer has all of its lines, or nothing of its reply.
lines_in_front : (front : List Write) (lines reply : List ℕ) (more : List Write)
    → IsProperFront front (with_lines lines ((out_port.Answers, reply) ∷ []) ++ more)
    → (answers_in front ≡ []) ⊎ (length lines ≤ length (proof_in front))
lines_in_front front [] reply more h = inr (omega arith)
lines_in_front front (b ∷ bs) reply more (inl h) = inl (subst (λ (ws : List Write). answers_in ws ≡ []) (sym h.2) refl)
lines_in_front front (b ∷ bs) reply more (inr h) =
    inr (subst (λ (ws : List Write). length (b ∷ bs) ≤ length (proof_in ws)) (sym h.1)
    (omega (arith, length-append (b ∷ bs) (proof_in h.0))))

nothing_in_front : (first rest : List ℕ) → [] ≡ first ++ rest → first ≡ []
nothing_in_front [] rest e = refl
nothing_in_front (b ∷ first) rest e = absurd (let h = ap length e in omega arith)

module _ (counts : LinesAreCounted) (asked : Asked) (old new : Outside) where
  to_the_end : AnsweredToTheEnd asked old new → AnswersUpTo asked Done old new
  to_the_end h =
      let all = h.answered in
      up_to counts asked old new h.script true all.entries h.left all.writes all.s
      (front_of_all h.script (opened asked old) h.all) (λ _. h.all) all.answered (end_writes (asks_proof asked) all.s.1)
      (writes_on (opened asked old) h.before new (length h.script) all.writes (end_writes (asks_proof asked) all.s.1)
      all.outside h.ends)
      Done [] (say_end (asks_proof asked) all.s.1) (inl ((refl, all.none, h.clean), h.below_limit, refl))

  to_the_exit : AnsweredToTheExit asked old new → AnswersUpTo asked Done old new
  to_the_exit h =
      let up = h.answered in
      let proved = asks_proof asked in
      let last = end_writes proved up.after.1 in
      let first = begins_first h.ended h.bytes up.entries (up.exit ∷ []) up.left up.begins in
      let so : Answered proved h.bytes h.ended up.entries first.0 up.writes up.s =
      record { begins = first.1; along = up.along } in
      let e : new ≡ moved_by (work (length h.bytes) (up.writes ++ (up.own ++ last))) (opened asked old) =
      writes_on (opened asked old) h.before new (length h.bytes) (up.writes ++ up.own) last up.outside h.ends
      ∙ ap (λ (ws : List Write). moved_by (work (length h.bytes) ws) (opened asked old))
      (append_assoc up.writes up.own last) in
      let within = length-proof up.own last in
      let own = replied counts asked old new h.bytes h.ended up.entries first.0 up.writes up.s h.front h.whole so
      (up.own ++ last) e up.exit up.own up.after (omega (arith, within)) up.answers in
      up_to counts asked old new h.bytes h.ended up.entries first.0 up.writes up.s h.front h.whole so (up.own ++ last) e
      Done up.answers.reply
      (say_reply up.own last up.answers.reply own.1 (say_end proved up.after.1))
      (inr (
        record { entry = up.exit; behind = up.left; after = up.after.0; begins = up.begins; answered = own.0 },
        up.is_exit,
        h.within_limit,
      ))

  within_a_form : AnsweredUnfinished asked old new → AnswersUpTo asked Unfinished old new
  within_a_form h =
      let all = h.answered in
      let last = end_writes (asks_proof asked) all.s.1 in
      up_to counts asked old new h.script true all.entries h.left all.writes all.s
      (front_of_all h.script (opened asked old) h.all) (λ _. h.all) all.answered
      ((out_port.Answers, unfinished_line) ∷ last)
      (writes_on (opened asked old) h.before new (length h.script) all.writes
      ((out_port.Answers, unfinished_line) ∷ last) all.outside h.outside)
      Unfinished unfinished_line
      (say_reply ((out_port.Answers, unfinished_line) ∷ []) last unfinished_line (say_piece unfinished_line)
      (say_end (asks_proof asked) all.s.1))
      ((refl, all.none, h.unfinished), h.below_limit, refl)

  at_limit : PastLimit asked old new → AnswersUpTo asked InputLimit old new
  at_limit h =
      let all = h.answered in
      up_to counts asked old new h.bytes false all.entries h.left all.writes all.s h.front
      (λ e. absurd (false≢true e)) all.answered []
      (and_no_more asked old new (length h.bytes) all.writes all.outside) InputLimit [] (tt, refl)
      (refl, all.none, h.at_limit, refl)

  -- A run that is cut short.

  between : (h : CutInScript asked old new) → CutBetween (asks_proof asked) (opened asked old) h.bytes h.ended new
      → AnswersUpTo asked Fault old new
  between h cut =
      up_to counts asked old new h.bytes h.ended cut.entries cut.left cut.writes cut.s h.front h.whole cut.answered []
      (and_no_more asked old new (length h.bytes) cut.writes cut.outside) Fault [] (tt, refl) (inl refl)

module _ (counts : LinesAreCounted) (asked : Asked) (old new : Outside) (h : CutInScript asked old new)
    (cut : CutAnswer (asks_proof asked) (opened asked old) h.bytes h.ended new) where
  abbrev so_far : Reached (asks_proof asked) new.proof_out.written (source_of asked.script old)
  so_far = reached counts asked old new h.bytes h.ended cut.entries cut.left cut.writes cut.s h.front h.whole
      cut.answered cut.front cut.outside

  -- of pieces that say this a front is written
  in_front : (whole : List ℕ) → Say cut.own whole
      → ((rest : List ℕ) → whole ≡ answers_in cut.front ++ rest → IsCut so_far (answers_in cut.front))
      → AnswersUpTo asked Fault old new
  in_front whole say ends =
      let front = front_says cut.front cut.own cut.proper say.0 in
      up_to counts asked old new h.bytes h.ended cut.entries cut.left cut.writes cut.s h.front h.whole cut.answered
      cut.front cut.outside Fault (answers_in cut.front) (front.0, refl)
      (ends front.1.0 (sym say.1 ∙ front.1.1))

  in_reply : NextAnswer (asks_proof asked) h.bytes h.ended cut.entries cut.s cut.own → AnswersUpTo asked Fault old new
  in_reply next =
      in_front given.reply
      (subst (λ (ws : List Write). Say ws given.reply) (sym next.all)
      (say_reply next.answer last given.reply
      (subst (λ (ws : List Write). Say ws given.reply) (sym given.written) (say_answer given.lines given.reply))
      (say_end_if (is_exit next.next) (asks_proof asked) next.after.1)))
      (step (lines_in_front cut.front given.lines given.reply last
      (subst (IsProperFront cut.front) (next.all ∙ ap (λ (ws : List Write). ws ++ last) given.written) cut.proper)))
    where
      given : Answers (asks_proof asked) cut.s next.next next.answer next.after
      given = next.answers

      last : List Write
      last = if is_exit next.next then end_writes (asks_proof asked) next.after.1 else []

      bytes_are : proof_in next.answer ≡ given.lines
      bytes_are = ap proof_in given.written ∙ proof_of_answer given.lines given.reply

      step : (answers_in cut.front ≡ []) ⊎ (length given.lines ≤ length (proof_in cut.front)) → (rest : List ℕ)
          → given.reply ≡ answers_in cut.front ++ rest → IsCut so_far (answers_in cut.front)
      step (inl none) rest e = inl none
      step (inr long) rest e =
          let many = ap length bytes_are in
          let reply = replied counts asked old new h.bytes h.ended cut.entries cut.left cut.writes cut.s h.front h.whole
          cut.answered cut.front cut.outside next.next next.answer next.after (omega (arith, long, many)) given in
          inr (
            given.reply,
            rest,
            inl (record {
              entry = next.next;
              behind = next.behind;
              after = next.after.0;
              begins = next.begins;
              answered = reply.0;
            }),
            e,
          )

  in_end : (clean : Bool) → is_open_gap cut.left ≡ clean → h.ended ≡ true → HoldsNoEntry true cut.left
      → cut.own ≡ unfinished_writes clean ++ end_writes (asks_proof asked) cut.s.1 → AnswersUpTo asked Fault old new
  in_end true gap ended none own =
      in_front []
      (subst (λ (ws : List Write). Say ws []) (sym own) (say_end (asks_proof asked) cut.s.1))
      (λ rest e. inl (nothing_in_front (answers_in cut.front) rest e))
  in_end false gap ended none own =
      in_front unfinished_line
      (subst (λ (ws : List Write). Say ws unfinished_line) (sym own)
      (say_reply ((out_port.Answers, unfinished_line) ∷ []) (end_writes (asks_proof asked) cut.s.1) unfinished_line
      (say_piece unfinished_line) (say_end (asks_proof asked) cut.s.1)))
      (λ rest e. inr (unfinished_line, rest, inr ((ended, none, gap), refl), e))

  in_what_comes : ComesNext (asks_proof asked) h.bytes h.ended cut.entries cut.left cut.s cut.own
      → AnswersUpTo asked Fault old new
  in_what_comes (inl next) = in_reply next
  in_what_comes (inr end) = in_end (is_open_gap cut.left) refl end.0 end.1 end.2

cut_in_script : LinesAreCounted → (asked : Asked) (old new : Outside) (h : CutInScript asked old new)
    → Cut (asks_proof asked) (opened asked old) h.bytes h.ended new → AnswersUpTo asked Fault old new
cut_in_script counts asked old new h (inl cut) = between counts asked old new h cut
cut_in_script counts asked old new h (inr cut) = in_what_comes counts asked old new h cut cut.next

any_front : (source : Option (List ℕ)) → IsReadOf source [] false
any_front None = tt
any_front (Some all) = (all, refl, λ e. absurd (false≢true e))

-- the script is opened, and nothing else is done
only_opened : (asked : Asked) (old new : Outside) → new ≡ open_at in_port.Script asked.script old
    → AnswersUpTo asked Fault old new
only_opened asked old new e = record {
  reached = record {
    bytes = [];
    ended = false;
    entries = [];
    left = [];
    answers = [];
    state = start;
    read = any_front (source_of asked.script old);
    begins = refl;
    along = (refl, refl);
  };
  last = [];
  ends = inl refl;
  touched = touched asked None 0 [] [] old new (tt, refl)
      (e ∙ sym (moved_by-nothing (open_at in_port.Script asked.script old)));
}

cut_short : LinesAreCounted → (asked : Asked) (old new : Outside) → CutShort asked old new
    → (new ≡ old) ⊎ AnswersUpTo asked Fault old new
cut_short counts asked old new (inl same) = inl same
cut_short counts asked old new (inr (inl e)) = inr (only_opened asked old new e)
cut_short counts asked old new (inr (inr h)) = inr (cut_in_script counts asked old new h h.cut)

-- want of memory cuts as a fault does
as_memory : (asked : Asked) (old new : Outside) → (new ≡ old) ⊎ AnswersUpTo asked Fault old new
    → (new ≡ old) ⊎ AnswersUpTo asked NoMemory old new
as_memory asked old new (inl same) = inl same
as_memory asked old new (inr h) =
    inr (record { reached = h.reached; last = h.last; ends = h.ends; touched = h.touched })

done : LinesAreCounted → (asked : Asked) (old new : Outside)
    → AnsweredToTheEnd asked old new ⊎ AnsweredToTheExit asked old new → AnswersUpTo asked Done old new
done counts asked old new (inl h) = to_the_end counts asked old new h
done counts asked old new (inr h) = to_the_exit counts asked old new h

-- A run answers so, by its status.
pub answers_of : LinesAreCounted → (asked : Asked) (status : SolveStatus) (old new : Outside)
    → Run asked status old new → AnswersBy asked status old new
answers_of counts asked Done old new run = done counts asked old new run
answers_of counts asked Unfinished old new run = within_a_form counts asked old new run
answers_of counts asked InputLimit old new run = at_limit counts asked old new run
answers_of counts asked Fault old new run = cut_short counts asked old new run
answers_of counts asked NoMemory old new run = as_memory asked old new (cut_short counts asked old new run)
answers_of counts asked Usage old new run = absurd run

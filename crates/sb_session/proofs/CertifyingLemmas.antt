-- What a run writes of a proof is an accepted proof.
use Rattle.sb_session.proofs.Words.{◌≡◌, ◌⊎◌, ℕ, Bool, true, List, [], ◌∷◌, ◌++◌, Option, Some, None, option_map, append_assoc, refl, ap, ap₂, ◌∙◌, subst, inl, inr, Along, AllAnswered, AnsweredToTheEnd, AnsweredToTheExit, AnsweredUnfinished, Answers, Asked, CertifiesOn, Entry, GoesOn, IsAll, Moved, Outside, Progress, Run, SolveStatus, Stage, Write, append-nil, asks_proof, beginnings, end_writes, last_lines, moved_by, opened, unfinished_line, with_lines, work, writing_all, writing_all-append, CertifiedIsAccepted, CertifiedToExitIsAccepted, IsCertified}
use Rattle.sb_world.specs.declared.OutPort.TheVariants as out_port
use Rattle.sb_session.specs.declared.solve.SolveStatus.TheVariants as status

-- what of the pieces goes to the proof
abbrev pub proof_in : List Write → List ℕ
proof_in writes = (writing_all writes).proof_out

pub proof_in-append : (writes more : List Write) → proof_in (writes ++ more) ≡ proof_in writes ++ proof_in more
proof_in-append writes more = ap (λ (m : Moved). m.proof_out) (writing_all-append writes more)

pub proof_of_answer : (lines reply : List ℕ) → proof_in (with_lines lines ((out_port.Answers, reply) ∷ [])) ≡ lines
proof_of_answer [] reply = refl
proof_of_answer (b ∷ bs) reply = append-nil (b ∷ bs)

-- the lines of the entries
certified_up_to : (s : Stage) (entries : List Entry) (writes : List Write) (after : Stage)
    → Along (GoesOn true) s entries writes after → Along CertifiesOn s entries (proof_in writes) after
certified_up_to s [] writes after h = (ap proof_in h.0, h.1)
certified_up_to s (entry ∷ entries) writes after h =
    let answers = h.3.1 in (
      answers.lines,
      proof_in h.1,
      h.2,
      (h.3.0, (answers.reply, answers.found, answers.answered)),
      ap proof_in h.4 ∙ (proof_in-append h.0 h.1
          ∙ ap (λ (x : List ℕ). x ++ proof_in h.1)
          (ap proof_in answers.written ∙ proof_of_answer answers.lines answers.reply)),
      certified_up_to h.2 entries h.1 after h.5,
    )

more_written : (told : Option (List ℕ)) (first more whole : List ℕ) → first ++ more ≡ whole
    → option_map (λ w. w ++ more) (option_map (λ w. w ++ first) told) ≡ option_map (λ w. w ++ whole) told
more_written None first more whole e = refl
more_written (Some w) first more whole e = ap Some (append_assoc w first more ∙ ap (λ (x : List ℕ). w ++ x) e)

-- what is written to the proof's port, in two parts
proof_written : (opened before now : Outside) (count : ℕ) (writes more : List Write) (bytes last : List ℕ)
    → before ≡ moved_by (work count writes) opened → now ≡ moved_by (writing_all more) before → proof_in writes ≡ bytes
    → proof_in more ≡ last → now.proof_out.written ≡ option_map (λ w. w ++ (bytes ++ last)) opened.proof_out.written
proof_written opened before now count writes more bytes last e h first second =
    ap (λ (o : Outside). o.proof_out.written) h
    ∙ (ap (λ (o : Outside). option_map (λ w. w ++ proof_in more) o.proof_out.written) e
    ∙ more_written opened.proof_out.written (proof_in writes) (proof_in more) (bytes ++ last)
    (ap₂ (λ (x y : List ℕ). x ++ y) first second))

end_proof : (p : Progress) → proof_in (end_writes true p) ≡ last_lines p
end_proof p = append-nil (last_lines p)

module _ (accepts : CertifiedIsAccepted) (accepts_exit : CertifiedToExitIsAccepted) (asked : Asked)
    (old new : Outside) (proved : asks_proof asked ≡ true) where
  -- all is read and answered, and the proof is ended
  all_certified : (script left : List ℕ) (before : Outside) (more : List Write) → IsAll script (opened asked old)
      → (all : AllAnswered (asks_proof asked) (opened asked old) script true left before)
      → proof_in more ≡ last_lines all.s.1 → new ≡ moved_by (writing_all more) before → IsCertified asked old new
  all_certified script left before more read all last ends = record {
    entries = all.entries;
    proof = proof_in all.writes ++ last_lines all.s.1;
    script = inl (script, left, read, all.answered.begins, all.none);
    written = proof_written (opened asked old) before new _ all.writes more (proof_in all.writes)
        (last_lines all.s.1) all.outside ends refl last;
    accepted = accepts all.entries (proof_in all.writes) all.s.0 all.s.1
        (certified_up_to beginnings all.entries all.writes all.s
        (subst (λ (b : Bool). Along (GoesOn b) beginnings all.entries all.writes all.s) proved all.answered.along));
  }

  to_the_end : AnsweredToTheEnd asked old new → IsCertified asked old new
  to_the_end h =
      let p = h.answered.s.1 in
      all_certified h.script h.left h.before (end_writes true p) h.all h.answered (end_proof p)
      (subst (λ (b : Bool). new ≡ moved_by (writing_all (end_writes b p)) h.before) proved h.ends)

  unfinished : AnsweredUnfinished asked old new → IsCertified asked old new
  unfinished h =
      let p = h.answered.s.1 in
      all_certified h.script h.left h.before ((out_port.Answers, unfinished_line) ∷ end_writes true p) h.all h.answered
      (end_proof p) (subst (λ (b : Bool). new
      ≡ moved_by (writing_all ((out_port.Answers, unfinished_line) ∷ end_writes b p)) h.before) proved h.outside)

  to_the_exit : AnsweredToTheExit asked old new → IsCertified asked old new
  to_the_exit h =
      let up = h.answered in
      let ends : new ≡ moved_by (writing_all (end_writes true up.after.1)) h.before =
      subst (λ (b : Bool). new ≡ moved_by (writing_all (end_writes b up.after.1)) h.before) proved h.ends in
      let answers = subst (λ (b : Bool). Answers b up.s up.exit up.own up.after) proved up.answers in
      let law = accepts_exit up.entries [] up.exit (proof_in up.writes) answers.lines answers.reply answers.found
      up.s.0 up.s.1 up.after
      (certified_up_to beginnings up.entries up.writes up.s
      (subst (λ (b : Bool). Along (GoesOn b) beginnings up.entries up.writes up.s) proved up.along))
      up.is_exit answers.answered in
      let own : proof_in up.own ≡ [] =
      ap proof_in answers.written ∙ (proof_of_answer answers.lines answers.reply ∙ law.0) in
      record {
        entries = up.entries ++ up.exit ∷ [];
        proof = proof_in up.writes ++ last_lines up.s.1;
        script = inr (h.bytes, h.ended, up.entries, up.exit, up.left, h.front, h.whole, up.begins, refl, up.is_exit);
        written = proof_written (opened asked old) h.before new _ (up.writes ++ up.own) (end_writes true up.after.1)
            (proof_in up.writes) (last_lines up.s.1) up.outside ends
            (proof_in-append up.writes up.own ∙ (ap (λ (x : List ℕ). proof_in up.writes ++ x) own
            ∙ append-nil (proof_in up.writes)))
            (end_proof up.after.1 ∙ ap (λ (s : Stage). last_lines s.1) law.1.0);
        accepted = law.1.1;
      }

  pub certified_by : (s : SolveStatus) → (s ≡ status.Done) ⊎ (s ≡ status.Unfinished) → Run asked s old new
      → IsCertified asked old new
  certified_by s (inl done) run = by_end (subst (λ (t : SolveStatus). Run asked t old new) done run)
    where
      by_end : AnsweredToTheEnd asked old new ⊎ AnsweredToTheExit asked old new → IsCertified asked old new
      by_end (inl h) = to_the_end h
      by_end (inr h) = to_the_exit h
  certified_by s (inr ended) run = unfinished (subst (λ (t : SolveStatus). Run asked t old new) ended run)

-- The words of the crates below, and of this one, that its proofs speak of.
pub use Rattle.std.proofs.Common.{Bool, Err, IfOk, IfSome, List, None, Ok, OnErr, Option, Result, Some, [], ap, append_assoc, ap₂, arith, codes, drop, false, if◌then◌else◌, inl, inr, is_some, length, length-append, map, option_map, refl, rules, string_bytes, subst, sym, take, true, ℕ, ◌++◌, ◌+◌, ◌-◌, ◌<◌, ◌^◌, ◌∙◌, ◌∷◌, ◌≡◌, ◌≤◌, ◌⊎◌}
pub use Rattle.std.proofs.Math.Seq.{drop-length, take-append_seam}
pub use Rattle.std.proofs.lemmas.Bool.{false≢true}
pub use Rattle.std.proofs.lemmas.List.{append-nil, drop-drop, length-map, length-take-le, take-append-drop, take-append-le}
pub use Rattle.std.proofs.lemmas.Result.{err_from_is_err_and, on_err_weaker, on_ok_weaker}
pub use Rattle.std.specs.Option.{option_copied}
pub use Rattle.std.specs.declared.alloc.Global.{Global}
pub use Rattle.std.specs.declared.vec.Vec.{Vec}
pub use Rattle.sb_facts.proofs.CallerLemmas.{some_mapped}
pub use Rattle.sb_world.proofs.CallerLemmas.{both-assoc, moved_by-both, moved_by-nothing, read_at-moves, reading-add, reading-zero, reading_first, write_at-moves, writing_all-append, writing_all-one}
pub use Rattle.sb_world.specs.Moved.{IsProperFront, Moved, Write, both, moved_by, reading, writing_all}
pub use Rattle.sb_world.specs.Outside.{Outside, ReadsFront, Rose, open_at, read_at, source_of, write_at}
pub use Rattle.sb_world.specs.declared.OutPort.{OutPort}
pub use Rattle.sb_world.specs.declared.WorldError.{WorldError}
pub use Rattle.sb_reader.proofs.CallerLemmas.{beginning_grows, beginning_is_first, beginning_stays, same_end, same_entry, same_none, shortens_before, shortens_to_itself, shortens_twice}
pub use Rattle.sb_reader.specs.Entries.{Begins, Entry, HoldsNoEntry}
pub use Rattle.sb_reader.specs.Feeding.{Takes, Waits}
pub use Rattle.sb_reader.specs.Tokens.{is_open_gap}
pub use Rattle.sb_reader.specs.declared.feed.Ending.{Ending}
pub use Rattle.sb_reader.specs.declared.feed.Next.{Next}
pub use Rattle.sb_meaning.specs.Terms.{Sort, Term}
pub use Rattle.sb_script.specs.Replies.{is_exit, step_of}
pub use Rattle.sb_script.specs.Scripts.{Along, unfinished_line}
pub use Rattle.sb_script.specs.SortedStates.{EntriesKeepSorts, is_sorted_behind, is_sorted_state}
pub use Rattle.sb_script.specs.State.{Assumption, State, live, plain}
pub use Rattle.sb_script.specs.Verdicts.{Finding, FindsUnproved, IsReply, IsVerdict, Verdict, is_outside, is_sat, is_unknown, is_unsat, settled, verdict_text}
pub use Rattle.sb_rulebook.specs.Accepted.{asked_in, event_of_leaving, events_of}
pub use Rattle.sb_rulebook.specs.Brought.{newest_format}
pub use Rattle.sb_rulebook.specs.Judging.{Event, Phase, Progress, at_check, at_end, at_rest, beginning, behind_end, met, stopped}
pub use Rattle.sb_rulebook.specs.LineLaws.{bytes_of}
pub use Rattle.sb_rulebook.specs.Lines.{end_line, header_line, text_of}
pub use Rattle.sb_sound.proofs.CallerLemmas.{entry_exits, is_exits}
pub use Rattle.sb_sound.specs.Certified.{CertifiesOn, FindsProved, behind, last_lines}
pub use Rattle.sb_sound.specs.CertifiedLaws.{CertifiedIsAccepted, CertifiedToExitIsAccepted}
pub use Rattle.sb_sound.specs.CountLaws.{LinesAreCounted}
pub use Rattle.sb_sound.specs.ScriptLaws.{IsFit}
pub use Rattle.sb_sound.specs.SoundLaws.{Continues}
pub use Rattle.sb_proof.specs.Tapes.{with_bytes}
pub use Rattle.sb_term.specs.declared.assertion.Assertion.{Assertion}
pub use Rattle.sb_rulebook.specs.Atoms.{AtomOver}
pub use Rattle.sb_solve.specs.Words.{is_sorted}
pub use Rattle.sb_atoms.specs.Numbered.{HaveRegexesBelow}
pub use Rattle.sb_stack.proofs.CallerLemmas.{live_laid}
pub use Rattle.sb_stack.specs.Stacked.{IsLonger, Stacked, assertion_in, given_in, live_constants, question_of, state_of, without_words}
pub use Rattle.sb_stack.specs.Steps.{IsEntry, IsMoved, IsStep, IsUnder, entry_of, found, leaving_in, verdict_in}
pub use Rattle.sb_stack.specs.declared.stack.Step.{Step}
pub use Rattle.sb_store.specs.Stores.{Grows}
pub use Rattle.sb_store.specs.declared.store.Store.{Store}
pub use Rattle.sb_decide.specs.Knowing.{Knows}
pub use Rattle.sb_decide.specs.Laws.{KnowsStays, LeavesKnown}
pub use Rattle.sb_decide.specs.declared.decide.Decider.{Decider}
pub use Rattle.sb_prover.specs.Proving.{AbreastStays, AreLow, GoesDown, HasSpent, HaveLevels, IsAbreast, IsProved, LevelsStay, Proving, TrueGoesOn, leaving}
pub use Rattle.sb_session.specs.Certifying.{IsCertified}
pub use Rattle.sb_session.specs.Checking.{AnswersCheck, CutCheck, CutProof, Finds, HasDeclared, HasLevels, HasRegexes, HasTrue, Holds, IsKnown, LeavesProof, ProvesCheck, progress_by, session_of}
pub use Rattle.sb_session.specs.Commanding.{Answering, Answers, AnswersEntry, CountsStop, CutOf, CutOrNot, CutReply, Fails, Goes, IsTracked, SessionState, Stage, fault_of, is_proved, proof_of, stop_of, went_of, with_lines}
pub use Rattle.sb_session.specs.Pausing.{NoneLeft, Pauses, is_clean}
pub use Rattle.sb_session.specs.Progress.{Sofar, status_by}
pub use Rattle.sb_session.specs.Reading.{AllAnswered, Answered, Cut, CutBetween, GoesOn, IsAll, IsFront, UpToExit, beginnings, end_writes, unfinished_writes, work}
pub use Rattle.sb_session.specs.Replying.{AnswersBy, AnswersUpTo, Asked, EndsBy, IsAnswered, IsAnsweredOn, IsCut, IsReadOf, IsTouched, MayBeUndecided, MayFind, Reached, asked_by, asked_for, asks_proof, steps_allowed}
pub use Rattle.sb_session.specs.Solve.{AnsweredToTheEnd, AnsweredToTheExit, AnsweredUnfinished, CountsFaults, CutInScript, CutShort, IsBounded, PastLimit, Run, created, opened}
pub use Rattle.sb_session.specs.Underway.{AllRead, IsRead, StaysOpen, Underway}
pub use Rattle.sb_session.specs.declared.command.Stop.{Stop}
pub use Rattle.sb_session.specs.declared.command.Went.{Went}
pub use Rattle.sb_session.specs.declared.solve.Pause.{Pause}
pub use Rattle.sb_session.specs.declared.solve.SolveStatus.{SolveStatus}

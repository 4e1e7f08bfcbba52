use Rattle.std.proofs.Common.{◌≡◌, ◌⊎◌, map, string_bytes, sym, subst}
use Rattle.sb_session.proofs.Words.{AnswersBy, Run, SolveStatus, asked_by, asked_for, option_copied, status_by}
use Rattle.sb_session.specs.declared.solve.SolveStatus.TheVariants.{Done, Unfinished, NoMemory}
use Rattle.sb_session.proofs.SolveLemmas.{run_asked, counts_by, complete_by}
use Rattle.sb_session.proofs.CertifyingLemmas.{certified_by}
use Rattle.sb_session.proofs.ReplyingLemmas.{answers_of}
use Rattle.sb_session.proofs.solve.solve_within.Goals as goal

pub returns-in-Ok-clause-run : goal.returns-in-Ok-clause-run
returns-in-Ok-clause-run g c taken =
    let words = map string_bytes c.args.words.now in
    let asked = c.in-Ok.asked in
    let e = c.answer_files.ensures in
    let old = g.W.World.outside c.args.world.now in
    let new = g.W.World.outside c.answer_files.new.world in
    subst (λ (s : SolveStatus). Run (asked_by words c.args.limit) s old new) (sym c.status_of.ensures)
    (run_asked words (option_copied asked.script) (option_copied asked.proof) c.args.limit c.answer_files.result old new
    (g.W.World.faults c.args.world.now) (g.W.World.faults c.answer_files.new.world) c.in-Ok.ensures.script
    c.in-Ok.ensures.proof e.ok e.err)

pub returns-in-Ok-clause-answers : goal.returns-in-Ok-clause-answers
returns-in-Ok-clause-answers g c taken =
    let words = map string_bytes c.args.words.now in
    let asked = c.in-Ok.asked in
    let e = c.answer_files.ensures in
    let old = g.W.World.outside c.args.world.now in
    let new = g.W.World.outside c.answer_files.new.world in
    subst (λ (s : SolveStatus). AnswersBy (asked_by words c.args.limit) s old new) (sym c.status_of.ensures)
    (answers_of c.lines_are_counted.ensures (asked_by words c.args.limit) (status_by c.answer_files.result) old new
    (run_asked words (option_copied asked.script) (option_copied asked.proof) c.args.limit c.answer_files.result old new
    (g.W.World.faults c.args.world.now) (g.W.World.faults c.answer_files.new.world) c.in-Ok.ensures.script
    c.in-Ok.ensures.proof e.ok e.err))

pub returns-in-Ok-clause-complete : goal.returns-in-Ok-clause-complete
returns-in-Ok-clause-complete g c taken no_fault bounded =
    let words = map string_bytes c.args.words.now in
    let asked = c.in-Ok.asked in
    let e = c.answer_files.ensures in
    let old = g.W.World.outside c.args.world.now in
    let new = g.W.World.outside c.answer_files.new.world in
    let before = g.W.World.faults c.args.world.now in
    let after = g.W.World.faults c.answer_files.new.world in
    let result = c.answer_files.result in
    subst (λ (s : SolveStatus). (s ≡ Done) ⊎ ((s ≡ Unfinished) ⊎ (s ≡ NoMemory))) (sym c.status_of.ensures)
    (complete_by (asked_by words c.args.limit) (status_by result) old new before after
    (run_asked words (option_copied asked.script) (option_copied asked.proof) c.args.limit result old new before after
    c.in-Ok.ensures.script c.in-Ok.ensures.proof e.ok e.err)
    (counts_by (λ s. Run (asked_for (option_copied asked.script) (option_copied asked.proof) c.args.limit) s old new)
    result before after e.ok e.faults) no_fault bounded)

pub returns-in-Ok-clause-certified : goal.returns-in-Ok-clause-certified
returns-in-Ok-clause-certified g c taken proved answered =
    let words = map string_bytes c.args.words.now in
    let asked = c.in-Ok.asked in
    let e = c.answer_files.ensures in
    let old = g.W.World.outside c.args.world.now in
    let new = g.W.World.outside c.answer_files.new.world in
    certified_by c.certified_is_accepted.ensures c.certified_to_exit_is_accepted.ensures
    (asked_by words c.args.limit) old new proved (status_by c.answer_files.result)
    (subst (λ (s : SolveStatus). (s ≡ Done) ⊎ (s ≡ Unfinished)) c.status_of.ensures answered)
    (run_asked words (option_copied asked.script) (option_copied asked.proof) c.args.limit c.answer_files.result old new
    (g.W.World.faults c.args.world.now) (g.W.World.faults c.answer_files.new.world) c.in-Ok.ensures.script
    c.in-Ok.ensures.proof e.ok e.err)

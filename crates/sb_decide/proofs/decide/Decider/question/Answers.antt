use Rattle.sb_decide.proofs.Words.{◌++◌, ap, ◌∙◌, places_of_all}
use Rattle.sb_decide.proofs.Questions.{gathered_next, gathered_done, question_of}
use Rattle.sb_decide.proofs.decide.Decider.question.Goals as goal

pub loop-serial-init : goal.loop-serial-init
loop-serial-init c =
    ap (λ ps. ps ++ places_of_all c.args.self.now.constants.items c.as_slice-serials.result.now)
    (c.in_ok-places.ensures.items ∙ c.as_slice.ensures.value)

pub loop-serial-preserved : goal.loop-serial-preserved
loop-serial-preserved c =
    gathered_next c.args.self.now.constants.items c.loop-serial.places.items c.extend_from_slice.new.self.items
    c.places.result.now _ c.as_slice-serials.result.now c.loop-serial.serial-index _ c.loop-serial-test.true
    c.places.ensures c.in_ok-extend_from_slice.ensures.items c.loop-serial.invariant

pub returns : goal.returns
returns c = λ stack ready.
    question_of c.args.self.now stack c.sort_unstable.new.self.items
    (gathered_done c.args.self.now.constants.items c.loop-serial.places.items c.sort_unstable.new.self.items _
    c.args.self.now.spoken.keys c.loop-serial.serial-index
    (rw c.as_slice-serials.ensures.keys at c.loop-serial-test.false)
    (rw c.as_slice-serials.ensures.keys at c.loop-serial.invariant) c.sort_unstable.ensures.permutation) ready

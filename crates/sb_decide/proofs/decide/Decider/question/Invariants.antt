use Rattle.sb_decide.proofs.Words.{◌≡◌, ◌++◌, drop, places_of_all}
use Rattle.sb_decide.proofs.decide.Decider.question.Given as goal

abbrev pub invariant-loop-serial : goal.invariant-loop-serial
invariant-loop-serial l =
    l.places.items ++ places_of_all l.fn.self.constants.items (drop l.serial-index l.serials)
    ≡ l.fn.self.others.items ++ places_of_all l.fn.self.constants.items l.serials

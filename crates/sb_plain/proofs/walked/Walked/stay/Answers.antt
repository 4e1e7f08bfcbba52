use Rattle.std.proofs.Common.{sym, ap, ◌∙◌}
use Rattle.std.specs.Prelude.{slice_get}
use Rattle.sb_plain.proofs.Staying.{stay_at, found_key}
use Rattle.sb_plain.proofs.walked.Walked.stay.Goals as goal

pub returns-in-Some : goal.returns-in-Some
returns-in-Some c =
    stay_at c.args.self.now c.args.regex c.in-Some.place c.stay_at.result
    (ap (λ w. slice_get w.1 c.in-Some.place) (sym c.self.view_is)
    ∙ found_key c.self.inside.regexes.keys c.args.regex c.in-Some.place (sym c.in-Some.ensures.index))
    c.stay_at.ensures

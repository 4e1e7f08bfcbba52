use Rattle.sb_theory.proofs.Words.{explored}
use Rattle.sb_theory.proofs.hint.search.Goals as goal

pub returns-in_err-values : goal.returns-in_err-values
returns-in_err-values c =
    let e = c.in_err-values.ensures in
    explored c.regexes_grow.ensures.arena _ _ _ e.extends e.graph e.derivatives e.marks

pub returns-in-Found : goal.returns-in-Found
returns-in-Found c =
    let e = c.in_ok-values.ensures in
    explored c.regexes_grow.ensures.arena _ _ _ e.extends e.graph e.derivatives e.marks

pub returns-in-None : goal.returns-in-None
returns-in-None c =
    let e = c.in_ok-values.ensures in
    explored c.regexes_grow.ensures.arena _ _ _ e.extends e.graph e.derivatives e.marks

use Rattle.sb_theory.proofs.Words.{◌∙◌}
use Rattle.sb_theory.proofs.Answering.{look_behind, look_failed}
use Rattle.sb_theory.proofs.Moving.{grows_both, keeps_both, stands_looked}
use Rattle.sb_theory.proofs.strings.Strings.look.Goals as goal

pub returns-in_err-take_in : goal.returns-in_err-take_in
returns-in_err-take_in g c =
    let r = c.from_residual in look_failed r.result r.ensures.0 r.ensures.1 c.in_err-take_in.ensures.keeps.grows

pub returns-in_err-found : goal.returns-in_err-found
returns-in_err-found g c =
    let r = c.from_residual-in_err-found in
    look_failed r.result r.ensures.0 r.ensures.1
    (grows_both c.in_ok-take_in.ensures.keeps.grows c.in_err-found.ensures.keeps.grows)

pub look_on-requires : goal.look_on-requires
look_on-requires g c =
    let took = c.in_ok-take_in.ensures in
    let found = c.in_ok-found.ensures.ok in
    record {
      stands = stands_looked found.holds found.entries took.ok.0;
      whole = found.entries ∙ took.ok.1;
      settled = found.settled c.in-None.is;
    }

pub returns-in-None : goal.returns-in-None
returns-in-None g c =
    look_behind c.look_on.result (keeps_both c.in_ok-take_in.ensures.keeps c.in_ok-found.ensures.keeps)
    c.look_on.ensures

pub clash-requires : goal.clash-requires
clash-requires g c =
    let took = c.in_ok-take_in.ensures in
    let found = c.in_ok-found.ensures.ok in
    record {
      stands = stands_looked found.holds found.entries took.ok.0;
      whole = found.entries ∙ took.ok.1;
      clash = found.clash c.in-Some.serial c.in-Some.is;
    }

pub returns-in-Some : goal.returns-in-Some
returns-in-Some g c =
    look_behind c.clash.result (keeps_both c.in_ok-take_in.ensures.keeps c.in_ok-found.ensures.keeps) c.clash.ensures

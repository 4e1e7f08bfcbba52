use Rattle.sb_decide.proofs.Words.{sym, ◌∙◌, false≢true, IfOk-from_err}
use Rattle.sb_decide.proofs.demand.regular_of.Goals as goal

pub regex_of-requires : goal.regex_of-requires
regex_of-requires c = record { number = c.requires.number; store = c.requires.store }

pub unreachable-requires : goal.unreachable-requires
unreachable-requires c = false≢true (sym (rw c.in-None.is at c.in_ok-found.ensures.number) ∙ c.requires.regular)

pub returns-in_err-found : goal.returns-in_err-found
returns-in_err-found c =
    record {
      number = IfOk-from_err c.from_residual.result _ c.from_residual.ensures.0;
      store = c.in_err-found.ensures.store;
    }

pub returns : goal.returns
returns c =
    record { number = rw c.in-Some.is at c.in_ok-found.ensures.number; store = c.in_ok-found.ensures.store }

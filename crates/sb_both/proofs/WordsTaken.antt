-- The words of both programs are taken, and what they ask.
use Rattle.std.proofs.Common.{◌≡◌, ◌^◌, true, refl}
use Rattle.clap.proofs.OnLiterals.{clap_on_literals}
use Rattle.sb_words.specs.SolverWords as solve_words
use Rattle.sb_words.specs.CheckerWords as check_words
use Rattle.sb_session.specs.Replying.{asked_by}
use Rattle.sb_check.specs.Running.{IsAsked}
use Rattle.sb_both.specs.Runs.{solver_words, of_solver, checker_words, of_checker}

pub solver_takes : solve_words.are_taken solver_words ≡ true
unfolding clap_on_literals
solver_takes = refl

pub solver_asks : asked_by solver_words (2 ^ 32) ≡ of_solver
unfolding clap_on_literals
solver_asks = refl

pub checker_takes : check_words.are_taken checker_words ≡ true
unfolding clap_on_literals
checker_takes = refl

pub checker_asks : IsAsked checker_words (2 ^ 32) of_checker
unfolding clap_on_literals
checker_asks = (refl, refl, refl)

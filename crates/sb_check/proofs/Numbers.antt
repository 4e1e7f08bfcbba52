-- Where the numbers of lines and of checks run out.
use Rattle.std.proofs.Common.{◌≡◌, ℕ, ◌+◌, ◌≤◌, Result, Ok, Err, IfErr, arith}
use Rattle.sb_world.specs.declared.WorldError.{WorldError}
use Rattle.sb_world.specs.declared.WorldError.TheVariants as world_error
use Rattle.sb_input.specs.declared.lines.LinesFault.{LinesFault}
use Rattle.sb_input.specs.declared.lines.LinesFault.TheVariants as lines_fault
use Rattle.sb_check.specs.Going.{HasRunOut, fault_of_judge, fault_of_lines, fault_of_take, fault_of_world}
use Rattle.sb_check.specs.Standing.{IsAtLast}
use Rattle.sb_check.specs.declared.checker.CheckerFault.{CheckerFault}
use Rattle.sb_check.specs.declared.checker.CheckerFault.TheVariants as fault
use Rattle.sb_check.specs.declared.reason.JudgeFault.{JudgeFault}
use Rattle.sb_check.specs.declared.reason.JudgeFault.TheVariants as judge_fault
use Rattle.sb_check.specs.declared.reason.TakeFault.{TakeFault}
use Rattle.sb_check.specs.declared.reason.TakeFault.TheVariants as take_fault

run_on : (f : CheckerFault) (n m : ℕ) → n ≤ m → HasRunOut f n → HasRunOut f m
run_on fault.PastNumbers n m low h = omega (arith, low, h)
run_on (fault.Refused k reason) n m low h = tt
run_on fault.Limit n m low h = tt
run_on fault.Fault n m low h = tt
run_on fault.NoMemory n m low h = tt

pub world_never : (f : WorldError) (n : ℕ) → HasRunOut (fault_of_world f) n
world_never world_error.Failed n = tt
world_never world_error.NoMemory n = tt

pub lines_never : (f : LinesFault) (n : ℕ) → HasRunOut (fault_of_lines f) n
lines_never lines_fault.Fault n = tt
lines_never lines_fault.NoMemory n = tt

pub judge_never : (f : JudgeFault) (n : ℕ) → HasRunOut (fault_of_judge f) n
judge_never (judge_fault.Refused k reason) n = tt
judge_never judge_fault.NoMemory n = tt

pub at_last : (f : TakeFault) (n m : ℕ) → IsAtLast f n → HasRunOut (fault_of_take f) (n + m)
at_last (take_fault.Judged f) n m h = judge_never f (n + m)
at_last take_fault.PastNumbers n m h = omega (arith, h)

-- the error of what was called is the answer
pub out_at : {T : Type 0} (r : Result T CheckerFault) (e f : CheckerFault) (n m : ℕ) → r ≡ Err e → e ≡ f → n ≤ m
    → HasRunOut f n → IfErr r (λ fault. HasRunOut fault m)
out_at r e f n m is same low h = rw (is, same) (run_on f n m low h)

pub out_on : {T : Type 0} (r : Result T CheckerFault) (n m : ℕ) → n ≤ m → IfErr r (λ fault. HasRunOut fault n)
    → IfErr r (λ fault. HasRunOut fault m)
out_on (Ok x) n m low h = tt
out_on (Err f) n m low h = run_on f n m low h

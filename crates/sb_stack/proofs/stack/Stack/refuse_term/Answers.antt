use Rattle.sb_stack.proofs.Replying.{left_a_mark}
use Rattle.sb_stack.proofs.Refusals.{refused_by_line}
use Rattle.sb_stack.proofs.stack.Stack.refuse_term.Goals as goal

pub returns-in-Unsupported : goal.returns-in-Unsupported
returns-in-Unsupported c =
    left_a_mark _ c.leave_mark.result c.args.self.now c.leave_mark.new.self c.in-Unsupported.is c.leave_mark.ensures

pub returns-in_default : goal.returns-in_default
returns-in_default c =
    refused_by_line c.args.fault.now c.fault_line.result c.args.self.now c.in_default.not-Unsupported c.fault_line.ensures

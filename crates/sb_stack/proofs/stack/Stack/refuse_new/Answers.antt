use Rattle.sb_stack.proofs.Refusals.{body_alone, body_left_out}
use Rattle.sb_stack.proofs.stack.Stack.refuse_new.Goals as goal

pub returns-in-Unsupported : goal.returns-in-Unsupported
returns-in-Unsupported c =
    body_left_out c.args.fault.now c.args.name.now c.declare_function.result c.args.self.now c.declare_function.new.self
    c.in-Unsupported.is c.requires c.declare_function.ensures

pub returns-in_default : goal.returns-in_default
returns-in_default c =
    body_alone c.args.fault.now c.args.name.now c.fault_line.result c.args.self.now c.in_default.not-Unsupported
    c.fault_line.ensures

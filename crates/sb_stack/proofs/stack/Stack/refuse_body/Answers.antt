use Rattle.std.proofs.Common.{option_copied, ap, sym, ◌∙◌}
use Rattle.sb_stack.proofs.Refusals.{body_told_first, body_name_first, refuses_body}
use Rattle.sb_stack.proofs.stack.Stack.refuse_body.Goals as goal

pub returns-then-is_told_first : goal.returns-then-is_told_first
returns-then-is_told_first c =
    body_told_first c.args.fault.now (option_copied c.args.refused) c.args.name.now c.fault_line.result c.args.self.now
    (sym c.is_told_first.ensures ∙ c.if-is_told_first.true) c.fault_line.ensures

pub returns-in-Some : goal.returns-in-Some
returns-in-Some c =
    body_name_first c.args.fault.now (option_copied c.args.refused) c.in-Some.refused.now c.args.name.now
    c.fail_with_name.result c.args.self.now (sym c.is_told_first.ensures ∙ c.if-is_told_first.false)
    (ap option_copied c.in-Some.is) c.fail_with_name.ensures

pub returns-in-None : goal.returns-in-None
returns-in-None c =
    refuses_body c.args.fault.now (option_copied c.args.refused) _ c.args.name.now c.refuse_new.result c.args.self.now
    c.refuse_new.new.self (ap option_copied c.in-None.is) c.refuse_new.ensures

pub refuse_new-requires : goal.refuse_new-requires
refuse_new-requires c = c.requires (ap option_copied c.in-None.is)

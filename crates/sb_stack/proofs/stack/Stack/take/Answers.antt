use Rattle.std.proofs.Common.{ap, refl}
use Rattle.sb_script.specs.Steps.{Step, answers, succeeds, is_unsupported, line, quoted}
use Rattle.sb_stack.specs.declared.command.Command.{Command}
use Rattle.sb_stack.specs.Commands.{effect_of}
use Rattle.sb_stack.specs.Stacked.{Stacked, state_of}
use Rattle.sb_stack.proofs.Replying.{unchanged, takes_reply, takes_as, takes_check, takes_exit}
use Rattle.sb_stack.proofs.stack.Stack.take.Goals as goal

-- what becomes of a command
abbrev taken_by : Stacked → Command → Step
taken_by k command = effect_of command (state_of k)

pub returns-in-SetLogic : goal.returns-in-SetLogic
returns-in-SetLogic c =
    let k = c.args.self.now in
    takes_reply _ _ c.set_logic.result c.answered.result k c.set_logic.new.self
    (ap (taken_by k) c.in-SetLogic.is) c.answered.ensures
    c.set_logic.ensures

pub returns-in-SetOption : goal.returns-in-SetOption
returns-in-SetOption c =
    let k = c.args.self.now in
    takes_reply _ _ c.set_option.result c.answered-in-SetOption.result k c.set_option.new.self
    (ap (taken_by k) c.in-SetOption.is) c.answered-in-SetOption.ensures
    c.set_option.ensures

pub returns-in-GetOption : goal.returns-in-GetOption
returns-in-GetOption c =
    let k = c.args.self.now in
    takes_reply _ _ c.get_option.result c.answered-in-GetOption.result k k (ap (taken_by k) c.in-GetOption.is)
    c.answered-in-GetOption.ensures (unchanged _ c.get_option.result k k refl c.get_option.ensures)

pub returns-in-SetInfo : goal.returns-in-SetInfo
returns-in-SetInfo c =
    let k = c.args.self.now in
    takes_reply _ _ c.succeed.result c.answered-in-SetInfo.result k k (ap (taken_by k) c.in-SetInfo.is)
    c.answered-in-SetInfo.ensures (unchanged (succeeds (state_of k)) c.succeed.result k k refl c.succeed.ensures)

pub returns-in-GetInfo : goal.returns-in-GetInfo
returns-in-GetInfo c =
    let k = c.args.self.now in
    takes_reply _ _ c.get_info.result c.answered-in-GetInfo.result k k (ap (taken_by k) c.in-GetInfo.is)
    c.answered-in-GetInfo.ensures (unchanged _ c.get_info.result k k refl c.get_info.ensures)

pub returns-in-DeclareConstant : goal.returns-in-DeclareConstant
returns-in-DeclareConstant c =
    let k = c.args.self.now in
    takes_reply _ _ c.declare_constant.result c.answered-in-DeclareConstant.result k c.declare_constant.new.self
    (ap (taken_by k) c.in-DeclareConstant.is) c.answered-in-DeclareConstant.ensures
    c.declare_constant.ensures

pub returns-in-DeclareFunction : goal.returns-in-DeclareFunction
returns-in-DeclareFunction c =
    let k = c.args.self.now in
    takes_reply _ _ c.declare_function.result c.answered-in-DeclareFunction.result k c.declare_function.new.self
    (ap (taken_by k) c.in-DeclareFunction.is) c.answered-in-DeclareFunction.ensures
    c.declare_function.ensures

pub returns-in-DefineFunction : goal.returns-in-DefineFunction
returns-in-DefineFunction c =
    let k = c.args.self.now in
    takes_reply _ _ c.define_function.result c.answered-in-DefineFunction.result k c.define_function.new.self
    (ap (taken_by k) c.in-DefineFunction.is) c.answered-in-DefineFunction.ensures
    c.define_function.ensures

pub returns-in-Assert : goal.returns-in-Assert
returns-in-Assert c =
    let k = c.args.self.now in
    takes_reply _ _ c.assert.result c.answered-in-Assert.result k c.assert.new.self
    (ap (taken_by k) c.in-Assert.is) c.answered-in-Assert.ensures
    c.assert.ensures

pub returns-in-Push : goal.returns-in-Push
returns-in-Push c =
    let k = c.args.self.now in
    takes_reply _ _ c.push.result c.answered-in-Push.result k c.push.new.self
    (ap (taken_by k) c.in-Push.is) c.answered-in-Push.ensures
    c.push.ensures

pub returns-in-Pop : goal.returns-in-Pop
returns-in-Pop c =
    let k = c.args.self.now in
    takes_as _ _ c.pop.result k c.pop.new.self (ap (taken_by k) c.in-Pop.is)
    c.pop.ensures

pub returns-in-CheckSat : goal.returns-in-CheckSat
returns-in-CheckSat c =
    let k = c.args.self.now in
    takes_check _ _ c.check.result k c.check.new.self (ap (taken_by k) c.in-CheckSat.is) c.check.ensures.asked
    c.check.ensures.given

pub returns-in-CheckSatAssuming : goal.returns-in-CheckSatAssuming
returns-in-CheckSatAssuming c =
    let k = c.args.self.now in
    takes_as _ _ c.check_assuming.result k c.check_assuming.new.self (ap (taken_by k) c.in-CheckSatAssuming.is)
    c.check_assuming.ensures

pub returns-in-GetModel : goal.returns-in-GetModel
returns-in-GetModel c =
    let k = c.args.self.now in
    takes_reply _ _ c.get_model.result c.answered-in-GetModel.result k k (ap (taken_by k) c.in-GetModel.is)
    c.answered-in-GetModel.ensures (unchanged _ c.get_model.result k k refl c.get_model.ensures)

pub returns-in-GetValue : goal.returns-in-GetValue
returns-in-GetValue c =
    let k = c.args.self.now in
    takes_reply _ _ c.get_value.result c.answered-in-GetValue.result k k (ap (taken_by k) c.in-GetValue.is)
    c.answered-in-GetValue.ensures (unchanged _ c.get_value.result k k refl c.get_value.ensures)

pub returns-in-GetUnsatAssumptions : goal.returns-in-GetUnsatAssumptions
returns-in-GetUnsatAssumptions c =
    let k = c.args.self.now in
    takes_reply _ _ c.get_unsat_assumptions.result c.answered-in-GetUnsatAssumptions.result k k
    (ap (taken_by k) c.in-GetUnsatAssumptions.is) c.answered-in-GetUnsatAssumptions.ensures
    (unchanged _ c.get_unsat_assumptions.result k k refl c.get_unsat_assumptions.ensures)

pub returns-in-Echo : goal.returns-in-Echo
returns-in-Echo c =
    let k = c.args.self.now in
    takes_reply _ _ c.echo.result c.answered-in-Echo.result k k (ap (taken_by k) c.in-Echo.is)
    c.answered-in-Echo.ensures
    (unchanged (answers (line (quoted c.in-Echo.text.now)) (state_of k)) c.echo.result k k refl c.echo.ensures)

pub returns-in-ResetAssertions : goal.returns-in-ResetAssertions
returns-in-ResetAssertions c =
    let k = c.args.self.now in
    takes_as _ _ c.reset_assertions.result k c.reset_assertions.new.self (ap (taken_by k) c.in-ResetAssertions.is)
    c.reset_assertions.ensures

pub returns-in-Reset : goal.returns-in-Reset
returns-in-Reset c =
    let k = c.args.self.now in
    takes_as _ _ c.reset.result k c.reset.new.self (ap (taken_by k) c.in-Reset.is)
    c.reset.ensures

pub returns-in-Exit : goal.returns-in-Exit
returns-in-Exit c =
    let k = c.args.self.now in
    takes_exit _ _ c.exit.result k (ap (taken_by k) c.in-Exit.is) c.exit.ensures

pub returns-in-Another : goal.returns-in-Another
returns-in-Another c =
    let k = c.args.self.now in
    takes_reply _ _ c.leave_out.result c.answered-in-Another.result k k (ap (taken_by k) c.in-Another.is)
    c.answered-in-Another.ensures
    (unchanged (is_unsupported (state_of k)) c.leave_out.result k k refl c.leave_out.ensures)

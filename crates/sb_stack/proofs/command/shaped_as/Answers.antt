use Rattle.std.proofs.Common.{Option, sym, ap, ◌∙◌}
use Rattle.sb_reader.specs.declared.sexpr.Shapes.{Shapes}
use Rattle.sb_script.specs.Replies.{Effect}
use Rattle.sb_stack.specs.declared.command.Kind.{Kind}
use Rattle.sb_stack.specs.Commands.{shape_in, forms_in}
use Rattle.sb_stack.proofs.command.shaped_as.Goals as goal

-- what is made of what follows the name, by the kind of the command
abbrev by_kind : Shapes → Kind → Option Effect
by_kind forms k = shape_in k (forms_in forms)

pub returns-in-Assert : goal.returns-in-Assert
returns-in-Assert c =
    c.assert_shape.ensures ∙ sym (ap (by_kind c.args.arguments) c.in-Assert.is)

pub returns-in-DeclareConst : goal.returns-in-DeclareConst
returns-in-DeclareConst c =
    c.constant_shape.ensures ∙ sym (ap (by_kind c.args.arguments) c.in-DeclareConst.is)

pub returns-in-DeclareFun : goal.returns-in-DeclareFun
returns-in-DeclareFun c =
    c.function_shape.ensures ∙ sym (ap (by_kind c.args.arguments) c.in-DeclareFun.is)

pub returns-in-DefineFun : goal.returns-in-DefineFun
returns-in-DefineFun c =
    c.definition_shape.ensures ∙ sym (ap (by_kind c.args.arguments) c.in-DefineFun.is)

pub returns-in-Push : goal.returns-in-Push
returns-in-Push c =
    c.push_shape.ensures ∙ sym (ap (by_kind c.args.arguments) c.in-Push.is)

pub returns-in-Pop : goal.returns-in-Pop
returns-in-Pop c =
    c.pop_shape.ensures ∙ sym (ap (by_kind c.args.arguments) c.in-Pop.is)

pub returns-in-CheckSat : goal.returns-in-CheckSat
returns-in-CheckSat c =
    c.bare.ensures ∙ sym (ap (by_kind c.args.arguments) c.in-CheckSat.is)

pub returns-in-CheckSatAssuming : goal.returns-in-CheckSatAssuming
returns-in-CheckSatAssuming c =
    c.assuming_shape.ensures ∙ sym (ap (by_kind c.args.arguments) c.in-CheckSatAssuming.is)

pub returns-in-GetModel : goal.returns-in-GetModel
returns-in-GetModel c =
    c.bare-in-GetModel.ensures ∙ sym (ap (by_kind c.args.arguments) c.in-GetModel.is)

pub returns-in-GetValue : goal.returns-in-GetValue
returns-in-GetValue c =
    c.value_shape.ensures ∙ sym (ap (by_kind c.args.arguments) c.in-GetValue.is)

pub returns-in-GetUnsatAssumptions : goal.returns-in-GetUnsatAssumptions
returns-in-GetUnsatAssumptions c =
    c.bare-in-GetUnsatAssumptions.ensures ∙ sym (ap (by_kind c.args.arguments) c.in-GetUnsatAssumptions.is)

pub returns-in-GetUnsatCore : goal.returns-in-GetUnsatCore
returns-in-GetUnsatCore c =
    c.bare-in-GetUnsatCore.ensures ∙ sym (ap (by_kind c.args.arguments) c.in-GetUnsatCore.is)

pub returns-in-SetLogic : goal.returns-in-SetLogic
returns-in-SetLogic c =
    c.logic_shape.ensures ∙ sym (ap (by_kind c.args.arguments) c.in-SetLogic.is)

pub returns-in-SetOption : goal.returns-in-SetOption
returns-in-SetOption c =
    c.option_shape.ensures ∙ sym (ap (by_kind c.args.arguments) c.in-SetOption.is)

pub returns-in-GetOption : goal.returns-in-GetOption
returns-in-GetOption c =
    c.asked_option_shape.ensures ∙ sym (ap (by_kind c.args.arguments) c.in-GetOption.is)

pub returns-in-SetInfo : goal.returns-in-SetInfo
returns-in-SetInfo c =
    c.info_shape.ensures ∙ sym (ap (by_kind c.args.arguments) c.in-SetInfo.is)

pub returns-in-GetInfo : goal.returns-in-GetInfo
returns-in-GetInfo c =
    c.asked_info_shape.ensures ∙ sym (ap (by_kind c.args.arguments) c.in-GetInfo.is)

pub returns-in-Echo : goal.returns-in-Echo
returns-in-Echo c =
    c.echo_shape.ensures ∙ sym (ap (by_kind c.args.arguments) c.in-Echo.is)

pub returns-in-ResetAssertions : goal.returns-in-ResetAssertions
returns-in-ResetAssertions c =
    c.bare-in-ResetAssertions.ensures ∙ sym (ap (by_kind c.args.arguments) c.in-ResetAssertions.is)

pub returns-in-Reset : goal.returns-in-Reset
returns-in-Reset c =
    c.bare-in-Reset.ensures ∙ sym (ap (by_kind c.args.arguments) c.in-Reset.is)

pub returns-in-Exit : goal.returns-in-Exit
returns-in-Exit c =
    c.bare-in-Exit.ensures ∙ sym (ap (by_kind c.args.arguments) c.in-Exit.is)

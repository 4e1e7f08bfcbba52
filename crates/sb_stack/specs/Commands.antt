-- Private: what the commands of the code do, and the forms of a list, as the definitions have them.
use Rattle.std.specs.Prelude.{ℕ, List, Option, Some, None, codes}
use Rattle.sb_reader.specs.declared.sexpr.Shapes.{Shapes}
use Rattle.sb_reader.specs.Forms.{Form, Forms, Keyword, Numeral, none, more, shape_of, shapes_in}
use Rattle.sb_stack.specs.declared.command.Kind.{Kind}
use Rattle.sb_stack.specs.declared.command.Kind.TheVariants as kind
use Rattle.sb_stack.specs.declared.command.Command.{Command}
use Rattle.sb_stack.specs.declared.command.Command.TheVariants as code
use Rattle.sb_script.specs.Names.{Name}
use Rattle.sb_script.specs.Texts.{number_of}
use Rattle.sb_script.specs.Commands as meaning
use Rattle.sb_script.specs.Steps.{succeeds, is_unsupported}
use Rattle.sb_script.specs.Options as option
use Rattle.sb_script.specs.Replies as reply
use Rattle.sb_script.specs.Replies.{Effect, Shape}

abbrev pub forms_in : Shapes → List Form
forms_in forms = meaning.list_of (shapes_in forms)

-- the keyword that a form is
abbrev pub keyword_in : Form → Option Name
keyword_in (Keyword key) = Some key
keyword_in _ = None

-- the digits of the numeral that a form is
abbrev pub numeral_in : Form → Option (List ℕ)
numeral_in (Numeral digits) = Some digits
numeral_in _ = None

-- the digits of a number of levels, one level where no number stands
abbrev pub levels_in : Forms → Option (List ℕ)
levels_in none = Some (codes "1")
levels_in (more form none) = numeral_in form
levels_in (more form (more next forms)) = None

-- what a command of the code does
abbrev pub effect_of : Command → Effect
effect_of (code.SetLogic name) = option.set_logic name.now
effect_of (code.SetOption key value) = option.set_option key.now (shape_of value)
effect_of (code.GetOption key) = option.get_option key.now
effect_of code.SetInfo = succeeds
effect_of (code.GetInfo key) = option.get_info key.now
effect_of (code.DeclareConstant name sort) = reply.declare_constant name.now (shape_of sort)
effect_of (code.DeclareFunction name) = reply.declare_function name.now
effect_of (code.DefineFunction name parameters sort body) =
    reply.define_function name.now (meaning.parameters_of (forms_in parameters)) (shape_of sort) (shape_of body)
effect_of (code.Assert form) = reply.assert (shape_of form)
effect_of (code.Push digits) = reply.push (number_of digits.now)
effect_of (code.Pop digits) = reply.pop (number_of digits.now)
effect_of code.CheckSat = reply.check_sat
effect_of (code.CheckSatAssuming forms) = reply.check_sat_assuming (forms_in forms)
effect_of code.GetModel = reply.get_model
effect_of (code.GetValue forms) = reply.get_value (forms_in forms)
effect_of code.GetUnsatAssumptions = reply.get_unsat_assumptions
effect_of (code.Echo bytes) = reply.echo bytes.now
effect_of code.ResetAssertions = reply.reset_assertions
effect_of code.Reset = reply.reset
effect_of code.Exit = reply.exit
effect_of code.Another = is_unsupported

-- what follows the name of a command of this kind
abbrev pub shape_in : Kind → Shape
shape_in kind.Assert = meaning.assert_shape reply.assert
shape_in kind.DeclareConst = meaning.constant_shape reply.declare_constant
shape_in kind.DeclareFun = meaning.function_shape reply.function_of
shape_in kind.DefineFun = meaning.definition_shape reply.definition_of
shape_in kind.Push = meaning.levels_shape reply.push
shape_in kind.Pop = meaning.levels_shape reply.pop
shape_in kind.CheckSat = meaning.bare reply.check_sat
shape_in kind.CheckSatAssuming = meaning.assuming_shape reply.check_sat_assuming
shape_in kind.GetModel = meaning.bare reply.get_model
shape_in kind.GetValue = meaning.value_shape reply.get_value
shape_in kind.GetUnsatAssumptions = meaning.bare reply.get_unsat_assumptions
shape_in kind.GetUnsatCore = meaning.bare is_unsupported
shape_in kind.SetLogic = meaning.logic_shape option.set_logic
shape_in kind.SetOption = meaning.option_shape option.set_option
shape_in kind.GetOption = meaning.keyword_shape option.get_option
shape_in kind.SetInfo = meaning.info_shape succeeds
shape_in kind.GetInfo = meaning.keyword_shape option.get_info
shape_in kind.Echo = meaning.echo_shape reply.echo
shape_in kind.ResetAssertions = meaning.bare reply.reset_assertions
shape_in kind.Reset = meaning.bare reply.reset
shape_in kind.Exit = meaning.bare reply.exit

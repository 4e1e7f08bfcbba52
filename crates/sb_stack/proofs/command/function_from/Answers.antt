use Rattle.std.proofs.Common.{ap, sym, ◌∙◌, if◌then◌else◌, Some}
use Rattle.sb_reader.specs.Forms.{shape_of, shapes_in}
use Rattle.sb_script.specs.Replies as reply
use Rattle.sb_stack.proofs.Shapes.{function_named, function_of_forms}
use Rattle.sb_stack.proofs.command.function_from.Goals as goal

pub returns-then-is_empty : goal.returns-then-is_empty
returns-then-is_empty c =
    let name = c.in-Some.name.now in
    let sort = shape_of c.args.sort in
    let is = function_of_forms name (shapes_in c.args.sorts) sort
    ∙ ap (λ b. if b then reply.declare_constant name sort else reply.declare_function name)
    (sym c.is_empty.ensures ∙ c.if-is_empty.true) in
    ap Some (sym is)
    ∙ function_named reply.function_of (shape_of c.args.name) (shapes_in c.args.sorts) sort name
    (sym c.are_sorts.ensures ∙ c.if-not-are_sorts.false) (sym c.is_sort.ensures ∙ c.if-not-is_sort.false)
    c.in-Some.ensures

pub returns : goal.returns
returns c =
    let name = c.in-Some.name.now in
    let sort = shape_of c.args.sort in
    let is = function_of_forms name (shapes_in c.args.sorts) sort
    ∙ ap (λ b. if b then reply.declare_constant name sort else reply.declare_function name)
    (sym c.is_empty.ensures ∙ c.if-is_empty.false) in
    ap Some (sym is)
    ∙ function_named reply.function_of (shape_of c.args.name) (shapes_in c.args.sorts) sort name
    (sym c.are_sorts.ensures ∙ c.if-not-are_sorts.false) (sym c.is_sort.ensures ∙ c.if-not-is_sort.false)
    c.in-Some.ensures

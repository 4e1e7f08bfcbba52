use Rattle.std.proofs.Common.{◌++◌, option_copied, ap, ap₂, sym, ◌∙◌}
use Rattle.sb_reader.specs.Forms.{shape_of}
use Rattle.sb_script.specs.Reading.{read}
use Rattle.sb_script.specs.State.{names_of}
use Rattle.sb_script.specs.Symbols.{is_taken}
use Rattle.sb_sorts.specs.Bodies.{bound_in}
use Rattle.sb_term.specs.Symbols.{sort_in}
use Rattle.sb_stack.specs.Defining.{defines_as, sorts_in}
use Rattle.sb_stack.specs.Stacked.{state_of}
use Rattle.sb_stack.proofs.Refusals.{defines_by_body}
use Rattle.sb_stack.proofs.Replying.{replies_after}
use Rattle.sb_stack.proofs.stack.Stack.define.Goals as goal

pub define_term-requires : goal.define_term-requires
define_term-requires c = record {
  free = λ none. ap (λ s. is_taken (names_of s) c.args.name.now) c.read.ensures.state ∙ c.requires none;
  stands = c.in-Ok.ensures.stands;
}

pub refuse_body-requires : goal.refuse_body-requires
refuse_body-requires c = λ none.
    ap (λ s. is_taken (names_of s) c.args.name.now) c.read.ensures.state ∙ c.requires none

pub returns-in-Ok : goal.returns-in-Ok
returns-in-Ok c =
    let refused = option_copied c.args.refused in
    let sorts = sorts_in c.args.parameters.now in
    replies_after _ _ c.define_term.result c.args.self.now c.read.new.self c.define_term.new.self c.read.ensures.state
    c.read.ensures.keeps
    (ap₂ (defines_as refused (sort_in c.args.sort) c.args.name.now sorts) c.in-Ok.ensures.reads.0
    (sym c.read.ensures.state)) c.define_term.ensures

pub returns-in-Err : goal.returns-in-Err
returns-in-Err c =
    let refused = option_copied c.args.refused in
    let sorts = sorts_in c.args.parameters.now in
    let reading = read (bound_in 0 c.args.parameters.now ++ names_of (state_of c.args.self.now)) (shape_of c.args.body) in
    replies_after _ _ c.refuse_body.result c.args.self.now c.read.new.self c.refuse_body.new.self c.read.ensures.state
    c.read.ensures.keeps
    (ap (defines_as refused (sort_in c.args.sort) c.args.name.now sorts reading) (sym c.read.ensures.state))
    (defines_by_body _ refused (sort_in c.args.sort) c.args.name.now sorts c.refuse_body.result c.read.new.self
    c.refuse_body.new.self reading c.in-Err.ensures.reads c.refuse_body.ensures)

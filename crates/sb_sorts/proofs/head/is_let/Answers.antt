use Rattle.std.proofs.Common.{sym, ap, ◌∙◌}
use Rattle.sb_reader.specs.Forms.{shapes_in}
use Rattle.sb_sorts.proofs.Shapes.{binds, let_of_pair}
use Rattle.sb_sorts.proofs.head.is_let.Goals as goal

pub returns-in-Some : goal.returns-in-Some
returns-in-Some c = c.has_bindings.ensures ∙ ap binds c.in-Some.ensures ∙ sym (let_of_pair (shapes_in c.args.forms))

pub returns-in-None : goal.returns-in-None
returns-in-None c = ap binds c.in-None.ensures ∙ sym (let_of_pair (shapes_in c.args.forms))

use Rattle.std.proofs.Common.{ap, sym, ◌∙◌}
use Rattle.sb_reader.specs.Forms.{Group, first_of}
use Rattle.sb_reader.proofs.Laid.{form_is}
use Rattle.sb_reader.proofs.sexpr.Sexpr.shape.Goals as goal

pub returns-in-Some : goal.returns-in-Some
returns-in-Some c = sym (form_is c.args.self.now _ c.deref.ensures.value c.deref-2.ensures.value
    ∙ ap first_of c.in-Some.ensures)

pub returns-in-None : goal.returns-in-None
returns-in-None c = ap Group c.in-None.ensures
    ∙ sym (form_is c.args.self.now _ c.deref.ensures.value c.deref-2.ensures.value ∙ ap first_of c.in-None.ensures)

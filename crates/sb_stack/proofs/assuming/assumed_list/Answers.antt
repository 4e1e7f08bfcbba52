use Rattle.std.proofs.Common.{sym, ap, ◌∙◌}
use Rattle.sb_reader.specs.Forms.{shapes_in}
use Rattle.sb_sorts.specs.Scopes.{names_in}
use Rattle.sb_stack.specs.Values.{with_names}
use Rattle.sb_stack.proofs.Shapes.{literal_pair, literal_of_pair}
use Rattle.sb_stack.proofs.assuming.assumed_list.Goals as goal

pub returns-in-Some : goal.returns-in-Some
returns-in-Some c = λ ts.
    let s = with_names (names_in ts c.args.scope.now) in
    c.assumed_behind.ensures ts ∙ ap (literal_pair s) c.in-Some.ensures
    ∙ sym (literal_of_pair s (shapes_in c.args.forms))

pub returns-in-None : goal.returns-in-None
returns-in-None c = λ ts.
    let s = with_names (names_in ts c.args.scope.now) in
    ap (literal_pair s) c.in-None.ensures ∙ sym (literal_of_pair s (shapes_in c.args.forms))

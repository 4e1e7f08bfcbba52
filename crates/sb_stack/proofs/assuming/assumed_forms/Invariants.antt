use Rattle.std.proofs.Common.{◌≡◌, List, ◌++◌, map, length}
use Rattle.sb_meaning.specs.Terms.{Term}
use Rattle.sb_script.specs.Replies.{assumed_form}
use Rattle.sb_sorts.specs.Scopes.{names_in}
use Rattle.sb_stack.specs.Assumptions.{assumed_in}
use Rattle.sb_stack.specs.Commands.{forms_in}
use Rattle.sb_stack.specs.Values.{with_names}
use Rattle.sb_stack.proofs.assuming.assumed_forms.Given as goal

abbrev pub invariant-loop-form : goal.invariant-loop-form
invariant-loop-form l =
    (ts : List Term)
    → map assumed_in l.found.items ++ map (assumed_form (with_names (names_in ts l.scope))) (forms_in l.left)
    ≡ map (assumed_form (with_names (names_in ts l.scope))) (forms_in l.forms)

abbrev pub decreases-loop-form : goal.decreases-loop-form
decreases-loop-form l = length (forms_in l.left)

use Rattle.std.proofs.Common.{◌≡◌, List, ◌++◌, map, length}
use Rattle.sb_meaning.specs.Terms.{Term}
use Rattle.sb_script.specs.Replies.{item_of}
use Rattle.sb_sorts.specs.Scopes.{names_in}
use Rattle.sb_stack.specs.Commands.{forms_in}
use Rattle.sb_stack.specs.Values.{item_in, with_names}
use Rattle.sb_stack.proofs.value.items.Given as goal

abbrev pub invariant-loop-form : goal.invariant-loop-form
invariant-loop-form l =
    (ts : List Term) → map item_in l.found.items ++ map (item_of (with_names (names_in ts l.scope))) (forms_in l.left)
    ≡ map (item_of (with_names (names_in ts l.scope))) (forms_in l.forms)

abbrev pub decreases-loop-form : goal.decreases-loop-form
decreases-loop-form l = length (forms_in l.left)

use Rattle.std.proofs.Common.{◌≡◌, List, map, take}
use Rattle.sb_meaning.specs.Terms.{Term}
use Rattle.sb_script.specs.Scopes.{constants_in}
use Rattle.sb_sorts.specs.Scopes.{naming_in}
use Rattle.sb_stack.specs.Values.{constant_in}
use Rattle.sb_stack.proofs.value.constants.Given as goal

abbrev pub invariant-loop-place : goal.invariant-loop-place
invariant-loop-place l =
    (ts : List Term) → map constant_in l.found.items ≡ constants_in (map (naming_in ts) (take l.place l.scope.names))

use Rattle.std.proofs.Common.{◌≡◌, ◌++◌, map, drop, option_map}
use Rattle.sb_rulebook.specs.Reading.{each}
use Rattle.sb_proof.specs.Views.{texts}
use Rattle.sb_proof.proofs.shapes.each.Given as goal

abbrev pub invariant-loop-field : goal.invariant-loop-field
invariant-loop-field g l =
    each g.T.Shape.shape (texts l.fn.fields)
    ≡ option_map (λ xs. map g.T.Shape.meant l.items.items ++ xs)
    (each g.T.Shape.shape (texts (drop l.field-index l.fn.fields)))

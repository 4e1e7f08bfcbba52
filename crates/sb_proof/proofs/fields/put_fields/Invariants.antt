use Rattle.std.proofs.Common.{◌≡◌, ◌∷◌, ◌++◌, take}
use Rattle.std.specs.List.{flat_map}
use Rattle.std.specs.String.{string_bytes}
use Rattle.sb_proof.proofs.fields.put_fields.Given as goal

abbrev pub invariant-loop-field : goal.invariant-loop-field
invariant-loop-field g l =
    string_bytes l.text ≡ string_bytes l.fn.text
    ++ flat_map (λ x. 32 ∷ g.T.Field.spelled x) (take l.field-index l.fn.fields)

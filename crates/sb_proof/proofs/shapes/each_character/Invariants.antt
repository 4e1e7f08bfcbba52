use Rattle.std.proofs.Common.{◌≡◌, ◌++◌, drop, option_map}
use Rattle.sb_rulebook.specs.Reading.{each, hexadecimal_number}
use Rattle.sb_proof.specs.Views.{texts}
use Rattle.sb_proof.proofs.shapes.each_character.Given as goal

abbrev pub invariant-loop-field : goal.invariant-loop-field
invariant-loop-field l =
    each hexadecimal_number (texts l.fn.fields)
    ≡ option_map (λ xs. l.characters.items ++ xs) (each hexadecimal_number (texts (drop l.field-index l.fn.fields)))

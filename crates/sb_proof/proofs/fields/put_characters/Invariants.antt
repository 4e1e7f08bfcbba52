use Rattle.std.proofs.Common.{◌≡◌, ◌∷◌, ◌++◌, take}
use Rattle.std.specs.List.{flat_map}
use Rattle.std.specs.String.{string_bytes}
use Rattle.sb_rulebook.specs.Lines.{hexadecimal}
use Rattle.sb_proof.proofs.fields.put_characters.Given as goal

abbrev pub invariant-loop-character : goal.invariant-loop-character
invariant-loop-character l =
    string_bytes l.text ≡ string_bytes l.fn.text
    ++ flat_map (λ n. 46 ∷ hexadecimal n) (take l.character-index l.fn.characters)

use Rattle.std.proofs.Common.{◌≡◌, take}
use Rattle.std.specs.String.{string_bytes}
use Rattle.sb_word.specs.Literals.{literal_text}
use Rattle.sb_word.proofs.literal.print_literal.Given as goal

abbrev pub invariant-loop-code : goal.invariant-loop-code
invariant-loop-code l = string_bytes l.text ≡ literal_text (take l.code-index l.code-items)

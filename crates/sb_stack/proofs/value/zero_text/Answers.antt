use Rattle.std.proofs.Common.{sym, arith}
use Rattle.std.proofs.lemmas.Fmt.{decimal_digit}
use Rattle.sb_stack.proofs.value.zero_text.Goals as goal

pub returns : goal.returns
returns c = sym (decimal_digit 0 (omega arith))

use Rattle.std.proofs.Common.{length}
use Rattle.sb_reader.proofs.Reading.{Reads}
use Rattle.sb_reader.proofs.parse.parse_list.Given as goal

abbrev pub invariant-loop-lexeme : goal.invariant-loop-lexeme
invariant-loop-lexeme l = Reads l.bytes l.rest l.lists

abbrev pub decreases-loop-lexeme : goal.decreases-loop-lexeme
decreases-loop-lexeme l = length l.rest

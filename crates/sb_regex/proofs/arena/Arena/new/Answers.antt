use Rattle.std.proofs.lemmas.List.{nil_from_length}
use Rattle.sb_regex.proofs.Remembering.{remembered_none}
use Rattle.sb_regex.proofs.TableFacts.{table_none, regexes_nil}
use Rattle.sb_regex.proofs.arena.Arena.new.Goals as goal

pub invariant_of-result : goal.invariant_of-result
invariant_of-result c = (
  rw (nil_from_length _ c.new.ensures.len, c.new-2.ensures.items) table_none,
  remembered_none _ _ _ c.new-3.ensures.empty c.new-4.ensures.empty,
  record { no_word = tt; empty_word = tt; every_word = tt },
)

pub returns : goal.returns
returns c = regexes_nil _ c.new.ensures.len

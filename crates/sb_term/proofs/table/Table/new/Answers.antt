use Rattle.std.proofs.lemmas.List.{nil_from_length}
use Rattle.sb_term.proofs.TableFacts.{table_none, terms_nil}
use Rattle.sb_term.proofs.Marks.{marks_none}
use Rattle.sb_term.proofs.table.Table.new.Goals as goal

pub invariant_of-result : goal.invariant_of-result
invariant_of-result c = (
  rw (nil_from_length _ c.new.ensures.len) table_none,
  rw (nil_from_length _ c.new.ensures.len, c.new-2.ensures.items) marks_none,
)

pub returns : goal.returns
returns c = terms_nil _ c.new.ensures.len

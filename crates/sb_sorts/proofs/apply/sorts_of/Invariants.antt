use Rattle.std.proofs.Common.{◌≡◌, map, take}
use Rattle.sb_meaning.specs.Sorts.{sort_of}
use Rattle.sb_term.specs.Numbered.{terms_at}
use Rattle.sb_term.specs.Symbols.{sort_in}
use Rattle.sb_sorts.proofs.apply.sorts_of.Given as goal

abbrev pub invariant-loop-id : goal.invariant-loop-id
invariant-loop-id l = map sort_in l.sorts.items ≡ map sort_of (terms_at l.table (take l.id-index l.ids))

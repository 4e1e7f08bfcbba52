use Rattle.std.proofs.Common.{◌≡◌, true, take}
use Rattle.std.specs.List.{list_all}
use Rattle.sb_script.specs.Brought.{is_regex}
use Rattle.sb_term.specs.Numbered.{terms_at}
use Rattle.sb_problem.proofs.normals.Normals.concatenated.Given as goal

abbrev pub invariant-loop-id : goal.invariant-loop-id
invariant-loop-id l = list_all is_regex (terms_at l.fn.table (take l.id-index l.fn.ids)) ≡ true

use Rattle.std.proofs.Common.{◌≡◌, true, take}
use Rattle.std.specs.HashSet.{contains}
use Rattle.sb_lit.specs.declared.clause.Lit.{Lit}
use Rattle.sb_lit.specs.Clauses.{negation, is_among}
use Rattle.sb_clauses.specs.Records.{kept_of}
use Rattle.sb_clauses.specs.Watching.{list_of}
use Rattle.sb_clauses.specs.Occurring.{are_equal, HasNoneIn}
use Rattle.sb_clauses.proofs.occurrences.false_of_any.Given as goal

abbrev pub invariant-loop-literal : goal.invariant-loop-literal
invariant-loop-literal l = (m : Lit) → is_among (take l.literal-index l.literals) m ≡ true
    → HasNoneIn (kept_of l.records) l.nodes (contains are_equal l.all) (list_of (negation m))

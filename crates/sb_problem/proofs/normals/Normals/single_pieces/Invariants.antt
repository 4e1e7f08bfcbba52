use Rattle.std.proofs.Common.{◌≡◌, true, nat_lt, length}
use Rattle.std.specs.List.{list_all}
use Rattle.sb_regex.specs.Numbered.{Extends}
use Rattle.sb_term.specs.Numbered.{term_at, terms_at}
use Rattle.sb_problem.specs.Known.{AreNormals}
use Rattle.sb_problem.specs.Parts.{parts_in}
use Rattle.sb_problem.specs.Taking.{Taking, weight_of}
use Rattle.sb_problem.proofs.normals.Normals.single_pieces.Given as goal

abbrev pub invariant-loop-next : goal.invariant-loop-next
invariant-loop-next l = record {
  normals : AreNormals l.fn.table l.arena l.self;
  extends : Extends l.fn.arena l.arena;
  below : list_all (λ i. nat_lt i (length l.fn.table)) l.left.items ≡ true;
  taking : Taking (term_at l.fn.table l.fn.id) (parts_in l.parts.items) l.run.items l.met.keys
      (terms_at l.fn.table l.left.items);
}

abbrev pub decreases-loop-next : goal.decreases-loop-next
decreases-loop-next l = weight_of (terms_at l.fn.table l.left.items)

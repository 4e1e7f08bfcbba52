use Rattle.std.proofs.Common.{◌≡◌, true, nat_lt, length}
use Rattle.std.specs.List.{list_all}
use Rattle.sb_meaning.specs.Terms.{terms_of}
use Rattle.sb_term.specs.Numbered.{term_at, terms_at}
use Rattle.sb_problem.specs.Waiting.{sizes}
use Rattle.sb_fragment.specs.Ruled.{Meeting}
use Rattle.sb_fragment.proofs.repeated.has_each_once.Given as goal

abbrev pub invariant-loop-next : goal.invariant-loop-next
invariant-loop-next l = record {
  below : list_all (λ i. nat_lt i (length l.fn.measures)) l.left.items ≡ true;
  meeting : Meeting (term_at l.fn.table l.fn.id) l.met.keys (terms_at l.fn.table l.left.items);
}

abbrev pub decreases-loop-next : goal.decreases-loop-next
decreases-loop-next l = sizes (terms_of (terms_at l.fn.table l.left.items))

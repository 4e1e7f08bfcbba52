use Rattle.std.proofs.Common.{arith}
use Rattle.std.proofs.lemmas.Bool.{false≢true}
use Rattle.sb_theory.proofs.CallerLemmas.{all_known}
use Rattle.sb_table_tests.proofs.searches.search_case.Goals as goal

pub search-requires : goal.search-requires
search-requires g c = record {
  reasoned = rw c.clear.ensures tt;
  stands = rw c.clear.ensures c.requires;
  passes = record {
    clauses = all_known c.args.theory.now.atoms c.clear.new.self.kept
        (c.atoms.ensures _ (omega (arith, c.len.ensures, c.if-atoms-len.false)));
    assumed = λ l among. absurd (false≢true among);
  };
}

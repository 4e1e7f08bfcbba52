use Rattle.sb_atoms.proofs.CallerLemmas.{no_atoms}
use Rattle.sb_table_tests.proofs.AtomLemmas.{none_formed}
use Rattle.sb_table_tests.proofs.searches.expect_case.Goals as goal

pub add_all-added-requires : goal.add_all-added-requires
add_all-added-requires g c = record {
  atoms = rw c.new-atoms.ensures (no_atoms _);
  formed = rw c.new-atoms.ensures none_formed;
}

pub search_tables-requires : goal.search_tables-requires
search_tables-requires g c = record {
  store = record { graph = c.new.ensures.graph _; plain = c.new-2.ensures _ };
  regexes = c.add_all-added.ensures.atoms;
  formed = c.add_all-added.ensures.formed;
  wanted = c.in_ok-wanted.ensures;
}

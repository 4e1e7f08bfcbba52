use Rattle.sb_search.proofs.lemma.backtrack.Goals as goal

pub returns-clause-back : goal.returns-clause-back
returns-clause-back g c = record {
  stays = record {
    wanted = c.backtrack-3.ensures.wanted;
    passes = c.backtrack-3.ensures.passes;
    teaches = c.backtrack-3.ensures.teaches;
  };
  puts = c.backtrack-3.ensures.puts;
  falls = c.backtrack-3.ensures.falls;
}

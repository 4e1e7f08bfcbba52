use Rattle.sb_solve.proofs.searching.put_back.Goals as goal

pub returns-clause-evidence : goal.returns-clause-evidence
returns-clause-evidence c = rw c.replace.ensures.after c.from_parts.ensures.backing

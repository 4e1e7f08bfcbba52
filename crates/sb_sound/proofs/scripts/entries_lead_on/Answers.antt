use Rattle.sb_sound.proofs.ScriptHistory.{start_fits, are_terms, entries_lead_on}
use Rattle.sb_sound.proofs.scripts.entries_lead_on.Goals as goal

pub returns-clause-start : goal.returns-clause-start
returns-clause-start c = start_fits

pub returns-clause-terms : goal.returns-clause-terms
returns-clause-terms c = are_terms

pub returns-clause-entries : goal.returns-clause-entries
returns-clause-entries c = entries_lead_on

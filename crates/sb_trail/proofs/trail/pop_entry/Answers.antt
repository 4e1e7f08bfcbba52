use Rattle.sb_trail.proofs.EntryLemmas.{popped_last}
use Rattle.sb_trail.proofs.trail.pop_entry.Goals as goal

pub returns-clause-cases : goal.returns-clause-cases
returns-clause-cases c =
    popped_last _ c.args.entries.now.items c.pop.new.self.items c.pop.result c.args.entries.now.ok.0
    c.pop.ensures.variant c.pop.ensures.items

use Rattle.sb_trail.proofs.ValueLemmas.{open_literal, literal_with_value, IsConsistent-held}
use Rattle.sb_trail.proofs.trail.Trail.literal_value.Goals as goal

pub returns-in-Some-clause-value : goal.returns-in-Some-clause-value
returns-in-Some-clause-value c =
    literal_with_value c.args.self.now.literals c.value.ensures.distinct c.args.literal c.in-Some.value
    c.in-Some.ensures.value

pub returns-in-Some-clause-consistent : goal.returns-in-Some-clause-consistent
returns-in-Some-clause-consistent c = IsConsistent-held c.args.self.now.literals c.value.ensures.distinct

pub returns-in-None-clause-value : goal.returns-in-None-clause-value
returns-in-None-clause-value c =
    open_literal c.args.self.now.literals c.value.ensures.distinct c.args.literal c.in-None.ensures.value

pub returns-in-None-clause-consistent : goal.returns-in-None-clause-consistent
returns-in-None-clause-consistent c = IsConsistent-held c.args.self.now.literals c.value.ensures.distinct

use Rattle.std.proofs.Common.{sym, ◌∙◌}
use Rattle.sb_rules.proofs.members.member_in.Goals as goal

pub returns-in-Some : goal.returns-in-Some
returns-in-Some c = sym c.in-Some.is ∙ c.member.ensures.exact

pub returns-in-None : goal.returns-in-None
returns-in-None c = sym c.in-None.is ∙ c.member.ensures.exact

use Rattle.std.proofs.Common.{sym, ap, ◌∙◌, slice_get}
use Rattle.sb_rules.specs.Refuting.{member_in}
use Rattle.sb_rules.proofs.members.member.Goals as goal

pub returns : goal.returns
returns c =
    c.member_in.ensures
    ∙ ap member_in (sym c.describe.ensures.names ∙ ap (slice_get c.args.atoms.now) c.of.ensures)

use Rattle.std.proofs.Common.{◌∙◌, sym, ap}
use Rattle.std.specs.List.{list_any}
use Rattle.sb_plain.specs.Memory.{same_pair}
use Rattle.sb_plain.proofs.Failing.{failed_has}
use Rattle.sb_plain.proofs.failed.Failed.has.Goals as goal

pub returns : goal.returns
returns c = λ h rs failed.
    failed_has rs c.args.self.now.0 c.args.self.now.1 c.args.regex c.args.place
    (ap (λ m. list_any (same_pair (c.args.regex, c.args.place)) m.1) (sym c.self.view_is) ∙ sym c.contains.ensures ∙ h)
    failed

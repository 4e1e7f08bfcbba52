use Rattle.std.proofs.Common.{Some, ap, sym, option_copied, ◌∙◌}
use Rattle.sb_sorts.specs.Binding.{pairs_of}
use Rattle.sb_sorts.proofs.Binds.{once_again}
use Rattle.sb_sorts.proofs.read.refuse_again.Goals as goal

pub returns-in_ok-from_slice-in-Some : goal.returns-in_ok-from_slice-in-Some
returns-in_ok-from_slice-in-Some c =
    once_again (pairs_of c.args.bound.now) c.in_ok-from_slice-in-Some.field-0.items
    (ap Some c.in_ok-from_slice-in-Some.ensures.items ∙ ap option_copied (sym c.in-Some.is) ∙ c.in_ok-name.ensures)

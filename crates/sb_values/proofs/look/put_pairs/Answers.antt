use Rattle.sb_values.proofs.Exploring.{explores_both, explores_derived}
use Rattle.sb_values.proofs.look.put_pairs.Goals as goal

pub returns-in_err-derive_again : goal.returns-in_err-derive_again
returns-in_err-derive_again c =
    let d = c.derive.ensures in
    explores_both (explores_derived d.extends d.graph d.marks d.derivatives_stay) c.derive_again.ensures

pub returns : goal.returns
returns c =
    let d = c.derive.ensures in
    explores_both (explores_derived d.extends d.graph d.marks d.derivatives_stay) c.derive_again.ensures

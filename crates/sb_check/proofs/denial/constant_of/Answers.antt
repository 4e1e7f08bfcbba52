use Rattle.std.proofs.Common.{ap, sym, ◌∙◌, slice_get, arith}
use Rattle.std.proofs.lemmas.Option.{slice_get_past}
use Rattle.sb_check.specs.Denying.{constant_in}
use Rattle.sb_check.proofs.denial.constant_of.Goals as goal

pub returns-then-literal-len : goal.returns-then-literal-len
returns-then-literal-len c =
    ap constant_in
    (sym (slice_get_past c.args.atoms.now c.args.literal.atom (omega (arith, c.if-literal-len.true, c.len.ensures))))

pub describe-requires : goal.describe-requires
describe-requires c = omega (arith, c.if-literal-len.false, c.len.ensures, c.of.ensures)

pub returns : goal.returns
returns c =
    c.constant_in.ensures
    ∙ ap constant_in (sym c.describe.ensures.names ∙ ap (slice_get c.args.atoms.now) c.of.ensures)

use Rattle.std.proofs.Common.{ℕ, List, Err, subst}
use Rattle.sb_word.specs.Faults.{OutsideFault}
use Rattle.sb_graph.proofs.WalkSteps.{none_outside}
use Rattle.sb_graph.proofs.members.word_from.Goals as goal

pub unreachable-requires : goal.unreachable-requires
unreachable-requires c =
    let codes = c.args.codes.now in
    let error = c.in-Err-NotACharacter in
    let o = subst (λ e. OutsideFault {T = List ℕ} codes (Err e)) error.field-0-is
    (subst (OutsideFault {T = List ℕ} codes) error.is c.from_codes.ensures.outside) in
    none_outside codes error.field-0-0 o.code c.requires o.there o.outside

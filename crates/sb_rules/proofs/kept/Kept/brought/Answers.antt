use Rattle.std.proofs.Common.{sym, ◌∙◌}
use Rattle.sb_proof.specs.Lines.{atom_in}
use Rattle.sb_rules.proofs.AtomLines.{brought_as}
use Rattle.sb_rules.proofs.kept.Kept.brought.Goals as goal

pub returns-then-not-is_brought : goal.returns-then-not-is_brought
returns-then-not-is_brought c = λ there. sym c.is_brought.ensures ∙ c.if-not-is_brought.true

pub returns : goal.returns
returns c =
    brought_as c.args.self.now.regexes.order (atom_in c.args.atom.now) c.in_ok-found.found
    (sym c.is_brought.ensures ∙ c.if-not-is_brought.false) c.in_ok-found.ensures

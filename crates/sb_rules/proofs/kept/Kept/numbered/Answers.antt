use Rattle.std.proofs.Common.{◌≡◌, ℕ, Option, Some, IfOk, option_map, sym, ap, subst, ◌∙◌}
use Rattle.sb_rulebook.specs.Atoms.{AtomOver}
use Rattle.sb_proof.specs.Lines.{atom_in}
use Rattle.sb_rules.proofs.AtomLines.{by_number, unnumbered}
use Rattle.sb_rules.proofs.kept.Kept.numbered.Goals as goal

pub returns-in-Some : goal.returns-in-Some
returns-in-Some c =
    subst (λ (o : Option (AtomOver ℕ)). IfOk c.with_number.result (λ found. option_map atom_in found ≡ o))
    (sym (by_number c.args.self.now.regexes.order (atom_in c.args.atom.now) c.in-Some.number
    (sym c.regex.ensures ∙ c.in-Some.is)))
    c.with_number.ensures

pub returns-in_ok-same-in-None : goal.returns-in_ok-same-in-None
returns-in_ok-same-in-None c =
    ap Some c.in_ok-same-in-None.ensures
    ∙ unnumbered c.args.self.now.regexes.order c.default.result (atom_in c.args.atom.now)
    (sym c.regex.ensures ∙ c.in-None.is)

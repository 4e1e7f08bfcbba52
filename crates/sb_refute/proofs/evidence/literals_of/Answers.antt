use Rattle.std.specs.Option.{option_copied}
use Rattle.sb_refute.proofs.Words.{ap, sym, ◌∙◌, IfOk-weaker, kept_at}
use Rattle.sb_refute.proofs.Clauses.{found-literals, no-literals}
use Rattle.sb_refute.proofs.evidence.literals_of.Goals as goal

pub returns-in-Some : goal.returns-in-Some
returns-in-Some c =
    IfOk-weaker c.enlarged.result _ _
    (λ all is.
    is
    ∙ found-literals (kept_at c.args.clauses.now c.args.id.0) c.in-Some.literals.now
    (sym (ap option_copied c.in-Some.is) ∙ c.literals.ensures))
    c.enlarged.ensures

pub returns-in-None : goal.returns-in-None
returns-in-None c =
    c.new.ensures.items
    ∙ no-literals (kept_at c.args.clauses.now c.args.id.0) (sym (ap option_copied c.in-None.is) ∙ c.literals.ensures)

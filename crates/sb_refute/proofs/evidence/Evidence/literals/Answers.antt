use Rattle.sb_refute.proofs.Words.{◌≡◌, ap, subst, ◌∙◌, IfOk, Kept, Backing, literals_at}
use Rattle.sb_refute.proofs.evidence.Evidence.literals.Goals as goal

pub returns : goal.returns
returns c =
    subst (λ (kept : Kept). IfOk c.literals_of.result (λ literals. literals.items ≡ literals_at kept c.args.id.0))
    (c.clauses.ensures ∙ ap (λ (e : Backing). e.kept) c.self.view_is) c.literals_of.ensures

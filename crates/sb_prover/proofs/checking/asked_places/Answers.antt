use Rattle.sb_prover.proofs.Words.{sym, subst, AreAsked, Decided, IfOk-weaker, IsClash}
use Rattle.sb_prover.proofs.Solutions.{question-asked}
use Rattle.sb_prover.proofs.checking.asked_places.Goals as goal

pub clash-requires : goal.clash-requires
clash-requires c = c.requires c.in-Dead.is

pub returns-in-Dead : goal.returns-in-Dead
returns-in-Dead c =
    let others = c.args.decider.now.others.items in
    IfOk-weaker c.from_slice.result _ _ (λ places same s knows asked.
    subst (λ (d : Decided). AreAsked others s d places.items) (sym c.in-Dead.is)
    (subst (IsClash s) (sym same) (c.clash.ensures s knows))) c.from_slice.ensures.items

pub returns-in_default : goal.returns-in_default
returns-in_default c =
    IfOk-weaker c.question.result _ _ (λ places question s knows asked.
    question-asked c.args.decider.now s c.args.decided places.items c.in_default.not-Dead asked (question s))
    c.question.ensures

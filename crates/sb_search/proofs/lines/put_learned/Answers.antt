use Rattle.sb_search.proofs.Words.{◌≡◌, ℕ, true, List, subst, list_all, and_from, IfOk-from_err, on_ok_weaker, Lit, are_small, is_small_literal}
use Rattle.sb_search.proofs.lines.put_learned.Goals as goal

pub returns-clause-has_text : goal.returns-clause-has_text
returns-clause-has_text g c =
    on_ok_weaker c.put.result
    (λ _. and_from (list_all is_small_literal c.args.lesson.now.clause) (are_small c.args.lesson.now.hints)
    (subst (λ (ls : List Lit). list_all is_small_literal ls ≡ true) c.literals.ensures c.in_ok-literals.ensures.small)
    (subst (λ (ns : List ℕ). are_small ns ≡ true) c.ids.ensures c.in_ok-hints.ensures.small)) c.put.ensures.ok

pub returns-in_err-hints-clause-has_text : goal.returns-in_err-hints-clause-has_text
returns-in_err-hints-clause-has_text g c =
    IfOk-from_err c.from_residual-in_err-hints.result _ c.from_residual-in_err-hints.ensures.0

pub returns-in_err-hints-clause-told : goal.returns-in_err-hints-clause-told
returns-in_err-hints-clause-told g c =
    IfOk-from_err c.from_residual-in_err-hints.result _ c.from_residual-in_err-hints.ensures.0

pub returns-in_err-literals-clause-has_text : goal.returns-in_err-literals-clause-has_text
returns-in_err-literals-clause-has_text g c = IfOk-from_err c.from_residual.result _ c.from_residual.ensures.0

pub returns-in_err-literals-clause-told : goal.returns-in_err-literals-clause-told
returns-in_err-literals-clause-told g c = IfOk-from_err c.from_residual.result _ c.from_residual.ensures.0

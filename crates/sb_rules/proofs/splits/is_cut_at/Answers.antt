use Rattle.std.proofs.Common.{◌&&◌, sym, ap, ◌∙◌}
use Rattle.sb_lang.specs.Derivative.{nd_along}
use Rattle.sb_lang.specs.Order.{regex_eq}
use Rattle.sb_regex.specs.Numbered.{regex_at}
use Rattle.sb_regex.proofs.CallerLemmas.{extends_same}
use Rattle.sb_rules.proofs.Parting.{ok_for}
use Rattle.sb_rules.proofs.splits.is_cut_at.Goals as goal

pub returns-then-not-are_same-clause-ok : goal.returns-then-not-are_same-clause-ok
returns-then-not-are_same-clause-ok c =
    let rs = c.args.arena.now in
    ap (λ t. t && regex_eq (nd_along (regex_at rs c.args.regex) c.args.word.now) (regex_at rs c.args.target))
    (sym c.if-not-are_same.true ∙ c.are_same.ensures)

pub returns-clause-ok : goal.returns-clause-ok
returns-clause-ok c =
    let rs = c.args.arena.now in
    ok_for c.is_along.result _ _
    (ap (λ t. t && regex_eq (nd_along (regex_at rs c.args.regex) c.args.word.now) (regex_at rs c.args.target))
    (sym c.if-not-are_same.false ∙ c.are_same.ensures)) c.is_along.ensures.ok

pub returns-then-not-are_same-clause-extends : goal.returns-then-not-are_same-clause-extends
returns-then-not-are_same-clause-extends c = extends_same _

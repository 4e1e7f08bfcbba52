use Rattle.std.proofs.Common.{sym, ◌∙◌}
use Rattle.sb_lang.specs.Derivative.{nd}
use Rattle.sb_regex.specs.Numbered.{regex_at}
use Rattle.sb_rules.proofs.Judged.{same-at}
use Rattle.sb_rules.proofs.branches.leads_at.Goals as goal

pub returns-clause-ok : goal.returns-clause-ok
returns-clause-ok c =
    c.eq.ensures
    ∙ sym (same-at c.args.arena.now c.plain_derivative.new.arena
    (nd (regex_at c.args.arena.now c.args.regex) c.args.character) c.in_ok-derivative.derivative
    c.order_tells_apart.ensures c.normal_regexes_each_once.ensures.distinct c.in_ok-derivative.ensures.extends
    c.in_ok-derivative.ensures.ok c.args.target c.requires.target)

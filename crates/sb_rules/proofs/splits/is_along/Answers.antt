use Rattle.std.proofs.Common.{ℕ, List, subst, sym, ap, ◌∙◌}
use Rattle.sb_word.specs.Words.{are_characters}
use Rattle.sb_lang.specs.Derivative.{nd_along}
use Rattle.sb_regex.specs.Numbered.{regex_at, Names}
use Rattle.sb_regex.proofs.CallerLemmas.{extends_same}
use Rattle.sb_rules.proofs.Judged.{same-at}
use Rattle.sb_rules.proofs.splits.is_along.Goals as goal

pub along-requires-clause-word : goal.along-requires-clause-word
along-requires-clause-word c = ap are_characters (c.deref.ensures.value ∙ c.in_ok-codes.ensures) ∙ c.requires.word

pub returns-clause-ok : goal.returns-clause-ok
returns-clause-ok c =
    let r = regex_at c.args.arena.now c.args.regex in
    c.eq.ensures
    ∙ sym (same-at c.args.arena.now c.along.new.arena (nd_along r c.args.word.now) c.in_ok-rest.rest
    c.order_tells_apart.ensures c.normal_regexes_each_once.ensures.distinct c.in_ok-rest.ensures.extends
    (subst (λ (w : List ℕ). Names c.along.new.arena c.in_ok-rest.rest (nd_along r w))
    (c.deref.ensures.value ∙ c.in_ok-codes.ensures) c.in_ok-rest.ensures.ok) c.args.target c.requires.target)

pub returns-in_err-codes-clause-extends : goal.returns-in_err-codes-clause-extends
returns-in_err-codes-clause-extends c = extends_same _

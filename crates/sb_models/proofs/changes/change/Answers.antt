use Rattle.std.proofs.Common.{sym, ◌∙◌}
use Rattle.sb_models.specs.Tried.{texts_in}
use Rattle.sb_models.proofs.WordFacts.{all_given, texts_long}
use Rattle.sb_models.proofs.changes.change.Goals as goal

pub returns-then-not-branch-clause-none : goal.returns-then-not-branch-clause-none
returns-then-not-branch-clause-none c = sym c.in_ok-put_all.ensures.known ∙ c.if-not-branch.true

pub returns-clause-some : goal.returns-clause-some
returns-clause-some c = sym c.in_ok-put_all.ensures.known ∙ c.if-not-branch.false

pub returns-clause-words : goal.returns-clause-words
returns-clause-words c =
    all_given c.args.before.now c.args.live.now c.same_front-count.result (texts_in c.args.values.now)
    c.clear_behind.new.words.items c.put_all.new.words.items (texts_long c.args.values.now ∙ c.requires.long)
    c.same_front-count.ensures c.in_ok-clear_behind.ensures.empty
    (c.in_ok-put_all.ensures.words c.if-not-branch.false)

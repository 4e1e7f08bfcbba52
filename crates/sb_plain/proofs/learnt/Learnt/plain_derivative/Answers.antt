use Rattle.std.proofs.Common.{◌∙◌, sym, subst}
use Rattle.sb_lang.specs.Regex.{Regex}
use Rattle.sb_lang.specs.Derivative.{nd}
use Rattle.sb_regex.specs.Numbered.{Names}
use Rattle.sb_regex.proofs.CallerLemmas.{at_kept}
use Rattle.sb_plain.proofs.Remembering.{character, found_names}
use Rattle.sb_plain.proofs.learnt.Learnt.plain_derivative.Goals as goal

pub returns-in-Some-clause-ok : goal.returns-in-Some-clause-ok
returns-in-Some-clause-ok c =
    (found_names c.args.arena.now c.args.self.now c.args.r c.args.c c.in-Some.id
    (character c.args.c c.requires.character) c.requires.right (sym c.found.ensures ∙ c.in-Some.is)).1

pub returns-clause-ok : goal.returns-clause-ok
returns-clause-ok c =
    subst (λ (x : Regex). Names c.learn.new.arena c.derivative.result (nd x c.args.c))
    (at_kept c.args.arena.now c.learn.new.arena c.args.r c.in_ok-learn.ensures.extends c.requires.known)
    (found_names c.learn.new.arena c.learn.new.self c.args.r c.args.c c.derivative.result
    (character c.args.c c.requires.character) c.in_ok-learn.ensures.right c.derivative.ensures).1

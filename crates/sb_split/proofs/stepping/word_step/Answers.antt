use Rattle.sb_split.proofs.Words.{ap, map, IfOk-weaker, names_below, piece_in, regexes_kept}
use Rattle.sb_split.proofs.AddedFacts.{adds_arena, adds_both, declare}
use Rattle.sb_split.proofs.OnlyFacts.{step_word}
use Rattle.sb_split.proofs.StepFacts.{given_more, word_is}
use Rattle.sb_split.proofs.stepping.word_step.Goals as goal

pub returns-in_err-target-clause-adds : goal.returns-in_err-target-clause-adds
returns-in_err-target-clause-adds c =
    adds_arena (declare (map piece_in c.args.pieces.items)) c.args.arena.now c.along.new.arena c.args.atoms.now
    c.along.ensures.extends c.requires.regexes

pub returns-in_err-behind-clause-adds : goal.returns-in_err-behind-clause-adds
returns-in_err-behind-clause-adds c =
    adds_both (declare (map piece_in c.args.pieces.items)) c.args.arena.now c.along.new.arena c.along.new.arena
    c.args.atoms.now c.args.atoms.now c.member.new.atoms
    (adds_arena (declare (map piece_in c.args.pieces.items)) c.args.arena.now c.along.new.arena c.args.atoms.now
    c.along.ensures.extends c.requires.regexes)
    (c.member.ensures.adds c.along.new.arena
    (names_below c.along.new.arena c.in_ok-target.target _ c.in_ok-target.ensures.ok)
    (regexes_kept c.args.arena.now c.along.new.arena c.args.atoms.now c.along.ensures.extends c.requires.regexes))

pub returns-clause-step : goal.returns-clause-step
returns-clause-step c =
    IfOk-weaker c.step_over.result _ _
    (λ answer over. given_more _ _ answer
    (λ step. word_is c.along.new.arena c.member.new.atoms c.args.literal c.in_ok-target.target
    (map piece_in c.args.pieces.items) _ c.in_ok-behind.behind c.negated.result c.signed_as-rest.result step
    c.in_ok-behind.ensures.member c.in_ok-target.ensures.ok c.negated.ensures c.signed_as-rest.ensures) over)
    c.step_over.ensures

pub returns-clause-adds : goal.returns-clause-adds
returns-clause-adds c =
    adds_both (declare (map piece_in c.args.pieces.items)) c.args.arena.now c.along.new.arena c.along.new.arena
    c.args.atoms.now c.args.atoms.now c.member.new.atoms
    (adds_arena (declare (map piece_in c.args.pieces.items)) c.args.arena.now c.along.new.arena c.args.atoms.now
    c.along.ensures.extends c.requires.regexes)
    (c.member.ensures.adds c.along.new.arena
    (names_below c.along.new.arena c.in_ok-target.target _ c.in_ok-target.ensures.ok)
    (regexes_kept c.args.arena.now c.along.new.arena c.args.atoms.now c.along.ensures.extends c.requires.regexes))

pub returns-clause-only : goal.returns-clause-only
returns-clause-only c =
    IfOk-weaker c.step_over.result _ _
    (λ answer. step_word c.args.atoms.now c.member.new.atoms c.in_ok-behind.behind c.negated.result
    c.signed_as-rest.result _ _ answer c.in_ok-behind.ensures.only
    (ap (λ l. l.atom) c.signed_as-rest.ensures)) c.step_over.ensures

use Rattle.sb_split.proofs.Words.{ap, map, IfOk-weaker, number_kept, piece_in}
use Rattle.sb_split.proofs.AddedFacts.{adds_front, adds_split}
use Rattle.sb_split.proofs.OnlyFacts.{step_constant}
use Rattle.sb_split.proofs.StepFacts.{constant_later, given_more}
use Rattle.sb_split.proofs.stepping.constant_step.Goals as goal

pub returns-in_err-lead-clause-adds : goal.returns-in_err-lead-clause-adds
returns-in_err-lead-clause-adds c =
    adds_front c.args.arena.now c.path.new.arena c.args.atoms.now c.path.new.atoms c.args.serial
    (map piece_in c.args.pieces.items) c.path.ensures.adds

pub returns-in_err-behind-clause-adds : goal.returns-in_err-behind-clause-adds
returns-in_err-behind-clause-adds c =
    adds_split c.args.arena.now c.path.new.arena c.args.atoms.now c.path.new.atoms c.member.new.atoms c.args.serial
    (map piece_in c.args.pieces.items) c.path.ensures.adds
    (c.member.ensures.adds c.path.new.arena
    (number_kept c.args.arena.now c.path.new.arena c.args.between c.path.ensures.adds.arena c.requires.between)
    c.path.ensures.adds.regexes)

pub returns-clause-step : goal.returns-clause-step
returns-clause-step c =
    let added = c.member.ensures.adds c.path.new.arena
    (number_kept c.args.arena.now c.path.new.arena c.args.between c.path.ensures.adds.arena c.requires.between)
    c.path.ensures.adds.regexes in
    IfOk-weaker c.step_over.result _ _
    (λ answer over. given_more _ _ answer
    (λ step. constant_later _ c.args.arena.now c.path.new.arena c.path.new.atoms c.member.new.atoms c.args.literal
    c.args.serial c.args.regex c.args.between (map piece_in c.args.pieces.items) c.in_ok-lead.lead
    c.in_ok-behind.behind c.negated.result c.negated-2.result c.signed_as-rest.result step c.path.ensures.adds.arena
    c.requires.regex c.requires.between added c.in_ok-lead.ensures.path c.in_ok-behind.ensures.member
    c.negated.ensures c.negated-2.ensures c.signed_as-rest.ensures) over) c.step_over.ensures

pub returns-clause-adds : goal.returns-clause-adds
returns-clause-adds c =
    adds_split c.args.arena.now c.path.new.arena c.args.atoms.now c.path.new.atoms c.member.new.atoms c.args.serial
    (map piece_in c.args.pieces.items) c.path.ensures.adds
    (c.member.ensures.adds c.path.new.arena
    (number_kept c.args.arena.now c.path.new.arena c.args.between c.path.ensures.adds.arena c.requires.between)
    c.path.ensures.adds.regexes)

pub returns-clause-only : goal.returns-clause-only
returns-clause-only c =
    IfOk-weaker c.step_over.result _ _
    (λ answer. step_constant c.args.atoms.now c.path.new.atoms c.member.new.atoms c.in_ok-lead.lead
    c.in_ok-behind.behind c.negated.result c.negated-2.result c.signed_as-rest.result _ _ answer
    c.in_ok-lead.ensures.only c.in_ok-behind.ensures.only c.negated.ensures
    (ap (λ l. l.atom) c.signed_as-rest.ensures)) c.step_over.ensures

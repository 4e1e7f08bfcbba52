use Rattle.sb_split.proofs.Words.{map, subst, Adds, IfOk-weaker, declares, names_below, piece_in, regexes_kept}
use Rattle.sb_split.proofs.AddedFacts.{adds_arena, adds_path, declare}
use Rattle.sb_split.proofs.CoverFacts.{path_is}
use Rattle.sb_split.proofs.adding.path.Goals as goal

pub returns-in_err-regex-clause-adds : goal.returns-in_err-regex-clause-adds
returns-in_err-regex-clause-adds c =
    adds_arena (declares c.args.serial) c.args.arena.now c.path.new.self c.args.atoms.now c.path.ensures.extends
    c.requires.regexes

pub returns-clause-path : goal.returns-clause-path
returns-clause-path c =
    IfOk-weaker c.member.result _ _
    (λ l member. path_is c.args.arena.now c.path.new.self c.member.new.atoms c.args.serial c.args.from c.args.to
    c.in_ok-regex.regex (map piece_in c.alone-pieces.result.items) l c.alone-pieces.ensures c.path.ensures.extends
    c.requires.from c.requires.to c.in_ok-regex.ensures.ok member) c.member.ensures.member

pub returns-clause-adds : goal.returns-clause-adds
returns-clause-adds c =
    adds_path c.args.arena.now c.path.new.self c.args.atoms.now c.member.new.atoms c.args.serial
    c.path.ensures.extends c.requires.regexes
    (subst (λ ps. Adds (declare ps) c.path.new.self c.path.new.self c.args.atoms.now c.member.new.atoms)
    c.alone-pieces.ensures
    (c.member.ensures.adds c.path.new.self
    (names_below c.path.new.self c.in_ok-regex.regex _ c.in_ok-regex.ensures.ok)
    (regexes_kept c.args.arena.now c.path.new.self c.args.atoms.now c.path.ensures.extends c.requires.regexes)))

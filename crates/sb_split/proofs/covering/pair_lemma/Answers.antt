use Rattle.sb_split.proofs.Words.{IfOk-weaker, extends_more, declares, number_kept}
use Rattle.sb_split.proofs.AddedFacts.{adds_both}
use Rattle.sb_split.proofs.OnlyFacts.{spoken_pair}
use Rattle.sb_split.proofs.CoverFacts.{differ_later, pair_denies, pair_is}
use Rattle.sb_split.proofs.covering.pair_lemma.Goals as goal

pub returns-in_err-second-clause-adds : goal.returns-in_err-second-clause-adds
returns-in_err-second-clause-adds c =
    adds_both (declares c.args.constant.0) c.args.arena.now c.path.new.arena c.path-2.new.arena c.args.atoms.now
    c.path.new.atoms c.path-2.new.atoms c.path.ensures.adds c.path-2.ensures.adds

pub returns-clause-adds : goal.returns-clause-adds
returns-clause-adds c =
    adds_both (declares c.args.constant.0) c.args.arena.now c.path.new.arena c.path-2.new.arena c.args.atoms.now
    c.path.new.atoms c.path-2.new.atoms c.path.ensures.adds c.path-2.ensures.adds

pub returns-clause-pair : goal.returns-clause-pair
returns-clause-pair c =
    IfOk-weaker c.clause_of.result _ _
    (λ clause is. pair_is (declares c.args.constant.0) c.path.new.arena c.path-2.new.arena c.path.new.atoms
    c.path-2.new.atoms c.args.constant.0 c.args.from c.args.one c.args.other c.in_ok-first.first
    c.in_ok-second.second c.negated.result c.negated-2.result clause c.path-2.ensures.adds
    (number_kept c.args.arena.now c.path.new.arena c.args.from c.path.ensures.adds.arena c.requires.from)
    (number_kept c.args.arena.now c.path.new.arena c.args.one c.path.ensures.adds.arena c.requires.one)
    c.in_ok-first.ensures.path c.in_ok-second.ensures.path c.negated.ensures c.negated-2.ensures is) c.clause_of.ensures

pub returns-clause-denial : goal.returns-clause-denial
returns-clause-denial c =
    let e = c.path.ensures.adds.arena in
    let wide = extends_more c.args.arena.now c.path.new.arena c.path-2.new.arena e
    c.path-2.ensures.adds.arena in
    IfOk-weaker c.clause_of.result _ _
    (λ clause is. pair_denies c.order_tells_apart.ensures c.mkand_keeps_language.ensures c.mkpath_keeps_language.ensures
    c.path-2.new.arena c.path-2.new.atoms c.args.constant.0 c.args.from c.args.one c.args.other clause
    (differ_later c.args.arena.now c.path-2.new.arena c.args.one c.args.other
    c.normal_regexes_each_once.ensures.distinct wide c.requires.one c.requires.other c.requires.apart)
    (pair_is (declares c.args.constant.0) c.path.new.arena c.path-2.new.arena c.path.new.atoms
    c.path-2.new.atoms c.args.constant.0 c.args.from c.args.one c.args.other c.in_ok-first.first
    c.in_ok-second.second c.negated.result c.negated-2.result clause c.path-2.ensures.adds
    (number_kept c.args.arena.now c.path.new.arena c.args.from e c.requires.from)
    (number_kept c.args.arena.now c.path.new.arena c.args.one e c.requires.one)
    c.in_ok-first.ensures.path c.in_ok-second.ensures.path c.negated.ensures c.negated-2.ensures is))
    c.clause_of.ensures

pub returns-clause-only : goal.returns-clause-only
returns-clause-only c =
    IfOk-weaker c.clause_of.result _ _
    (λ clause is. spoken_pair c.args.atoms.now c.path.new.atoms c.path-2.new.atoms c.in_ok-first.first
    c.in_ok-second.second c.negated.result c.negated-2.result clause c.in_ok-first.ensures.only
    c.in_ok-second.ensures.only c.negated.ensures c.negated-2.ensures is) c.clause_of.ensures

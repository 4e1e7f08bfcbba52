use Rattle.std.proofs.Common.{◌∷◌, [], refl, sym, ◌∙◌, arith}
use Rattle.std.proofs.lemmas.Bool.{eqb-true}
use Rattle.sb_deriv.proofs.Operations.{one_union, one_absorbed, made_and, made_not, made_cat, made_path}
use Rattle.sb_regex.proofs.CallerLemmas.{one_number}
use Rattle.sb_deriv.proofs.operation.Operation.of_one.Goals as goal

pub returns-in-Alt-clause-ok : goal.returns-in-Alt-clause-ok
returns-in-Alt-clause-ok c = one_union c.args.arena.now c.args.self.now c.args.id c.union_of_one.ensures
    c.normal_regexes_each_once.ensures.normal c.in-Alt.is c.requires.member

pub returns-then-eq-clause-ok : goal.returns-then-eq-clause-ok
returns-then-eq-clause-ok c =
    one_absorbed c.args.arena.now c.args.constants.now c.args.self.now c.args.id c.requires.constants c.in-And.is
    (eqb-true c.args.id c.args.constants.now.none (sym c.eq.ensures ∙ c.if-eq.true)) c.requires.member

pub returns-else-eq-clause-ok : goal.returns-else-eq-clause-ok
returns-else-eq-clause-ok c = rw (made_and c.args.arena.now c.args.self.now _ c.in-And.is) at c.and.ensures.ok

pub returns-in-Not-clause-ok : goal.returns-in-Not-clause-ok
returns-in-Not-clause-ok c =
    rw (made_not c.args.arena.now c.args.self.now (c.args.id ∷ []) c.args.id c.in-Not.is (omega arith) refl) at
    c.not.ensures.ok

pub returns-in-Cat-clause-ok : goal.returns-in-Cat-clause-ok
returns-in-Cat-clause-ok c =
    rw (made_cat c.args.arena.now c.args.self.now _ (c.args.id ∷ []) c.args.id c.in-Cat.is (omega arith) refl) at
    c.cat.ensures.ok

pub returns-in-Path-clause-ok : goal.returns-in-Path-clause-ok
returns-in-Path-clause-ok c =
    rw (made_path c.args.arena.now c.args.self.now _ (c.args.id ∷ []) c.args.id c.in-Path.is (omega arith) refl) at
    c.path.ensures.ok

pub and-requires : goal.and-requires
and-requires c = one_number c.args.arena.now c.args.id c.requires.member

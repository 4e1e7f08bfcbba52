use Rattle.sb_split.proofs.Words.{[], ◌∷◌, refl, ◌∙◌, ap, IfOk-weaker, declares, in_order}
use Rattle.sb_split.proofs.AddedFacts.{adds_none}
use Rattle.sb_split.proofs.OnlyFacts.{spoken_first}
use Rattle.sb_split.proofs.CoverFacts.{about_later, cover_denies, cover_is, covers_later}
use Rattle.sb_split.proofs.covering.cover_lemma.Goals as goal

pub returns-in_err-literals-clause-adds : goal.returns-in_err-literals-clause-adds
returns-in_err-literals-clause-adds c =
    adds_none (declares c.args.constant.0) c.args.arena.now c.args.atoms.now c.requires.regexes

pub returns-clause-cover : goal.returns-clause-cover
returns-clause-cover c =
    IfOk-weaker c.clause_of.result _ _
    (λ clause is. cover_is c.add_paths.new.arena c.add_paths.new.atoms c.args.constant.0 c.args.from c.args.guards.now
    c.args.list.now c.in_ok-literals.literals.items c.add_paths.new.literals.items clause c.in_ok-literals.ensures
    c.in_ok-add_paths.ensures.paths (is ∙ ap in_order c.deref.ensures.value)) c.clause_of.ensures

pub returns-clause-denial : goal.returns-clause-denial
returns-clause-denial c =
    let added = c.add_paths.ensures.adds in
    IfOk-weaker c.clause_of.result _ _
    (λ clause is. cover_denies c.order_tells_apart.ensures c.mkand_keeps_language.ensures c.mknot_keeps_language.ensures
    c.mkpath_keeps_language.ensures c.add_paths.new.arena c.add_paths.new.atoms c.args.constant.0 c.args.from
    c.args.guards.now c.args.list.now clause
    (about_later c.args.atoms.now c.add_paths.new.atoms c.args.constant.0 c.args.guards.now added.atoms
    c.requires.about)
    (covers_later c.args.arena.now c.add_paths.new.arena c.args.atoms.now c.add_paths.new.atoms c.args.constant.0
    c.args.from c.args.guards.now c.args.list.now added.arena added.atoms c.requires.regexes c.requires.about
    c.requires.from c.requires.list c.requires.covers)
    (cover_is c.add_paths.new.arena c.add_paths.new.atoms c.args.constant.0 c.args.from c.args.guards.now
    c.args.list.now c.in_ok-literals.literals.items c.add_paths.new.literals.items clause c.in_ok-literals.ensures
    c.in_ok-add_paths.ensures.paths (is ∙ ap in_order c.deref.ensures.value))) c.clause_of.ensures

pub returns-clause-only : goal.returns-clause-only
returns-clause-only c =
    IfOk-weaker c.clause_of.result _ _
    (λ clause is. spoken_first c.args.atoms.now c.add_paths.new.atoms c.add_paths.new.literals.items clause
    (clause ∷ []) [] c.in_ok-add_paths.ensures.only (is ∙ ap in_order c.deref.ensures.value) refl) c.clause_of.ensures

use Rattle.std.proofs.Common.{length, true, option_map, ap, subst, ◌∙◌, arith}
use Rattle.sb_facts.proofs.CallerLemmas.{ok_more}
use Rattle.sb_term.specs.Numbered.{term_at}
use Rattle.sb_rulebook.specs.Translation.{conjunction, word_equality}
use Rattle.sb_fragment.specs.Compared.{compared}
use Rattle.sb_atoms.specs.Translated.{has_declared}
use Rattle.sb_atoms.specs.Connecting.{signed}
use Rattle.sb_atoms.specs.Growing.{is_below, are_below, Gives, Finds}
use Rattle.sb_fragment.specs.Shapes.{are_numbers, parts_of, terms_of_pairs}
use Rattle.sb_atoms.specs.Shapes.{have_declared_pairs, word_literals, words_literal}
use Rattle.sb_fragment.proofs.CallerLemmas.{items_some, numbers_compared, terms_compared}
use Rattle.sb_atoms.proofs.Growth.{moves_both, moves_given, moves_gates}
use Rattle.sb_atoms.proofs.Connected.{gives_like}
use Rattle.sb_atoms.proofs.Found.{declared_compared, ready_moved, then_made, then_none, word_stays}
use Rattle.sb_atoms.proofs.table.Atoms.words.Goals as goal

pub word_literals-requires-clause-numbers : goal.word_literals-requires-clause-numbers
word_literals-requires-clause-numbers c =
    ap (are_numbers (length c.args.table.now)) (c.deref.ensures.value ∙ c.in_ok-pairs.ensures)
    ∙ numbers_compared (length c.args.table.now) c.args.id c.args.distinct c.arguments_of.result.now
    (omega (arith, c.requires.number)) c.arguments_of.ensures.below

pub conjunction-requires : goal.conjunction-requires
conjunction-requires c =
    c.in_ok-literals.ensures.ok.below c.in-Some.literals.items
    (items_some c.in_ok-literals.field-0 c.in-Some.literals c.in-Some.is)

pub returns-in_err-literals-clause-moves : goal.returns-in_err-literals-clause-moves
returns-in_err-literals-clause-moves c =
    let ts = c.args.table.now in
    let t = term_at ts c.args.id in
    let qs = compared c.args.distinct (parts_of t) in
    let e = ap (terms_of_pairs ts) (c.deref.ensures.value ∙ c.in_ok-pairs.ensures)
    ∙ terms_compared ts c.args.distinct c.arguments_of.result.now
    ∙ ap (compared c.args.distinct) c.arguments_of.ensures.terms in
    moves_given c.args.adds (λ sorts. have_declared_pairs sorts (terms_of_pairs ts c.deref.result.now))
    (λ sorts. has_declared sorts t) c.args.arena.now c.word_literals.new.arena c.args.self.now c.word_literals.new.self
    (λ sorts d. ap (have_declared_pairs sorts) e ∙ declared_compared sorts c.args.distinct t d)
    c.word_literals.ensures.moves

pub returns-clause-moves : goal.returns-clause-moves
returns-clause-moves c =
    let ts = c.args.table.now in
    let t = term_at ts c.args.id in
    let qs = compared c.args.distinct (parts_of t) in
    let e = ap (terms_of_pairs ts) (c.deref.ensures.value ∙ c.in_ok-pairs.ensures)
    ∙ terms_compared ts c.args.distinct c.arguments_of.result.now
    ∙ ap (compared c.args.distinct) c.arguments_of.ensures.terms in
    moves_given c.args.adds (λ sorts. have_declared_pairs sorts (terms_of_pairs ts c.deref.result.now))
    (λ sorts. has_declared sorts t) c.args.arena.now c.word_literals.new.arena c.args.self.now c.word_literals.new.self
    (λ sorts d. ap (have_declared_pairs sorts) e ∙ declared_compared sorts c.args.distinct t d)
    c.word_literals.ensures.moves

pub returns-in-Some-clause-moves : goal.returns-in-Some-clause-moves
returns-in-Some-clause-moves c =
    let ts = c.args.table.now in
    let t = term_at ts c.args.id in
    let qs = compared c.args.distinct (parts_of t) in
    let e = ap (terms_of_pairs ts) (c.deref.ensures.value ∙ c.in_ok-pairs.ensures)
    ∙ terms_compared ts c.args.distinct c.arguments_of.result.now
    ∙ ap (compared c.args.distinct) c.arguments_of.ensures.terms in
    moves_both c.args.adds (λ sorts. has_declared sorts t) c.args.arena.now c.word_literals.new.arena
    c.word_literals.new.arena c.args.self.now c.word_literals.new.self c.conjunction.new.self
    (moves_given c.args.adds (λ sorts. have_declared_pairs sorts (terms_of_pairs ts c.deref.result.now))
    (λ sorts. has_declared sorts t) c.args.arena.now c.word_literals.new.arena c.args.self.now c.word_literals.new.self
    (λ sorts d. ap (have_declared_pairs sorts) e ∙ declared_compared sorts c.args.distinct t d)
    c.word_literals.ensures.moves)
    (moves_gates c.args.adds (λ sorts. has_declared sorts t) c.word_literals.new.arena c.word_literals.new.self
    c.conjunction.new.self c.conjunction.ensures.grows)

pub returns-in-Some-clause-ready : goal.returns-in-Some-clause-ready
returns-in-Some-clause-ready c =
    let r = c.word_literals.ensures.ready in
    ready_moved c.args.table.now c.word_literals.new.measures c.word_literals.new.normals c.word_literals.new.arena
    c.word_literals.new.arena c.word_literals.new.self c.conjunction.new.self r.right r.normals r.regexes
    (moves_gates c.args.adds (λ sorts. true) c.word_literals.new.arena c.word_literals.new.self
    c.conjunction.new.self c.conjunction.ensures.grows)

pub returns-in-Some-clause-ok : goal.returns-in-Some-clause-ok
returns-in-Some-clause-ok c =
    let ts = c.args.table.now in
    let t = term_at ts c.args.id in
    let qs = compared c.args.distinct (parts_of t) in
    let e = ap (terms_of_pairs ts) (c.deref.ensures.value ∙ c.in_ok-pairs.ensures)
    ∙ terms_compared ts c.args.distinct c.arguments_of.result.now
    ∙ ap (compared c.args.distinct) c.arguments_of.ensures.terms in
    ok_more (λ found. Gives is_below c.args.adds c.conjunction.new.self
    (λ atoms. conjunction atoms c.in-Some.literals.items) found)
    (λ found. Finds is_below c.args.adds c.word_literals.new.arena c.conjunction.new.self
    (λ atoms. words_literal atoms c.args.distinct (parts_of t)) found) c.conjunction.result
    (λ found h. then_made (λ atoms p. signed c.args.distinct (word_equality atoms p.0 p.1)) (word_stays c.args.distinct)
    conjunction c.args.adds c.word_literals.new.arena c.word_literals.new.self c.conjunction.new.self qs
    c.in-Some.literals.items _ found (items_some c.in_ok-literals.field-0 c.in-Some.literals c.in-Some.is)
    (subst (λ ps. Finds are_below c.args.adds c.word_literals.new.arena c.word_literals.new.self
    (λ atoms. word_literals atoms c.args.distinct ps) (option_map (λ v. v.items) c.in_ok-literals.field-0)) e
    c.in_ok-literals.ensures.ok) c.conjunction.ensures.grows
    (gives_like c.args.adds c.conjunction.new.self conjunction c.in-Some.literals.items found h))
    c.conjunction.ensures.ok

pub returns-clause-ok : goal.returns-clause-ok
returns-clause-ok c =
    let ts = c.args.table.now in
    let t = term_at ts c.args.id in
    let qs = compared c.args.distinct (parts_of t) in
    let e = ap (terms_of_pairs ts) (c.deref.ensures.value ∙ c.in_ok-pairs.ensures)
    ∙ terms_compared ts c.args.distinct c.arguments_of.result.now
    ∙ ap (compared c.args.distinct) c.arguments_of.ensures.terms in
    then_none (λ atoms p. signed c.args.distinct (word_equality atoms p.0 p.1)) conjunction c.args.adds
    c.word_literals.new.arena c.word_literals.new.self qs _ (ap (option_map (λ v. v.items)) c.in-None.is)
    (subst (λ ps. Finds are_below c.args.adds c.word_literals.new.arena c.word_literals.new.self
    (λ atoms. word_literals atoms c.args.distinct ps) (option_map (λ v. v.items) c.in_ok-literals.field-0)) e
    c.in_ok-literals.ensures.ok)

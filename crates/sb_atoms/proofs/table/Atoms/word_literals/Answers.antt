use Rattle.std.proofs.Common.{Bool, ◌&&◌, ◌++◌, ◌∷◌, [], ap, ◌∙◌, arith, List}
use Rattle.sb_meaning.specs.Terms.{Sort, Term}
use Rattle.sb_term.specs.Numbered.{term_at}
use Rattle.sb_rulebook.specs.Translation.{word_equality}
use Rattle.sb_atoms.specs.Translated.{has_declared}
use Rattle.sb_atoms.specs.Connecting.{signed, with_sign}
use Rattle.sb_fragment.specs.Shapes.{terms_of_pairs}
use Rattle.sb_atoms.specs.Shapes.{have_declared_pairs}
use Rattle.sb_fragment.proofs.CallerLemmas.{number_at, pair_at, pair_within, pair_read, pairs_done}
use Rattle.sb_atoms.proofs.Growth.{moves_both, moves_given}
use Rattle.sb_atoms.proofs.Found.{all_at, collected_start, collected_step, collected_stop, collected_end, finds_signed, signed_is, signed_nothing, word_stays}
use Rattle.sb_atoms.proofs.table.Atoms.word_literals.Goals as goal

pub loop-one-init : goal.loop-one-init
loop-one-init c =
    (collected_start _ _ _ _ _ c.new-literals.result.items c.new-literals.ensures.items, c.requires.ready)

pub word_equality-requires-clause-one : goal.word_equality-requires-clause-one
word_equality-requires-clause-one c =
    (number_at _ c.args.pairs.now c.loop-one.one-index c.loop-one-item.result c.requires.numbers c.loop-one-test.true
    c.loop-one-item.is).0

pub word_equality-requires-clause-other : goal.word_equality-requires-clause-other
word_equality-requires-clause-other c =
    (number_at _ c.args.pairs.now c.loop-one.one-index c.loop-one-item.result c.requires.numbers c.loop-one-test.true
    c.loop-one-item.is).1

pub word_equality-requires-clause-ready : goal.word_equality-requires-clause-ready
word_equality-requires-clause-ready c = c.loop-one.invariant.1

pub loop-one-preserved : goal.loop-one-preserved
loop-one-preserved c =
    let ts = c.args.table.now in
    let i = c.loop-one.one-index in
    let p = c.loop-one-item.result in
    let within = pair_within ts c.args.pairs.now i c.loop-one-test.true in
    let is = pair_read ts c.args.pairs.now i p c.loop-one-test.true c.loop-one-item.is in (
      collected_step (λ atoms q. signed c.args.distinct (word_equality atoms q.0 q.1)) (word_stays c.args.distinct)
          c.args.adds (λ sorts. have_declared_pairs sorts (terms_of_pairs ts c.args.pairs.now))
          (λ sorts. has_declared sorts (term_at ts p.0) && has_declared sorts (term_at ts p.1)) c.args.arena.now
          c.loop-one.arena c.word_equality.new.arena c.args.self.now c.loop-one.self c.word_equality.new.self
          (terms_of_pairs ts c.args.pairs.now) i (pair_at ts p) c.loop-one.literals.items c.push.new.self.items
          (with_sign c.args.distinct c.in-Some.literal) (signed c.args.distinct c.in_ok-found.found)
          c.loop-one.invariant.0 within is c.loop-one.invariant.1.regexes
          (signed_is c.args.distinct c.in_ok-found.found c.in-Some.literal c.in-Some.is)
          (finds_signed c.args.distinct c.args.adds c.word_equality.new.arena c.word_equality.new.self
          (λ atoms. word_equality atoms (term_at ts p.0) (term_at ts p.1)) c.in_ok-found.found c.in_ok-found.ensures.ok)
          (λ sorts d. all_at (λ (q : Term × Term). has_declared sorts q.0 && has_declared sorts q.1)
          (terms_of_pairs ts c.args.pairs.now) i (pair_at ts p) d within is)
          c.word_equality.ensures.moves
          (c.in_ok-push.ensures.items ∙ ap (λ l. c.loop-one.literals.items ++ l ∷ []) c.signed.ensures),
      c.word_equality.ensures.ready,
    )

pub returns-in_default-clause-ok : goal.returns-in_default-clause-ok
returns-in_default-clause-ok c =
    let ts = c.args.table.now in
    let i = c.loop-one.one-index in
    let p = c.loop-one-item.result in
    collected_stop (λ atoms q. signed c.args.distinct (word_equality atoms q.0 q.1)) c.args.adds
    c.word_equality.new.arena c.word_equality.new.self (terms_of_pairs ts c.args.pairs.now) i (pair_at ts p)
    (signed c.args.distinct c.in_ok-found.found) (pair_within ts c.args.pairs.now i c.loop-one-test.true)
    (pair_read ts c.args.pairs.now i p c.loop-one-test.true c.loop-one-item.is)
    (signed_nothing c.args.distinct c.in_ok-found.found c.in_default.is)
    (finds_signed c.args.distinct c.args.adds c.word_equality.new.arena c.word_equality.new.self
    (λ atoms. word_equality atoms (term_at ts p.0) (term_at ts p.1)) c.in_ok-found.found c.in_ok-found.ensures.ok)

pub returns-clause-ok : goal.returns-clause-ok
returns-clause-ok c =
    let ts = c.args.table.now in
    collected_end (λ atoms q. signed c.args.distinct (word_equality atoms q.0 q.1)) c.args.adds
    (λ sorts. have_declared_pairs sorts (terms_of_pairs ts c.args.pairs.now)) c.args.arena.now c.loop-one.arena
    c.args.self.now c.loop-one.self (terms_of_pairs ts c.args.pairs.now) c.loop-one.one-index
    c.loop-one.literals.items c.loop-one.invariant.0
    (pairs_done ts c.args.pairs.now c.loop-one.one-index (omega (arith, c.loop-one-test.false)))

pub returns-clause-moves : goal.returns-clause-moves
returns-clause-moves c = c.loop-one.invariant.0.moves

pub returns-in_err-found-clause-moves : goal.returns-in_err-found-clause-moves
returns-in_err-found-clause-moves c =
    let ts = c.args.table.now in
    let i = c.loop-one.one-index in
    let p = c.loop-one-item.result in
    let given : List Sort → Bool = λ sorts. have_declared_pairs sorts (terms_of_pairs ts c.args.pairs.now) in
    moves_both c.args.adds given c.args.arena.now c.loop-one.arena c.word_equality.new.arena c.args.self.now
    c.loop-one.self c.word_equality.new.self c.loop-one.invariant.0.moves
    (moves_given c.args.adds (λ sorts. has_declared sorts (term_at ts p.0) && has_declared sorts (term_at ts p.1)) given
    c.loop-one.arena c.word_equality.new.arena c.loop-one.self c.word_equality.new.self
    (λ sorts d. all_at (λ (q : Term × Term). has_declared sorts q.0 && has_declared sorts q.1)
    (terms_of_pairs ts c.args.pairs.now) i (pair_at ts p) d (pair_within ts c.args.pairs.now i c.loop-one-test.true)
    (pair_read ts c.args.pairs.now i p c.loop-one-test.true c.loop-one-item.is)) c.word_equality.ensures.moves)

pub returns-in_default-clause-moves : goal.returns-in_default-clause-moves
returns-in_default-clause-moves c =
    let ts = c.args.table.now in
    let i = c.loop-one.one-index in
    let p = c.loop-one-item.result in
    let given : List Sort → Bool = λ sorts. have_declared_pairs sorts (terms_of_pairs ts c.args.pairs.now) in
    moves_both c.args.adds given c.args.arena.now c.loop-one.arena c.word_equality.new.arena c.args.self.now
    c.loop-one.self c.word_equality.new.self c.loop-one.invariant.0.moves
    (moves_given c.args.adds (λ sorts. has_declared sorts (term_at ts p.0) && has_declared sorts (term_at ts p.1)) given
    c.loop-one.arena c.word_equality.new.arena c.loop-one.self c.word_equality.new.self
    (λ sorts d. all_at (λ (q : Term × Term). has_declared sorts q.0 && has_declared sorts q.1)
    (terms_of_pairs ts c.args.pairs.now) i (pair_at ts p) d (pair_within ts c.args.pairs.now i c.loop-one-test.true)
    (pair_read ts c.args.pairs.now i p c.loop-one-test.true c.loop-one-item.is)) c.word_equality.ensures.moves)

pub returns-in_err-push-clause-moves : goal.returns-in_err-push-clause-moves
returns-in_err-push-clause-moves c =
    let ts = c.args.table.now in
    let i = c.loop-one.one-index in
    let p = c.loop-one-item.result in
    let given : List Sort → Bool = λ sorts. have_declared_pairs sorts (terms_of_pairs ts c.args.pairs.now) in
    moves_both c.args.adds given c.args.arena.now c.loop-one.arena c.word_equality.new.arena c.args.self.now
    c.loop-one.self c.word_equality.new.self c.loop-one.invariant.0.moves
    (moves_given c.args.adds (λ sorts. has_declared sorts (term_at ts p.0) && has_declared sorts (term_at ts p.1)) given
    c.loop-one.arena c.word_equality.new.arena c.loop-one.self c.word_equality.new.self
    (λ sorts d. all_at (λ (q : Term × Term). has_declared sorts q.0 && has_declared sorts q.1)
    (terms_of_pairs ts c.args.pairs.now) i (pair_at ts p) d (pair_within ts c.args.pairs.now i c.loop-one-test.true)
    (pair_read ts c.args.pairs.now i p c.loop-one-test.true c.loop-one-item.is)) c.word_equality.ensures.moves)

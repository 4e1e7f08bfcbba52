use Rattle.std.proofs.Common.{arith}
use Rattle.sb_facts.proofs.CallerLemmas.{ok_more}
use Rattle.sb_term.specs.Numbered.{term_at}
use Rattle.sb_rulebook.specs.Parts.{regex_of}
use Rattle.sb_rulebook.specs.Translation.{membership, translation}
use Rattle.sb_atoms.specs.Translated.{has_declared}
use Rattle.sb_atoms.specs.Growing.{is_below, Finds}
use Rattle.sb_atoms.proofs.Growth.{moves_given}
use Rattle.sb_atoms.proofs.Found.{finds_other, declared_text, text_member, text_regex_of}
use Rattle.sb_atoms.proofs.table.Atoms.membership.Goals as goal

pub joined-requires-clause-text : goal.joined-requires-clause-text
joined-requires-clause-text c = omega (arith, c.sides_of-sides.ensures.below.0, c.requires.number)

pub joined-requires-clause-number : goal.joined-requires-clause-number
joined-requires-clause-number c = omega (arith, c.sides_of-sides.ensures.below.1, c.requires.number)

pub joined-requires-clause-kind : goal.joined-requires-clause-kind
joined-requires-clause-kind c =
    let ts = c.args.table.now in
    text_regex_of (term_at ts c.args.id) (term_at ts c.sides_of-sides.result.0) (term_at ts c.sides_of-sides.result.1)
    c.sides_of-sides.ensures.is c.requires.structure

pub returns-clause-ok : goal.returns-clause-ok
returns-clause-ok c =
    let ts = c.args.table.now in
    let t = term_at ts c.args.id in
    let u = term_at ts c.sides_of-sides.result.0 in
    let R = term_at ts c.sides_of-sides.result.1 in
    ok_more (λ found. Finds is_below c.args.adds c.joined.new.arena c.joined.new.self
    (λ atoms. membership atoms u (regex_of R)) found)
    (λ found. Finds is_below c.args.adds c.joined.new.arena c.joined.new.self (λ atoms. translation atoms t) found)
    c.joined.result
    (λ found h. finds_other c.args.adds c.joined.new.arena c.joined.new.self (λ atoms. membership atoms u (regex_of R))
    (λ atoms. translation atoms t) found (text_member t u R c.sides_of-sides.ensures.is) h)
    c.joined.ensures.ok

pub returns-clause-moves : goal.returns-clause-moves
returns-clause-moves c =
    let ts = c.args.table.now in
    let t = term_at ts c.args.id in
    let u = term_at ts c.sides_of-sides.result.0 in
    moves_given c.args.adds (λ sorts. has_declared sorts u) (λ sorts. has_declared sorts t) c.args.arena.now
    c.joined.new.arena c.args.self.now c.joined.new.self
    (λ sorts h. declared_text sorts t u (term_at ts c.sides_of-sides.result.1) c.sides_of-sides.ensures.is h)
    c.joined.ensures.moves

use Rattle.std.proofs.Common.{Some}
use Rattle.sb_facts.proofs.CallerLemmas.{ok_more}
use Rattle.sb_regex.specs.Numbered.{regex_at}
use Rattle.sb_term.specs.Numbered.{term_at}
use Rattle.sb_rulebook.specs.Translation.{translation, membership}
use Rattle.sb_atoms.specs.Translated.{has_declared}
use Rattle.sb_atoms.specs.Growing.{is_below, Finds}
use Rattle.sb_atoms.proofs.AffixFacts.{side_member, side_declared}
use Rattle.sb_atoms.proofs.CallerLemmas.{regexes_kept}
use Rattle.sb_atoms.proofs.Found.{finds_none, finds_other}
use Rattle.sb_atoms.proofs.Growth.{moves_arena, moves_both, moves_given}
use Rattle.sb_atoms.proofs.table.Atoms.affix.Goals as goal

pub returns-in_err-sides-clause-moves : goal.returns-in_err-sides-clause-moves
returns-in_err-sides-clause-moves c =
    moves_arena c.args.adds (λ sorts. has_declared sorts (term_at c.args.table.now c.args.id)) c.args.arena.now
    c.affix_sides.new.arena c.args.self.now c.in_err-sides.ensures.extends

pub returns-in_default-clause-ok : goal.returns-in_default-clause-ok
returns-in_default-clause-ok c =
    let none = rw c.in_default.is at c.in_ok-sides.ensures.ok in
    finds_none c.args.adds c.affix_sides.new.arena c.args.self.now
    (λ atoms. translation atoms (term_at c.args.table.now c.args.id)) none.1

pub returns-in_default-clause-moves : goal.returns-in_default-clause-moves
returns-in_default-clause-moves c =
    moves_arena c.args.adds (λ sorts. has_declared sorts (term_at c.args.table.now c.args.id)) c.args.arena.now
    c.affix_sides.new.arena c.args.self.now c.in_ok-sides.ensures.extends

pub text_in-requires : goal.text_in-requires
text_in-requires c =
    let s = rw c.in-Some.is at c.in_ok-sides.ensures.ok in record {
      text = s.0;
      regex = s.1;
      normals = c.in_ok-sides.ensures.normals;
      below = regexes_kept c.args.arena.now c.affix_sides.new.arena c.args.self.now c.in_ok-sides.ensures.extends
          c.requires.below;
    }

pub returns-clause-ok : goal.returns-clause-ok
returns-clause-ok c =
    let ts = c.args.table.now in
    let t = term_at ts c.args.id in
    let u = term_at ts c.in-Some.sides.0 in
    let r = regex_at c.affix_sides.new.arena c.in-Some.sides.1 in
    let s = rw c.in-Some.is at c.in_ok-sides.ensures.ok in
    ok_more (λ found. Finds is_below c.args.adds c.text_in.new.arena c.text_in.new.self
    (λ atoms. membership atoms u (Some r)) found)
    (λ found. Finds is_below c.args.adds c.text_in.new.arena c.text_in.new.self (λ atoms. translation atoms t) found)
    c.text_in.result
    (λ found h. finds_other c.args.adds c.text_in.new.arena c.text_in.new.self (λ atoms. membership atoms u (Some r))
    (λ atoms. translation atoms t) found (side_member t c.args.kind u r s.2) h) c.text_in.ensures.ok

pub returns-clause-moves : goal.returns-clause-moves
returns-clause-moves c =
    let ts = c.args.table.now in
    let rs = c.affix_sides.new.arena in
    let t = term_at ts c.args.id in
    let u = term_at ts c.in-Some.sides.0 in
    let s = rw c.in-Some.is at c.in_ok-sides.ensures.ok in
    moves_both c.args.adds (λ sorts. has_declared sorts t) c.args.arena.now rs c.text_in.new.arena c.args.self.now
    c.args.self.now c.text_in.new.self
    (moves_arena c.args.adds (λ sorts. has_declared sorts t) c.args.arena.now rs c.args.self.now
    c.in_ok-sides.ensures.extends)
    (moves_given c.args.adds (λ sorts. has_declared sorts u) (λ sorts. has_declared sorts t) rs c.text_in.new.arena
    c.args.self.now c.text_in.new.self
    (side_declared t c.args.kind u (regex_at rs c.in-Some.sides.1) s.2) c.text_in.ensures.moves)

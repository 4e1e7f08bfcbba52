use Rattle.std.proofs.Common.{map}
use Rattle.sb_facts.proofs.CallerLemmas.{ok_more}
use Rattle.sb_term.specs.Numbered.{term_at}
use Rattle.sb_problem.specs.Patterns.{pattern_in}
use Rattle.sb_rulebook.specs.Parts.{regex_of}
use Rattle.sb_rulebook.specs.Translation.{membership}
use Rattle.sb_proof.specs.Lines.{piece_in}
use Rattle.sb_atoms.specs.Translated.{has_declared}
use Rattle.sb_atoms.specs.Growing.{are_declared_pieces, is_below, Finds}
use Rattle.sb_atoms.specs.Shapes.{member_literal}
use Rattle.sb_atoms.proofs.CallerLemmas.{regexes_kept}
use Rattle.sb_atoms.proofs.Growth.{moves_arena, moves_both, moves_given}
use Rattle.sb_atoms.proofs.Found.{finds_none, finds_other}
use Rattle.sb_atoms.proofs.PieceFacts.{single_declared}
use Rattle.sb_atoms.proofs.TextFacts.{membership_none, membership_some}
use Rattle.sb_atoms.proofs.table.Atoms.joined.Goals as goal

pub returns-in_err-pieces-clause-moves : goal.returns-in_err-pieces-clause-moves
returns-in_err-pieces-clause-moves c =
    moves_arena c.args.adds (λ sorts. has_declared sorts (term_at c.args.table.now c.args.text)) c.args.arena.now
    c.single_pieces.new.arena c.args.self.now c.in_err-pieces.ensures.extends

pub returns-in_err-pieces-clause-ready : goal.returns-in_err-pieces-clause-ready
returns-in_err-pieces-clause-ready c = record {
  right = c.requires.ready.right;
  normals = c.in_err-pieces.ensures.normals;
  regexes = regexes_kept c.args.arena.now c.single_pieces.new.arena c.args.self.now c.in_err-pieces.ensures.extends
      c.requires.ready.regexes;
}

pub returns-in_default-clause-ok : goal.returns-in_default-clause-ok
returns-in_default-clause-ok c =
    let u = term_at c.args.table.now c.args.text in
    let R = pattern_in c.args.table.now c.args.pattern in
    let none = rw c.in_default.is at c.in_ok-pieces.ensures.ok in
    finds_none c.args.adds c.single_pieces.new.arena c.args.self.now (λ atoms. membership atoms u (regex_of R))
    (λ atoms. membership_none atoms u none (regex_of R))

pub returns-in_default-clause-moves : goal.returns-in_default-clause-moves
returns-in_default-clause-moves c =
    moves_arena c.args.adds (λ sorts. has_declared sorts (term_at c.args.table.now c.args.text)) c.args.arena.now
    c.single_pieces.new.arena c.args.self.now c.in_ok-pieces.ensures.extends

pub returns-in_default-clause-ready : goal.returns-in_default-clause-ready
returns-in_default-clause-ready c = record {
  right = c.requires.ready.right;
  normals = c.in_ok-pieces.ensures.normals;
  regexes = regexes_kept c.args.arena.now c.single_pieces.new.arena c.args.self.now c.in_ok-pieces.ensures.extends
      c.requires.ready.regexes;
}

pub member-requires-clause-formed : goal.member-requires-clause-formed
member-requires-clause-formed c = let is = rw c.in-Some.is at c.in_ok-pieces.ensures.ok in is.1

pub member-requires-clause-ready : goal.member-requires-clause-ready
member-requires-clause-ready c = record {
  right = c.requires.ready.right;
  normals = c.in_ok-pieces.ensures.normals;
  regexes = regexes_kept c.args.arena.now c.single_pieces.new.arena c.args.self.now c.in_ok-pieces.ensures.extends
      c.requires.ready.regexes;
}

pub returns-clause-ok : goal.returns-clause-ok
returns-clause-ok c =
    let u = term_at c.args.table.now c.args.text in
    let R = pattern_in c.args.table.now c.args.pattern in
    let ps = map piece_in c.in-Some.pieces.items in
    let is = rw c.in-Some.is at c.in_ok-pieces.ensures.ok in
    ok_more (λ found. Finds is_below c.args.adds c.member.new.arena c.member.new.self
    (λ atoms. member_literal atoms ps R) found)
    (λ found. Finds is_below c.args.adds c.member.new.arena c.member.new.self
    (λ atoms. membership atoms u (regex_of R)) found) c.member.result
    (λ found h. finds_other c.args.adds c.member.new.arena c.member.new.self (λ atoms. member_literal atoms ps R)
    (λ atoms. membership atoms u (regex_of R)) found (membership_some u ps R is.0) h)
    c.member.ensures.ok

pub returns-clause-moves : goal.returns-clause-moves
returns-clause-moves c =
    let u = term_at c.args.table.now c.args.text in
    let ps = map piece_in c.in-Some.pieces.items in
    let is = rw c.in-Some.is at c.in_ok-pieces.ensures.ok in
    moves_both c.args.adds (λ sorts. has_declared sorts u) c.args.arena.now c.single_pieces.new.arena c.member.new.arena
    c.args.self.now c.args.self.now c.member.new.self
    (moves_arena c.args.adds (λ sorts. has_declared sorts u) c.args.arena.now c.single_pieces.new.arena c.args.self.now
    c.in_ok-pieces.ensures.extends)
    (moves_given c.args.adds (λ sorts. are_declared_pieces sorts ps) (λ sorts. has_declared sorts u)
    c.single_pieces.new.arena c.member.new.arena c.args.self.now c.member.new.self (λ sorts h. single_declared sorts u ps is.0 h)
    c.member.ensures.moves)

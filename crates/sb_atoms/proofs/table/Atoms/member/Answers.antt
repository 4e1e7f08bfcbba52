use Rattle.std.proofs.Common.{length, map, ap}
use Rattle.sb_facts.proofs.CallerLemmas.{ok_more}
use Rattle.sb_regex.proofs.CallerLemmas.{long_kept}
use Rattle.sb_problem.specs.Patterns.{pattern_in}
use Rattle.sb_rulebook.specs.Brought.{is_brought_atom}
use Rattle.sb_proof.specs.Lines.{atom_in, piece_in}
use Rattle.sb_atoms.specs.Growing.{are_declared_pieces, is_below, Finds, IsLiteralOf}
use Rattle.sb_atoms.specs.Shapes.{member_literal}
use Rattle.sb_atoms.proofs.CallerLemmas.{regexes_kept}
use Rattle.sb_atoms.proofs.Growth.{grown_regexes, moves_arena}
use Rattle.sb_atoms.proofs.Found.{member_finds, member_past, member_moves, ready_moved}
use Rattle.sb_atoms.proofs.table.Atoms.member.Goals as goal

pub returns-in_err-atom-clause-ready : goal.returns-in_err-atom-clause-ready
returns-in_err-atom-clause-ready c = record {
  right = c.in_err-atom.ensures.right;
  normals = c.in_err-atom.ensures.normals;
  regexes = regexes_kept c.args.arena.now c.atom_of.new.arena c.args.self.now c.in_err-atom.ensures.arena
      c.requires.ready.regexes;
}

pub returns-in_default-clause-ready : goal.returns-in_default-clause-ready
returns-in_default-clause-ready c = record {
  right = c.in_ok-atom.ensures.right;
  normals = c.in_ok-atom.ensures.normals;
  regexes = regexes_kept c.args.arena.now c.atom_of.new.arena c.args.self.now c.in_ok-atom.ensures.arena
      c.requires.ready.regexes;
}

pub returns-in_err-atom-clause-moves : goal.returns-in_err-atom-clause-moves
returns-in_err-atom-clause-moves c =
    moves_arena c.args.adds (λ sorts. are_declared_pieces sorts (map piece_in c.args.pieces.items)) c.args.arena.now
    c.atom_of.new.arena c.args.self.now c.in_err-atom.ensures.arena

pub returns-in_default-clause-moves : goal.returns-in_default-clause-moves
returns-in_default-clause-moves c =
    moves_arena c.args.adds (λ sorts. are_declared_pieces sorts (map piece_in c.args.pieces.items)) c.args.arena.now
    c.atom_of.new.arena c.args.self.now c.in_ok-atom.ensures.arena

pub returns-in_default-clause-ok : goal.returns-in_default-clause-ok
returns-in_default-clause-ok c =
    let past = rw c.in_default.is at c.in_ok-atom.ensures.ok in
    member_past c.args.adds c.atom_of.new.arena c.args.self.now (map piece_in c.args.pieces.items)
    (pattern_in c.args.table.now c.args.pattern) past

pub returns-clause-ok : goal.returns-clause-ok
returns-clause-ok c =
    let rs = c.atom_of.new.arena in
    let ps = map piece_in c.args.pieces.items in
    let R = pattern_in c.args.table.now c.args.pattern in
    let a = atom_in c.in-Some.atom in
    let of = rw c.in-Some.is at c.in_ok-atom.ensures.ok in
    let m = member_moves c.args.adds c.args.arena.now rs c.args.self.now c.literal.new.self ps R a
    c.in_ok-atom.ensures.arena of c.requires.formed c.literal.ensures.grows in
    let below = grown_regexes (length c.args.arena.now) (length rs) c.args.self.now c.literal.new.self
    (long_kept c.args.arena.now rs c.in_ok-atom.ensures.arena) c.requires.ready.regexes m.atoms in
    ok_more (λ found. IsLiteralOf c.args.adds c.literal.new.self a found)
    (λ found. Finds is_below c.args.adds rs c.literal.new.self (λ atoms. member_literal atoms ps R) found)
    c.literal.result
    (λ found h. member_finds c.args.adds rs c.literal.new.self ps R a found of
    c.normal_regexes_each_once.ensures.distinct below h)
    c.literal.ensures.ok

pub returns-clause-moves : goal.returns-clause-moves
returns-clause-moves c =
    member_moves c.args.adds c.args.arena.now c.atom_of.new.arena c.args.self.now c.literal.new.self
    (map piece_in c.args.pieces.items) (pattern_in c.args.table.now c.args.pattern) (atom_in c.in-Some.atom)
    c.in_ok-atom.ensures.arena (rw c.in-Some.is at c.in_ok-atom.ensures.ok) c.requires.formed c.literal.ensures.grows

pub returns-clause-ready : goal.returns-clause-ready
returns-clause-ready c =
    ready_moved c.args.table.now c.atom_of.new.measures c.atom_of.new.normals c.args.arena.now c.atom_of.new.arena
    c.args.self.now c.literal.new.self c.in_ok-atom.ensures.right c.in_ok-atom.ensures.normals c.requires.ready.regexes
    (member_moves c.args.adds c.args.arena.now c.atom_of.new.arena c.args.self.now c.literal.new.self
    (map piece_in c.args.pieces.items) (pattern_in c.args.table.now c.args.pattern) (atom_in c.in-Some.atom)
    c.in_ok-atom.ensures.arena (rw c.in-Some.is at c.in_ok-atom.ensures.ok) c.requires.formed c.literal.ensures.grows)

pub literal-requires : goal.literal-requires
literal-requires c =
    let of = rw c.in-Some.is at c.in_ok-atom.ensures.ok in ap is_brought_atom of.1

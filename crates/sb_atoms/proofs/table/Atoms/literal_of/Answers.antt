use Rattle.std.proofs.Common.{◌≡◌, [], None, true, if◌then◌else◌, map, MatchOption, refl, sym, ap, ◌∙◌}
use Rattle.sb_facts.proofs.CallerLemmas.{ok_more}
use Rattle.sb_regex.proofs.CallerLemmas.{extends_same}
use Rattle.sb_term.specs.Numbered.{term_at}
use Rattle.sb_problem.specs.Patterns.{pattern_in}
use Rattle.sb_rulebook.specs.Atoms.{bool_atom, are_pieces}
use Rattle.sb_rulebook.specs.Translation.{translation, conjunction, negated}
use Rattle.sb_proof.specs.Lines.{piece_in}
use Rattle.sb_atoms.specs.Translated.{has_declared}
use Rattle.sb_atoms.specs.Connecting.{connected}
use Rattle.sb_atoms.specs.Growing.{are_declared_pieces, is_below, Gives, GivesLike, Finds, IsLiteralOf}
use Rattle.sb_term.specs.Descending.{known_at}
use Rattle.sb_fragment.specs.Shapes.{parts_of}
use Rattle.sb_atoms.specs.Shapes.{member_literal, connected_literal, literals_of, words_literal}
use Rattle.sb_fragment.proofs.CallerLemmas.{asked_structure, connected_structure}
use Rattle.sb_atoms.proofs.Connections.{connected_parts_are}
use Rattle.sb_atoms.proofs.Growth.{moves_given, moves_gates, moves_none}
use Rattle.sb_atoms.proofs.KnownLiterals.{parts_found, parts_below, connection_finds}
use Rattle.sb_atoms.proofs.Structured.{always_translated, alone_translated, connected_translated, words_translated}
use Rattle.sb_atoms.proofs.Found.{constant_finds, constant_moves, asked_member, declared_asked, finds_other, finds_given, ready_moved}
use Rattle.sb_atoms.proofs.table.Atoms.literal_of.Goals as goal

pub member-requires-clause-kind : goal.member-requires-clause-kind
member-requires-clause-kind c =
    let t = term_at c.args.table.now c.args.id in
    sym (asked_structure t c.in-Some.serial.0 (pattern_in c.args.table.now c.in-Some.pattern) c.in-Some.ensures.parts)
    ∙ c.requires.structure

pub member-requires-clause-formed : goal.member-requires-clause-formed
member-requires-clause-formed c = ap are_pieces c.constant_alone-pieces.ensures

pub returns-in-Some-clause-ok : goal.returns-in-Some-clause-ok
returns-in-Some-clause-ok c =
    let t = term_at c.args.table.now c.args.id in
    let R = pattern_in c.args.table.now c.in-Some.pattern in
    let ps = map piece_in c.constant_alone-pieces.result.items in
    ok_more (λ found. Finds is_below c.args.adds c.member.new.arena c.member.new.self
    (λ atoms. member_literal atoms ps R) found)
    (λ found. Finds is_below c.args.adds c.member.new.arena c.member.new.self (λ atoms. translation atoms t) found)
    c.member.result
    (λ found h. finds_other c.args.adds c.member.new.arena c.member.new.self (λ atoms. member_literal atoms ps R)
    (λ atoms. translation atoms t) found
    (λ atoms. ap (λ qs. member_literal atoms qs R) c.constant_alone-pieces.ensures
    ∙ asked_member t c.in-Some.serial.0 R c.in-Some.ensures.parts atoms) h)
    c.member.ensures.ok

pub returns-in-Some-clause-moves : goal.returns-in-Some-clause-moves
returns-in-Some-clause-moves c =
    let t = term_at c.args.table.now c.args.id in
    moves_given c.args.adds (λ sorts. are_declared_pieces sorts (map piece_in c.constant_alone-pieces.result.items))
    (λ sorts. has_declared sorts t) c.args.arena.now c.member.new.arena c.args.self.now c.member.new.self
    (λ sorts d. ap (are_declared_pieces sorts) c.constant_alone-pieces.ensures
    ∙ declared_asked sorts t c.in-Some.serial.0 (pattern_in c.args.table.now c.in-Some.pattern)
    c.in-Some.ensures.parts d)
    c.member.ensures.moves

pub returns-in-Constant-clause-ok : goal.returns-in-Constant-clause-ok
returns-in-Constant-clause-ok c =
    let t = term_at c.args.table.now c.args.id in
    ok_more (λ found. IsLiteralOf c.args.adds c.literal.new.self (bool_atom c.in-Constant.serial.0) found)
    (λ found. Finds is_below c.args.adds c.args.arena.now c.literal.new.self (λ atoms. translation atoms t) found)
    c.literal.result
    (λ found h. constant_finds c.args.adds c.args.arena.now c.literal.new.self t c.in-Constant.serial.0 _ found
    (rw c.in-Constant.is at c.shape_of.ensures) refl h) c.literal.ensures.ok

pub returns-in-Constant-clause-moves : goal.returns-in-Constant-clause-moves
returns-in-Constant-clause-moves c =
    constant_moves c.args.adds c.args.arena.now c.args.self.now c.literal.new.self
    (term_at c.args.table.now c.args.id) c.in-Constant.serial.0 _ (rw c.in-Constant.is at c.shape_of.ensures) refl
    c.literal.ensures.grows (extends_same c.args.arena.now)

pub returns-in-Constant-clause-ready : goal.returns-in-Constant-clause-ready
returns-in-Constant-clause-ready c =
    let r = c.requires.ready in
    ready_moved c.args.table.now c.args.measures.now c.args.normals.now c.args.arena.now c.args.arena.now
    c.args.self.now c.literal.new.self r.right r.normals r.regexes
    (constant_moves c.args.adds c.args.arena.now c.args.self.now c.literal.new.self
    (term_at c.args.table.now c.args.id) c.in-Constant.serial.0 _ (rw c.in-Constant.is at c.shape_of.ensures) refl
    c.literal.ensures.grows (extends_same c.args.arena.now))

pub returns-in-Always-clause-ok : goal.returns-in-Always-clause-ok
returns-in-Always-clause-ok c =
    let t = term_at c.args.table.now c.args.id in
    let shape = rw c.in-Always.is at c.shape_of.ensures in
    ok_more (λ found. Gives is_below c.args.adds c.always.new.self
    (λ atoms. if c.in-Always.truth then conjunction atoms [] else negated (conjunction atoms [])) found)
    (λ found. Finds is_below c.args.adds c.args.arena.now c.always.new.self (λ atoms. translation atoms t) found)
    c.always.result
    (λ found h. finds_other c.args.adds c.args.arena.now c.always.new.self
    (λ atoms. if c.in-Always.truth then conjunction atoms [] else negated (conjunction atoms []))
    (λ atoms. translation atoms t) found (λ atoms. sym (always_translated t c.in-Always.truth shape atoms))
    (finds_given c.args.adds c.args.arena.now c.always.new.self _ found h)) c.always.ensures.ok

pub returns-in-Always-clause-moves : goal.returns-in-Always-clause-moves
returns-in-Always-clause-moves c =
    moves_gates c.args.adds (λ sorts. has_declared sorts (term_at c.args.table.now c.args.id)) c.args.arena.now
    c.args.self.now c.always.new.self c.always.ensures.grows

pub returns-in-Always-clause-ready : goal.returns-in-Always-clause-ready
returns-in-Always-clause-ready c =
    let r = c.requires.ready in
    ready_moved c.args.table.now c.args.measures.now c.args.normals.now c.args.arena.now c.args.arena.now
    c.args.self.now c.always.new.self r.right r.normals r.regexes
    (moves_gates c.args.adds (λ sorts. true) c.args.arena.now c.args.self.now c.always.new.self c.always.ensures.grows)

pub returns-in-Alone-clause-ok : goal.returns-in-Alone-clause-ok
returns-in-Alone-clause-ok c =
    let t = term_at c.args.table.now c.args.id in
    let shape = rw c.in-Alone.is at c.shape_of.ensures in
    ok_more (λ found. Gives is_below c.args.adds c.always-in-Alone.new.self (λ atoms. conjunction atoms []) found)
    (λ found. Finds is_below c.args.adds c.args.arena.now c.always-in-Alone.new.self (λ atoms. translation atoms t) found)
    c.always-in-Alone.result
    (λ found h. finds_other c.args.adds c.args.arena.now c.always-in-Alone.new.self (λ atoms. conjunction atoms [])
    (λ atoms. translation atoms t) found (λ atoms. sym (alone_translated t shape atoms))
    (finds_given c.args.adds c.args.arena.now c.always-in-Alone.new.self _ found h)) c.always-in-Alone.ensures.ok

pub returns-in-Alone-clause-moves : goal.returns-in-Alone-clause-moves
returns-in-Alone-clause-moves c =
    moves_gates c.args.adds (λ sorts. has_declared sorts (term_at c.args.table.now c.args.id)) c.args.arena.now
    c.args.self.now c.always-in-Alone.new.self c.always-in-Alone.ensures.grows

pub returns-in-Alone-clause-ready : goal.returns-in-Alone-clause-ready
returns-in-Alone-clause-ready c =
    let r = c.requires.ready in
    ready_moved c.args.table.now c.args.measures.now c.args.normals.now c.args.arena.now c.args.arena.now
    c.args.self.now c.always-in-Alone.new.self r.right r.normals r.regexes
    (moves_gates c.args.adds (λ sorts. true) c.args.arena.now c.args.self.now c.always-in-Alone.new.self
    c.always-in-Alone.ensures.grows)

pub connection-requires : goal.connection-requires
connection-requires c =
    let ts = c.args.table.now in
    let t = term_at ts c.args.id in
    let is = c.arguments_of.result.now in
    let shape = rw c.in-Connected.is at c.shape_of.ensures in
    let known = c.requires.parts is
    (c.arguments_of.ensures.terms ∙ connected_parts_are t c.in-Connected.connective shape)
    c.arguments_of.ensures.below in
    parts_below c.args.adds c.args.arena.now c.args.self.now (λ atoms. literals_of atoms (parts_of t))
    c.in_ok-parts-in-Connected.parts
    (parts_found c.args.adds c.args.arena.now c.args.self.now ts (parts_of t)
    (known_at None c.args.known.now.entries) is c.in_ok-parts-in-Connected.parts c.arguments_of.ensures.terms known
    c.in_ok-parts-in-Connected.ensures)

pub returns-in_ok-parts-in-Connected-clause-ok : goal.returns-in_ok-parts-in-Connected-clause-ok
returns-in_ok-parts-in-Connected-clause-ok c =
    let ts = c.args.table.now in
    let t = term_at ts c.args.id in
    let is = c.arguments_of.result.now in
    let shape = rw c.in-Connected.is at c.shape_of.ensures in
    let known = c.requires.parts is
    (c.arguments_of.ensures.terms ∙ connected_parts_are t c.in-Connected.connective shape)
    c.arguments_of.ensures.below in
    let g = parts_found c.args.adds c.args.arena.now c.args.self.now ts (parts_of t)
    (known_at None c.args.known.now.entries) is c.in_ok-parts-in-Connected.parts c.arguments_of.ensures.terms known
    c.in_ok-parts-in-Connected.ensures in
    ok_more (λ found. MatchOption c.in_ok-parts-in-Connected.parts
    ((found ≡ None) × (c.connection.new.self ≡ c.args.self.now))
    (λ v. GivesLike c.args.adds c.connection.new.self (connected c.in-Connected.connective) v.items found))
    (λ found. Finds is_below c.args.adds c.args.arena.now c.connection.new.self (λ atoms. translation atoms t) found)
    c.connection.result
    (λ found h. finds_other c.args.adds c.args.arena.now c.connection.new.self
    (λ atoms. connected_literal atoms c.in-Connected.connective (parts_of t)) (λ atoms. translation atoms t) found
    (λ atoms. sym (connected_translated t c.in-Connected.connective shape
    (sym (connected_structure t c.in-Connected.connective shape) ∙ c.requires.structure) atoms))
    (connection_finds c.args.adds c.args.arena.now c.args.self.now c.connection.new.self (parts_of t)
    c.in-Connected.connective c.in_ok-parts-in-Connected.parts found g c.connection.ensures.grows h))
    c.connection.ensures.ok

pub returns-in_ok-parts-in-Connected-clause-moves : goal.returns-in_ok-parts-in-Connected-clause-moves
returns-in_ok-parts-in-Connected-clause-moves c =
    moves_gates c.args.adds (λ sorts. has_declared sorts (term_at c.args.table.now c.args.id)) c.args.arena.now
    c.args.self.now c.connection.new.self c.connection.ensures.grows

pub returns-in_ok-parts-in-Connected-clause-ready : goal.returns-in_ok-parts-in-Connected-clause-ready
returns-in_ok-parts-in-Connected-clause-ready c =
    let r = c.requires.ready in
    ready_moved c.args.table.now c.args.measures.now c.args.normals.now c.args.arena.now c.args.arena.now
    c.args.self.now c.connection.new.self r.right r.normals r.regexes
    (moves_gates c.args.adds (λ sorts. true) c.args.arena.now c.args.self.now c.connection.new.self
    c.connection.ensures.grows)

pub returns-in_err-parts-in-Connected-clause-moves : goal.returns-in_err-parts-in-Connected-clause-moves
returns-in_err-parts-in-Connected-clause-moves c =
    moves_none c.args.adds (λ sorts. has_declared sorts (term_at c.args.table.now c.args.id)) c.args.arena.now
    c.args.self.now

pub membership-requires-in-Member-clause-member : goal.membership-requires-in-Member-clause-member
membership-requires-in-Member-clause-member c = rw c.in-Member.is at c.shape_of.ensures

pub returns-in-Words-clause-ok : goal.returns-in-Words-clause-ok
returns-in-Words-clause-ok c =
    let t = term_at c.args.table.now c.args.id in
    let shape = rw c.in-Words.is at c.shape_of.ensures in
    ok_more (λ found. Finds is_below c.args.adds c.words.new.arena c.words.new.self
    (λ atoms. words_literal atoms c.in-Words.distinct (parts_of t)) found)
    (λ found. Finds is_below c.args.adds c.words.new.arena c.words.new.self (λ atoms. translation atoms t) found)
    c.words.result
    (λ found h. finds_other c.args.adds c.words.new.arena c.words.new.self
    (λ atoms. words_literal atoms c.in-Words.distinct (parts_of t)) (λ atoms. translation atoms t) found
    (λ atoms. sym (words_translated t c.in-Words.distinct shape atoms)) h) c.words.ensures.ok

pub affix-requires : goal.affix-requires
affix-requires c = record {
  number = c.requires.number;
  affix = rw c.in-Affix.is at c.shape_of.ensures;
  normals = c.requires.ready.normals;
  below = c.requires.ready.regexes;
}

pub returns-in-Affix-clause-ready : goal.returns-in-Affix-clause-ready
returns-in-Affix-clause-ready c =
    let r = c.requires.ready in
    ready_moved c.args.table.now c.args.measures.now c.affix.new.normals c.args.arena.now c.affix.new.arena
    c.args.self.now c.affix.new.self r.right c.affix.ensures.normals r.regexes c.affix.ensures.moves

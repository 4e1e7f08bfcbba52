use Rattle.std.proofs.Common.{◌&&◌, length, sym, ◌∙◌}
use Rattle.sb_facts.proofs.CallerLemmas.{ok_more}
use Rattle.sb_term.specs.Numbered.{term_at}
use Rattle.sb_problem.specs.Patterns.{literal_of}
use Rattle.sb_rulebook.specs.Parts.{regex_of}
use Rattle.sb_rulebook.specs.Translation.{membership, word_equality}
use Rattle.sb_atoms.specs.Translated.{has_declared}
use Rattle.sb_atoms.specs.Growing.{is_below, Finds}
use Rattle.sb_atoms.proofs.Growth.{moves_none, moves_given}
use Rattle.sb_atoms.proofs.Found.{finds_none, finds_other}
use Rattle.sb_atoms.proofs.TextFacts.{sides_word, sides_none, sides_below, sides_pass}
use Rattle.sb_atoms.proofs.table.Atoms.word_equality.Goals as goal

pub returns-in_err-sides-clause-moves : goal.returns-in_err-sides-clause-moves
returns-in_err-sides-clause-moves c =
    let ts = c.args.table.now in
    moves_none c.args.adds
    (λ sorts. has_declared sorts (term_at ts c.args.one) && has_declared sorts (term_at ts c.args.other)) c.args.arena.now c.args.self.now

pub returns-in_err-sides-clause-ready : goal.returns-in_err-sides-clause-ready
returns-in_err-sides-clause-ready c = record {
  right = c.in_err-sides.ensures.right;
  normals = c.requires.ready.normals;
  regexes = c.requires.ready.regexes;
}

pub measure-requires-clause-number : goal.measure-requires-clause-number
measure-requires-clause-number c =
    (sides_below c.args.table.now c.args.one c.args.other c.in_ok-sides.sides c.in_ok-sides.ensures.ok
    (length c.args.table.now) c.requires.one c.requires.other).0

pub returns-in_err-measure-clause-moves : goal.returns-in_err-measure-clause-moves
returns-in_err-measure-clause-moves c =
    let ts = c.args.table.now in
    moves_none c.args.adds
    (λ sorts. has_declared sorts (term_at ts c.args.one) && has_declared sorts (term_at ts c.args.other)) c.args.arena.now c.args.self.now

pub returns-in_err-measure-clause-ready : goal.returns-in_err-measure-clause-ready
returns-in_err-measure-clause-ready c = record {
  right = c.in_err-measure.ensures.right;
  normals = c.requires.ready.normals;
  regexes = c.requires.ready.regexes;
}

pub returns-then-not-is_word-clause-ok : goal.returns-then-not-is_word-clause-ok
returns-then-not-is_word-clause-ok c =
    let ts = c.args.table.now in
    let no_word = sym c.in_ok-measure.ensures.ok.text ∙ c.if-not-is_word.true in
    finds_none c.args.adds c.args.arena.now c.args.self.now
    (λ atoms. word_equality atoms (term_at ts c.args.one) (term_at ts c.args.other))
    (sides_none ts c.args.one c.args.other c.in_ok-sides.sides c.in_ok-sides.ensures.ok no_word)

pub returns-then-not-is_word-clause-moves : goal.returns-then-not-is_word-clause-moves
returns-then-not-is_word-clause-moves c =
    let ts = c.args.table.now in
    moves_none c.args.adds
    (λ sorts. has_declared sorts (term_at ts c.args.one) && has_declared sorts (term_at ts c.args.other)) c.args.arena.now c.args.self.now

pub returns-then-not-is_word-clause-ready : goal.returns-then-not-is_word-clause-ready
returns-then-not-is_word-clause-ready c = record {
  right = c.in_ok-measure.ensures.right;
  normals = c.requires.ready.normals;
  regexes = c.requires.ready.regexes;
}

pub joined-requires : goal.joined-requires
joined-requires c =
    let below = sides_below c.args.table.now c.args.one c.args.other c.in_ok-sides.sides c.in_ok-sides.ensures.ok
    (length c.args.table.now) c.requires.one c.requires.other in
    record {
      text = below.1;
      number = below.0;
      kind = sym c.in_ok-measure.ensures.ok.text ∙ c.if-not-is_word.false;
      ready = record {
        right = c.in_ok-measure.ensures.right;
        normals = c.requires.ready.normals;
        regexes = c.requires.ready.regexes;
      };
    }

pub returns-clause-ok : goal.returns-clause-ok
returns-clause-ok c =
    let ts = c.args.table.now in
    let a = term_at ts c.args.one in
    let b = term_at ts c.args.other in
    let u = term_at ts c.in_ok-sides.sides.other in
    let R = literal_of (term_at ts c.in_ok-sides.sides.word) in
    let is_word = sym c.in_ok-measure.ensures.ok.text ∙ c.if-not-is_word.false in
    ok_more (λ found. Finds is_below c.args.adds c.joined.new.arena c.joined.new.self
    (λ atoms. membership atoms u (regex_of R)) found)
    (λ found. Finds is_below c.args.adds c.joined.new.arena c.joined.new.self (λ atoms. word_equality atoms a b) found)
    c.joined.result
    (λ found h. finds_other c.args.adds c.joined.new.arena c.joined.new.self (λ atoms. membership atoms u (regex_of R))
    (λ atoms. word_equality atoms a b) found
    (sides_word ts c.args.one c.args.other c.in_ok-sides.sides c.in_ok-sides.ensures.ok is_word) h)
    c.joined.ensures.ok

pub returns-clause-moves : goal.returns-clause-moves
returns-clause-moves c =
    let ts = c.args.table.now in
    moves_given c.args.adds (λ sorts. has_declared sorts (term_at ts c.in_ok-sides.sides.other))
    (λ sorts. has_declared sorts (term_at ts c.args.one) && has_declared sorts (term_at ts c.args.other))
    c.args.arena.now c.joined.new.arena c.args.self.now c.joined.new.self
    (λ sorts h. sides_pass (has_declared sorts) ts c.args.one c.args.other c.in_ok-sides.sides
    c.in_ok-sides.ensures.ok h)
    c.joined.ensures.moves

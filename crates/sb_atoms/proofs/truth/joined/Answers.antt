use Rattle.std.proofs.Common.{Some, sym, ap, subst, ◌∙◌}
use Rattle.std.specs.Prelude.{is_some}
use Rattle.std.proofs.lemmas.Bool.{false≢true}
use Rattle.sb_lang.specs.Regex.{Regex}
use Rattle.sb_regex.specs.Numbered.{regex_at}
use Rattle.sb_regex.proofs.CallerLemmas.{at_kept, extends_more, names_below, number_kept}
use Rattle.sb_term.specs.Numbered.{term_at}
use Rattle.sb_term.proofs.CallerLemmas.{extends_same}
use Rattle.sb_problem.specs.Parts.{are_written, parts_in}
use Rattle.sb_atoms.specs.Truths.{joined_word, IsBehind}
use Rattle.sb_atoms.proofs.TruthFacts.{parts_within}
use Rattle.sb_atoms.proofs.truth.joined.Goals as goal

pub returns-in_err-parts-clause-ready : goal.returns-in_err-parts-clause-ready
returns-in_err-parts-clause-ready c = record {
  normals = c.in_err-parts.ensures.normals;
  right = c.right_stays.ensures c.args.arena.now c.single_pieces.new.arena c.args.plain.now
      c.in_err-parts.ensures.extends c.requires.ready.right;
}

pub returns-in_default-clause-ok : goal.returns-in_default-clause-ok
returns-in_default-clause-ok c =
    let none = rw c.in_default.is at c.in_ok-parts.ensures.ok in
    absurd (false≢true (ap is_some none ∙ c.requires.single))

pub returns-in_default-clause-ready : goal.returns-in_default-clause-ready
returns-in_default-clause-ready c = record {
  normals = c.in_ok-parts.ensures.normals;
  right = c.right_stays.ensures c.args.arena.now c.single_pieces.new.arena c.args.plain.now
      c.in_ok-parts.ensures.extends c.requires.ready.right;
}

pub behind_parts-requires : goal.behind_parts-requires
behind_parts-requires c =
    let written = rw c.in-Some.is at c.in_ok-parts.ensures.written in record {
      written = ap (λ ps. are_written (parts_in ps)) c.deref.ensures.value ∙ written;
      known = number_kept c.args.arena.now c.single_pieces.new.arena c.args.regex c.in_ok-parts.ensures.extends
          c.requires.known;
      right = c.right_stays.ensures c.args.arena.now c.single_pieces.new.arena c.args.plain.now
          c.in_ok-parts.ensures.extends c.requires.ready.right;
    }

pub returns-in_err-rest-clause-extends : goal.returns-in_err-rest-clause-extends
returns-in_err-rest-clause-extends c =
    extends_more c.args.arena.now c.single_pieces.new.arena c.behind_parts.new.arena c.in_ok-parts.ensures.extends
    c.in_err-rest.ensures.extends

pub returns-in_err-rest-clause-ready : goal.returns-in_err-rest-clause-ready
returns-in_err-rest-clause-ready c = record {
  normals = c.normals_stay.ensures c.args.table.now c.args.table.now c.single_pieces.new.arena
      c.behind_parts.new.arena c.single_pieces.new.self (extends_same c.args.table.now) c.in_err-rest.ensures.extends
      c.in_ok-parts.ensures.normals;
  right = c.in_err-rest.ensures.right;
}

pub nullable-requires : goal.nullable-requires
nullable-requires c = names_below c.behind_parts.new.arena c.in_ok-rest.rest _ c.in_ok-rest.ensures.ok.1

pub returns-clause-ok : goal.returns-clause-ok
returns-clause-ok c =
    let rs = c.behind_parts.new.arena in
    let ps = parts_in c.deref.result.now in
    let found = rw c.in-Some.is at c.in_ok-parts.ensures.ok in
    let single = sym found ∙ ap (λ qs. Some (parts_in qs)) (sym c.deref.ensures.value) in
    parts_within c.derivative_along_has_rests.ensures c.nullable_has_empty_word.ensures rs
    (regex_at c.args.arena.now c.args.regex) c.args.values.now (term_at c.args.table.now c.args.id) ps
    c.in_ok-rest.rest c.nullable.result single
    (subst (λ (r : Regex). IsBehind rs r (joined_word c.args.values.now ps) c.in_ok-rest.rest)
    (at_kept c.args.arena.now c.single_pieces.new.arena c.args.regex c.in_ok-parts.ensures.extends c.requires.known)
    c.in_ok-rest.ensures.ok)
    c.nullable.ensures

pub returns-clause-extends : goal.returns-clause-extends
returns-clause-extends c =
    extends_more c.args.arena.now c.single_pieces.new.arena c.behind_parts.new.arena c.in_ok-parts.ensures.extends
    c.in_ok-rest.ensures.extends

pub returns-clause-ready : goal.returns-clause-ready
returns-clause-ready c = record {
  normals = c.normals_stay.ensures c.args.table.now c.args.table.now c.single_pieces.new.arena
      c.behind_parts.new.arena c.single_pieces.new.self (extends_same c.args.table.now) c.in_ok-rest.ensures.extends
      c.in_ok-parts.ensures.normals;
  right = c.in_ok-rest.ensures.right;
}

use Rattle.std.proofs.Common.{sym, ◌∙◌, arith}
use Rattle.std.proofs.lemmas.Bool.{false≢true}
use Rattle.sb_facts.proofs.CallerLemmas.{ok_more}
use Rattle.sb_regex.specs.Numbered.{regex_at}
use Rattle.sb_regex.proofs.CallerLemmas.{extends_more, names_below}
use Rattle.sb_term.specs.Numbered.{term_at}
use Rattle.sb_atoms.specs.Truths.{IsWithin, IsTruthUnder}
use Rattle.sb_atoms.proofs.FitFacts.{member_fits}
use Rattle.sb_atoms.proofs.Found.{text_regex_of}
use Rattle.sb_atoms.proofs.TruthFacts.{member_true}
use Rattle.sb_atoms.proofs.truth.membership_holds.Goals as goal

pub normal-requires-clause-known : goal.normal-requires-clause-known
normal-requires-clause-known c = omega (arith, c.sides_of-sides.ensures.below.1, c.requires.number)

pub returns-in_err-regex-clause-ready : goal.returns-in_err-regex-clause-ready
returns-in_err-regex-clause-ready c = record {
  normals = c.in_err-regex.ensures.normals;
  right = c.right_stays.ensures c.args.arena.now c.normal.new.arena c.args.plain.now c.in_err-regex.ensures.extends
      c.requires.ready.right;
}

pub returns-in_default-clause-ok : goal.returns-in_default-clause-ok
returns-in_default-clause-ok c =
    let ts = c.args.table.now in
    let none = rw c.in_default.is at c.in_ok-regex.ensures.number in
    absurd (false≢true (sym none ∙ text_regex_of (term_at ts c.args.id) (term_at ts c.sides_of-sides.result.0)
    (term_at ts c.sides_of-sides.result.1) c.sides_of-sides.ensures.is c.requires.structure))

pub returns-in_default-clause-ready : goal.returns-in_default-clause-ready
returns-in_default-clause-ready c = record {
  normals = c.in_ok-regex.ensures.normals;
  right = c.right_stays.ensures c.args.arena.now c.normal.new.arena c.args.plain.now c.in_ok-regex.ensures.extends
      c.requires.ready.right;
}

pub is_within-requires : goal.is_within-requires
is_within-requires c =
    let ts = c.args.table.now in
    let r = rw c.in-Some.is at c.in_ok-regex.ensures.number in record {
      number = omega (arith, c.sides_of-sides.ensures.below.0, c.requires.number);
      known = names_below c.normal.new.arena c.in-Some.regex _ r.names;
      single = member_fits (term_at ts c.args.id) (term_at ts c.sides_of-sides.result.0)
          (term_at ts c.sides_of-sides.result.1) c.sides_of-sides.ensures.is c.requires.fits;
      ready = record {
        normals = c.in_ok-regex.ensures.normals;
        right = c.right_stays.ensures c.args.arena.now c.normal.new.arena c.args.plain.now
            c.in_ok-regex.ensures.extends c.requires.ready.right;
      };
    }

pub returns-clause-ok : goal.returns-clause-ok
returns-clause-ok c =
    let ts = c.args.table.now in
    let rs = c.normal.new.arena in
    let t = term_at ts c.args.id in
    let u = term_at ts c.sides_of-sides.result.0 in
    let R = term_at ts c.sides_of-sides.result.1 in
    let r = rw c.in-Some.is at c.in_ok-regex.ensures.number in
    ok_more (IsWithin c.args.values.now u (regex_at rs c.in-Some.regex)) (IsTruthUnder c.args.values.now t)
    c.is_within.result
    (λ truth h. member_true c.normal_has_terms_words.ensures rs t u R c.in-Some.regex c.args.values.now truth
    c.sides_of-sides.ensures.is r h)
    c.is_within.ensures.ok

pub returns-clause-extends : goal.returns-clause-extends
returns-clause-extends c =
    extends_more c.args.arena.now c.normal.new.arena c.is_within.new.arena c.in_ok-regex.ensures.extends
    c.is_within.ensures.extends

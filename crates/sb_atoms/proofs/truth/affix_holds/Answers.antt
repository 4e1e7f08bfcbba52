use Rattle.std.proofs.Common.{sym, ◌∙◌}
use Rattle.std.proofs.lemmas.Bool.{false≢true}
use Rattle.sb_facts.proofs.CallerLemmas.{ok_more}
use Rattle.sb_regex.specs.Numbered.{regex_at}
use Rattle.sb_regex.proofs.CallerLemmas.{extends_more}
use Rattle.sb_term.specs.Numbered.{term_at}
use Rattle.sb_atoms.specs.Truths.{IsWithin, IsTruthUnder}
use Rattle.sb_atoms.proofs.AffixFacts.{side_single, side_true}
use Rattle.sb_atoms.proofs.truth.affix_holds.Goals as goal

pub returns-in_err-sides-clause-ready : goal.returns-in_err-sides-clause-ready
returns-in_err-sides-clause-ready c = record {
  normals = c.in_err-sides.ensures.normals;
  right = c.right_stays.ensures c.args.arena.now c.affix_sides.new.arena c.args.plain.now
      c.in_err-sides.ensures.extends c.requires.ready.right;
}

pub returns-in_default-clause-ok : goal.returns-in_default-clause-ok
returns-in_default-clause-ok c =
    let none = rw c.in_default.is at c.in_ok-sides.ensures.ok in
    absurd (false≢true (sym none.0 ∙ c.requires.fits))

pub returns-in_default-clause-ready : goal.returns-in_default-clause-ready
returns-in_default-clause-ready c = record {
  normals = c.in_ok-sides.ensures.normals;
  right = c.right_stays.ensures c.args.arena.now c.affix_sides.new.arena c.args.plain.now
      c.in_ok-sides.ensures.extends c.requires.ready.right;
}

pub is_within-requires : goal.is_within-requires
is_within-requires c =
    let ts = c.args.table.now in
    let s = rw c.in-Some.is at c.in_ok-sides.ensures.ok in record {
      number = s.0;
      known = s.1;
      single = side_single (term_at ts c.args.id) c.args.kind (term_at ts c.in-Some.sides.0)
          (regex_at c.affix_sides.new.arena c.in-Some.sides.1) s.2 c.requires.fits;
      ready = record {
        normals = c.in_ok-sides.ensures.normals;
        right = c.right_stays.ensures c.args.arena.now c.affix_sides.new.arena c.args.plain.now
            c.in_ok-sides.ensures.extends c.requires.ready.right;
      };
    }

pub returns-clause-ok : goal.returns-clause-ok
returns-clause-ok c =
    let ts = c.args.table.now in
    let ws = c.args.values.now in
    let t = term_at ts c.args.id in
    let u = term_at ts c.in-Some.sides.0 in
    let r = regex_at c.affix_sides.new.arena c.in-Some.sides.1 in
    let s = rw c.in-Some.is at c.in_ok-sides.ensures.ok in
    ok_more (IsWithin ws u r) (IsTruthUnder ws t) c.is_within.result
    (λ truth h. side_true c.affixes_have_their_words.ensures t c.args.kind u r ws truth s.2 h) c.is_within.ensures.ok

pub returns-clause-extends : goal.returns-clause-extends
returns-clause-extends c =
    extends_more c.args.arena.now c.affix_sides.new.arena c.is_within.new.arena c.in_ok-sides.ensures.extends
    c.is_within.ensures.extends

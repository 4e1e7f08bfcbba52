use Rattle.std.proofs.Common.{sym, ◌∙◌}
use Rattle.std.proofs.lemmas.Bool.{false≢true}
use Rattle.sb_facts.proofs.CallerLemmas.{ok_more}
use Rattle.sb_regex.specs.Numbered.{regex_at}
use Rattle.sb_regex.proofs.CallerLemmas.{extends_more, names_below}
use Rattle.sb_term.specs.Numbered.{term_at}
use Rattle.sb_atoms.specs.Truths.{IsWithin, AreEqualUnder}
use Rattle.sb_atoms.proofs.TruthFacts.{equal_true}
use Rattle.sb_atoms.proofs.truth.equals_word.Goals as goal

pub returns-in_err-regex-clause-ready : goal.returns-in_err-regex-clause-ready
returns-in_err-regex-clause-ready c = record {
  normals = c.in_err-regex.ensures.normals;
  right = c.right_stays.ensures c.args.arena.now c.pattern.new.arena c.args.plain.now c.in_err-regex.ensures.extends
      c.requires.ready.right;
}

pub returns-in_default-clause-ok : goal.returns-in_default-clause-ok
returns-in_default-clause-ok c =
    let none = rw c.in_default.is at c.in_ok-regex.ensures.number in absurd (false≢true (sym none ∙ c.requires.kind))

pub returns-in_default-clause-ready : goal.returns-in_default-clause-ready
returns-in_default-clause-ready c = record {
  normals = c.in_ok-regex.ensures.normals;
  right = c.right_stays.ensures c.args.arena.now c.pattern.new.arena c.args.plain.now c.in_ok-regex.ensures.extends
      c.requires.ready.right;
}

pub is_within-requires : goal.is_within-requires
is_within-requires c =
    let r = rw c.in-Some.is at c.in_ok-regex.ensures.number in record {
      number = c.requires.text;
      known = names_below c.pattern.new.arena c.in-Some.regex _ r.names;
      single = c.requires.single;
      ready = record {
        normals = c.in_ok-regex.ensures.normals;
        right = c.right_stays.ensures c.args.arena.now c.pattern.new.arena c.args.plain.now
            c.in_ok-regex.ensures.extends c.requires.ready.right;
      };
    }

pub returns-clause-ok : goal.returns-clause-ok
returns-clause-ok c =
    let ts = c.args.table.now in
    let rs = c.pattern.new.arena in
    let t = term_at ts c.args.text in
    let g = term_at ts c.args.word in
    let r = rw c.in-Some.is at c.in_ok-regex.ensures.number in
    ok_more (IsWithin c.args.values.now t (regex_at rs c.in-Some.regex)) (AreEqualUnder c.args.values.now t g)
    c.is_within.result
    (λ truth h. equal_true c.normal_has_terms_words.ensures rs t g c.in-Some.regex c.args.values.now truth r h)
    c.is_within.ensures.ok

pub returns-clause-extends : goal.returns-clause-extends
returns-clause-extends c =
    extends_more c.args.arena.now c.pattern.new.arena c.is_within.new.arena c.in_ok-regex.ensures.extends
    c.is_within.ensures.extends

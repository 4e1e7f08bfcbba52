use Rattle.std.proofs.Common.{◌≡◌, Some, sym, ◌∙◌}
use Rattle.std.proofs.lemmas.Bool.{false≢true}
use Rattle.sb_facts.proofs.CallerLemmas.{ok_more}
use Rattle.sb_meaning.specs.Terms.{Term}
use Rattle.sb_problem.specs.Patterns.{pattern_in}
use Rattle.sb_script.specs.Brought.{asked}
use Rattle.sb_regex.specs.Numbered.{regex_at}
use Rattle.sb_regex.proofs.CallerLemmas.{extends_more, names_below}
use Rattle.sb_term.proofs.CallerLemmas.{extends_same}
use Rattle.sb_atoms.specs.Truths.{word_at, IsIn, IsTruthUnder}
use Rattle.sb_atoms.proofs.TruthFacts.{truth_found}
use Rattle.sb_atoms.proofs.truth.member.Goals as goal

pub returns-in_err-regex-clause-ready : goal.returns-in_err-regex-clause-ready
returns-in_err-regex-clause-ready c = record {
  normals = c.in_err-regex.ensures.normals;
  right = c.right_stays.ensures c.args.arena.now c.pattern.new.arena c.args.plain.now c.in_err-regex.ensures.extends
      c.requires.ready.right;
}

pub returns-in_default-clause-ok : goal.returns-in_default-clause-ok
returns-in_default-clause-ok c =
    let none = rw c.in_default.is at c.in_ok-regex.ensures.number in absurd (false≢true (sym none ∙ c.requires.kind))

pub returns-in_default-clause-ready : goal.returns-in_default-clause-ready
returns-in_default-clause-ready c = record {
  normals = c.in_ok-regex.ensures.normals;
  right = c.right_stays.ensures c.args.arena.now c.pattern.new.arena c.args.plain.now c.in_ok-regex.ensures.extends
      c.requires.ready.right;
}

pub matched-requires : goal.matched-requires
matched-requires c =
    let is = rw c.in-Some.is at c.in_ok-regex.ensures.number in record {
      known = names_below c.pattern.new.arena c.in-Some.regex _ is.names;
      right = c.right_stays.ensures c.args.arena.now c.pattern.new.arena c.args.plain.now
          c.in_ok-regex.ensures.extends c.requires.ready.right;
    }

pub returns-clause-ok : goal.returns-clause-ok
returns-clause-ok c =
    let rs = c.pattern.new.arena in
    let R = pattern_in c.args.table.now c.args.pattern in
    let is = rw c.in-Some.is at c.in_ok-regex.ensures.number in
    ok_more (IsIn (word_at c.args.values.now c.args.serial.0) (regex_at rs c.in-Some.regex))
    (λ truth. (t : Term) → asked t ≡ Some (c.args.serial.0, R) → IsTruthUnder c.args.values.now t truth)
    c.matched.result
    (λ truth h t asks. truth_found c.normal_has_terms_words.ensures rs c.args.serial.0 c.in-Some.regex
    c.args.values.now t R truth asks is h)
    c.matched.ensures.ok

pub returns-clause-extends : goal.returns-clause-extends
returns-clause-extends c =
    extends_more c.args.arena.now c.pattern.new.arena c.matched.new.arena c.in_ok-regex.ensures.extends
    c.matched.ensures.extends

pub returns-clause-ready : goal.returns-clause-ready
returns-clause-ready c = record {
  normals = c.normals_stay.ensures c.args.table.now c.args.table.now c.pattern.new.arena c.matched.new.arena
      c.pattern.new.self (extends_same c.args.table.now) c.matched.ensures.extends c.in_ok-regex.ensures.normals;
  right = c.matched.ensures.right;
}

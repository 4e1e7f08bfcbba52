use Rattle.sb_facts.proofs.CallerLemmas.{ok_more}
use Rattle.sb_regex.specs.Numbered.{regex_at}
use Rattle.sb_term.specs.Numbered.{term_at}
use Rattle.sb_term.proofs.CallerLemmas.{extends_same}
use Rattle.sb_atoms.specs.Truths.{word_at, IsIn, IsWithin}
use Rattle.sb_atoms.proofs.TruthFacts.{constant_within}
use Rattle.sb_atoms.proofs.truth.is_within.Goals as goal

pub returns-in-Some-clause-ok : goal.returns-in-Some-clause-ok
returns-in-Some-clause-ok c =
    let t = term_at c.args.table.now c.args.id in
    let r = regex_at c.args.arena.now c.args.regex in
    ok_more (IsIn (word_at c.args.values.now c.in-Some.serial.0) r) (IsWithin c.args.values.now t r) c.matched.result
    (λ truth h. constant_within c.args.values.now t c.in-Some.serial.0 r truth c.in-Some.ensures h)
    c.matched.ensures.ok

pub returns-in-Some-clause-ready : goal.returns-in-Some-clause-ready
returns-in-Some-clause-ready c = record {
  normals = c.normals_stay.ensures c.args.table.now c.args.table.now c.args.arena.now c.matched.new.arena
      c.args.normals.now (extends_same c.args.table.now) c.matched.ensures.extends c.requires.ready.normals;
  right = c.matched.ensures.right;
}

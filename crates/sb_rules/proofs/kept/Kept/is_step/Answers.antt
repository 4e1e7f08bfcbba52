use Rattle.std.proofs.Common.{refl}
use Rattle.sb_regex.proofs.CallerLemmas.{numbers_kept}
use Rattle.sb_rulebook.specs.Splits.{is_step}
use Rattle.sb_atoms.specs.Numbered.{atoms_in}
use Rattle.sb_rules.proofs.Staying.{same_kept}
use Rattle.sb_rules.proofs.Parting.{ok_always}
use Rattle.sb_rules.proofs.kept.Kept.is_step.Goals as goal

pub is_step-requires-clause-ready : goal.is_step-requires-clause-ready
is_step-requires-clause-ready c = record {
  formed = c.requires.whole.formed;
  regexes = c.requires.whole.atoms;
  right = c.requires.whole.plain;
}

pub returns-clause-ok : goal.returns-clause-ok
returns-clause-ok c =
    ok_always c.is_step.result (is_step (atoms_in c.args.self.now.arena c.args.self.now.atoms) c.args.literals.now)
    c.is_step.ensures.ok

pub returns-clause-kept : goal.returns-clause-kept
returns-clause-kept c = λ others.
    same_kept c.args.self.now (record c.args.self.now {
      arena = c.is_step.new.arena;
      plain = c.is_step.new.plain;
    }) others c.requires.whole c.is_step.ensures.extends refl refl refl refl

pub returns-clause-whole : goal.returns-clause-whole
returns-clause-whole c = record {
  regexes = numbers_kept _ _ _ c.is_step.ensures.extends c.requires.whole.regexes;
  plain = c.is_step.ensures.ready.right;
  atoms = c.is_step.ensures.ready.regexes;
  brought = c.requires.whole.brought;
  formed = c.requires.whole.formed;
}

pub returns-clause-terms : goal.returns-clause-terms
returns-clause-terms c = record { extends = c.is_step.ensures.extends; normals = refl; measures = refl }

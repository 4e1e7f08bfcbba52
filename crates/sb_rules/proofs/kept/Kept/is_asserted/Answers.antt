use Rattle.std.proofs.Common.{refl, ap, ◌∙◌, List, ℕ}
use Rattle.std.specs.List.{list_all}
use Rattle.sb_term.specs.Numbered.{term_at}
use Rattle.sb_regex.proofs.CallerLemmas.{numbers_kept}
use Rattle.sb_rulebook.specs.Atoms.{AtomOver, is_well_formed}
use Rattle.sb_rulebook.specs.Brought.{is_brought_atom}
use Rattle.sb_atoms.specs.Numbered.{atoms_in}
use Rattle.sb_atoms.specs.Translated.{brought_translation}
use Rattle.sb_atoms.proofs.CallerLemmas.{atoms_kept}
use Rattle.sb_rules.proofs.Staying.{same_kept}
use Rattle.sb_rules.proofs.Clausal.{translated}
use Rattle.sb_rules.proofs.kept.Kept.is_asserted.Goals as goal

pub find_translation-requires : goal.find_translation-requires
find_translation-requires c = record {
  number = c.requires.number;
  right = c.requires.over.measures;
  normals = c.requires.over.normals;
  regexes = c.requires.over.whole.atoms;
}

pub returns-in_err-found-clause-kept : goal.returns-in_err-found-clause-kept
returns-in_err-found-clause-kept c = λ others.
    same_kept c.args.self.now (record c.args.self.now {
      arena = c.find_translation.new.arena;
      normals = c.find_translation.new.normals;
      measures = c.find_translation.new.measures;
      atoms = c.find_translation.new.self;
    }) others c.requires.over.whole c.find_translation.ensures.arena refl c.find_translation.ensures.stays refl refl

pub returns-in_err-found-clause-over : goal.returns-in_err-found-clause-over
returns-in_err-found-clause-over c = record {
  whole = record {
    regexes = numbers_kept _ _ _ c.find_translation.ensures.arena c.requires.over.whole.regexes;
    plain = c.right_stays.ensures _ _ _ c.find_translation.ensures.arena c.requires.over.whole.plain;
    atoms = c.find_translation.ensures.regexes;
    brought = ap (list_all is_brought_atom) c.find_translation.ensures.stays ∙ c.requires.over.whole.brought;
    formed = ap (list_all is_well_formed) c.find_translation.ensures.stays ∙ c.requires.over.whole.formed;
  };
  normals = c.find_translation.ensures.normals;
  measures = c.find_translation.ensures.right;
}

pub returns-clause-kept : goal.returns-clause-kept
returns-clause-kept c = λ others.
    same_kept c.args.self.now (record c.args.self.now {
      arena = c.find_translation.new.arena;
      normals = c.find_translation.new.normals;
      measures = c.find_translation.new.measures;
      atoms = c.find_translation.new.self;
    }) others c.requires.over.whole c.find_translation.ensures.arena refl c.find_translation.ensures.stays refl refl

pub returns-clause-over : goal.returns-clause-over
returns-clause-over c = record {
  whole = record {
    regexes = numbers_kept _ _ _ c.find_translation.ensures.arena c.requires.over.whole.regexes;
    plain = c.right_stays.ensures _ _ _ c.find_translation.ensures.arena c.requires.over.whole.plain;
    atoms = c.find_translation.ensures.regexes;
    brought = ap (list_all is_brought_atom) c.find_translation.ensures.stays ∙ c.requires.over.whole.brought;
    formed = ap (list_all is_well_formed) c.find_translation.ensures.stays ∙ c.requires.over.whole.formed;
  };
  normals = c.find_translation.ensures.normals;
  measures = c.find_translation.ensures.right;
}

pub returns-clause-ok : goal.returns-clause-ok
returns-clause-ok c = λ others.
    translated c.args.self.now.arena c.find_translation.new.arena c.args.self.now.atoms
    (term_at c.args.table.now c.args.term) c.args.literal c.in_ok-found.found c.is_literal.result
    (atoms_kept _ _ _ c.find_translation.ensures.arena c.requires.over.whole.atoms)
    (c.in_ok-found.ensures.ok
    ∙ ap (λ (atoms : List (AtomOver ℕ)). brought_translation (atoms_in c.find_translation.new.arena atoms)
    (term_at c.args.table.now c.args.term)) c.find_translation.ensures.stays)
    c.is_literal.ensures

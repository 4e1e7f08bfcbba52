use Rattle.std.proofs.Common.{[], ◌∷◌, ◌++◌, length, if◌then◌else◌, Ok, Err, refl, ap, sym, ◌∙◌}
use Rattle.std.proofs.lemmas.Result.{err_from_is_err_and}
use Rattle.sb_proof.specs.Lines.{atom_in}
use Rattle.sb_atoms.specs.Numbered.{atoms_in}
use Rattle.sb_rulebook.specs.Atoms.{is_well_formed}
use Rattle.sb_rulebook.specs.Brought.{is_brought_atom}
use Rattle.sb_rulebook.specs.Refusals.{not_normal}
use Rattle.sb_rules.specs.Kept.{kept_in}
use Rattle.sb_rules.proofs.Atomic.{added_new, atom_wanted, all_with, below_with, kept_by_form}
use Rattle.sb_regex.proofs.CallerLemmas.{extends_same}
use Rattle.sb_rules.proofs.kept.Kept.add_new.Goals as goal

pub returns-then-not-is_well_formed-clause-defines : goal.returns-then-not-is_well_formed-clause-defines
returns-then-not-is_well_formed-clause-defines c = λ others.
    let k = c.args.self.now in
    let a = atom_in c.args.atom in (
      kept_by_form c.order_tells_apart.ensures k others a c.is_well_formed.result
          c.normal_regexes_each_once.ensures.distinct c.requires.regex c.requires.whole.atoms c.requires.is_new
          c.is_well_formed.ensures
          ∙ ap (λ b. if b then Ok (record (kept_in k others) { atoms = atoms_in k.arena (k.atoms ++ a ∷ []) })
          else Err not_normal) c.if-not-is_well_formed.true,
      refl,
    )

pub returns-in_err-add-clause-whole : goal.returns-in_err-add-clause-whole
returns-in_err-add-clause-whole c =
    let old = c.args.self.now.atoms in
    let new = c.add.new.self in
    let a = atom_in c.args.atom in
    let whole = c.requires.whole in
    record {
      regexes = whole.regexes;
      plain = whole.plain;
      atoms = below_with (length c.args.self.now.arena) old new a c.add.ensures.grows whole.atoms c.requires.regex;
      brought = all_with is_brought_atom old new a c.add.ensures.grows whole.brought c.requires.brought;
      formed = all_with is_well_formed old new a c.add.ensures.grows whole.formed
          (sym c.is_well_formed.ensures ∙ c.if-not-is_well_formed.false);
    }

pub returns-clause-whole : goal.returns-clause-whole
returns-clause-whole c =
    let old = c.args.self.now.atoms in
    let new = c.add.new.self in
    let a = atom_in c.args.atom in
    let whole = c.requires.whole in
    record {
      regexes = whole.regexes;
      plain = whole.plain;
      atoms = below_with (length c.args.self.now.arena) old new a c.add.ensures.grows whole.atoms c.requires.regex;
      brought = all_with is_brought_atom old new a c.add.ensures.grows whole.brought c.requires.brought;
      formed = all_with is_well_formed old new a c.add.ensures.grows whole.formed
          (sym c.is_well_formed.ensures ∙ c.if-not-is_well_formed.false);
    }

pub returns-clause-defines : goal.returns-clause-defines
returns-clause-defines c = λ others.
    let k = c.args.self.now in
    let a = atom_in c.args.atom in (
      others.rests,
      kept_by_form c.order_tells_apart.ensures k others a c.is_well_formed.result
          c.normal_regexes_each_once.ensures.distinct c.requires.regex c.requires.whole.atoms c.requires.is_new
          c.is_well_formed.ensures
          ∙ (ap (λ b. if b then Ok (record (kept_in k others) { atoms = atoms_in k.arena (k.atoms ++ a ∷ []) })
          else Err not_normal) c.if-not-is_well_formed.false
          ∙ ap (λ xs. Ok (record (kept_in k others) { atoms = atoms_in k.arena xs }))
          (sym (added_new k.atoms c.add.new.self a _ c.add.ensures.grows c.in_ok-add.ensures.ok c.requires.is_new))),
    )

pub returns-in_err-add-clause-terms : goal.returns-in_err-add-clause-terms
returns-in_err-add-clause-terms c = record { extends = extends_same _; normals = refl; measures = refl }

pub returns-clause-terms : goal.returns-clause-terms
returns-clause-terms c = record { extends = extends_same _; normals = refl; measures = refl }

pub returns-in_err-add-clause-defines : goal.returns-in_err-add-clause-defines
returns-in_err-add-clause-defines c = λ others.
    let x = c.from_residual in
    let p = err_from_is_err_and x.result x.ensures.1 in
    atom_wanted _ x.result p.0 _ c.args.self.now others (atom_in c.args.atom) c.add.new.self p.1 p.2
    c.add.ensures.grows

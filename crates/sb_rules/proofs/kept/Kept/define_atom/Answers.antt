use Rattle.std.proofs.Common.{map, length, refl, sym, subst, ◌∙◌}
use Rattle.std.proofs.lemmas.Result.{err_from_is_err_and}
use Rattle.sb_atoms.specs.Numbered.{over}
use Rattle.sb_term.specs.Symbols.{sort_in}
use Rattle.sb_proof.specs.Lines.{atom_in}
use Rattle.sb_rulebook.specs.AtomRules.{defined}
use Rattle.sb_rulebook.specs.Follows.{follows}
use Rattle.sb_rulebook.specs.Lines.{atom_line}
use Rattle.sb_rules.specs.Kept.{kept_in}
use Rattle.sb_rules.specs.Defining.{IsBroughtAs}
use Rattle.sb_rules.proofs.Staying.{judged_by, wanted}
use Rattle.sb_rules.proofs.AtomLines.{brought_stays, by_no_parts, by_unbrought, by_brought, has_number, number_below}
use Rattle.sb_regex.proofs.CallerLemmas.{extends_same}
use Rattle.sb_rules.proofs.kept.Kept.define_atom.Goals as goal

pub returns-then-not-has_parts-clause-judges : goal.returns-then-not-has_parts-clause-judges
returns-then-not-has_parts-clause-judges c = λ asked d others. (
  by_no_parts (map sort_in c.args.sorts.now) asked c.args.self.now others (atom_in c.args.atom.now) d
      (sym c.has_parts.ensures ∙ c.if-not-has_parts.true),
  refl,
)

pub add_atom-requires-clause-regex : goal.add_atom-requires-clause-regex
add_atom-requires-clause-regex c =
    number_below (length c.args.self.now.arena) c.args.self.now.regexes.order (atom_in c.args.atom.now)
    (atom_in c.in-Some.atom) c.requires.regexes
    (subst (IsBroughtAs c.args.self.now.regexes.order (atom_in c.args.atom.now)) c.in-Some.is c.in_ok-atom.ensures).1

pub add_atom-requires-clause-brought : goal.add_atom-requires-clause-brought
add_atom-requires-clause-brought c =
    let b = subst (IsBroughtAs c.args.self.now.regexes.order (atom_in c.args.atom.now)) c.in-Some.is
    c.in_ok-atom.ensures in
    brought_stays c.args.self.now.regexes.order (atom_in c.args.atom.now) (atom_in c.in-Some.atom) b.1 ∙ b.0

pub returns-in-None-clause-judges : goal.returns-in-None-clause-judges
returns-in-None-clause-judges c = λ asked d others.
    let k = c.args.self.now in
    let a = atom_in c.args.atom.now in
    let there = sym c.has_parts.ensures ∙ c.if-not-has_parts.false in (
      by_unbrought (map sort_in c.args.sorts.now) asked k others a d
          (subst (IsBroughtAs k.regexes.order a) c.in-None.is c.in_ok-atom.ensures
          (has_number (map sort_in c.args.sorts.now) (length k.atoms) k.regexes.order a there)) there,
      refl,
    )

pub returns-in-Some-clause-judges : goal.returns-in-Some-clause-judges
returns-in-Some-clause-judges c = λ asked d others.
    let k = c.args.self.now in
    let a = atom_in c.args.atom.now in
    let b = subst (IsBroughtAs k.regexes.order a) c.in-Some.is c.in_ok-atom.ensures in
    judged_by c.add_atom.result (follows asked (kept_in k others) (atom_line a))
    (defined (kept_in k others) (over k.arena (atom_in c.in-Some.atom))) k k c.add_atom.new.self others
    (by_brought (map sort_in c.args.sorts.now) asked k others a (atom_in c.in-Some.atom) d b.0
    (sym c.has_parts.ensures ∙ c.if-not-has_parts.false) b.1) refl (c.add_atom.ensures.defines others)

pub returns-in_err-atom-clause-terms : goal.returns-in_err-atom-clause-terms
returns-in_err-atom-clause-terms c = record { extends = extends_same _; normals = refl; measures = refl }

pub returns-in-None-clause-terms : goal.returns-in-None-clause-terms
returns-in-None-clause-terms c = record { extends = extends_same _; normals = refl; measures = refl }

pub returns-in_err-atom-clause-judges : goal.returns-in_err-atom-clause-judges
returns-in_err-atom-clause-judges c = λ asked d others.
    let x = c.from_residual in
    let p = err_from_is_err_and x.result x.ensures.1 in
    wanted _ x.result p.0 _ c.args.self.now c.args.self.now others p.1 p.2 refl

use Rattle.std.proofs.Common.{◌≡◌, [], ◌∷◌, IfSome, option_map, ap, sym, subst, ◌∙◌}
use Rattle.sb_script.specs.Pieces.{constant_piece}
use Rattle.sb_rulebook.specs.Atoms.{in_atom}
use Rattle.sb_proof.specs.Lines.{atom_in}
use Rattle.sb_theory.proofs.member.member_in.Goals as goal

pub returns-in-Some-clause-some : goal.returns-in-Some-clause-some
returns-in-Some-clause-some c =
    subst (λ o. IfSome o (λ m. atom_in c.args.atom.now ≡ in_atom (constant_piece m.0 ∷ []) m.1)) c.in-Some.is
    c.member.ensures.is

pub returns-in-None-clause-none : goal.returns-in-None-clause-none
returns-in-None-clause-none c = ap (option_map (λ m. m.0)) (sym c.member.ensures.exact ∙ c.in-None.is)

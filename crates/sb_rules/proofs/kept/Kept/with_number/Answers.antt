use Rattle.std.proofs.Common.{ℕ, Some, option_map, sym, ap, ◌∙◌}
use Rattle.sb_rulebook.specs.Atoms.{map_atom}
use Rattle.sb_proof.specs.Lines.{atom_in}
use Rattle.sb_rules.proofs.kept.Kept.with_number.Goals as goal

pub returns-in_default : goal.returns-in_default
returns-in_default c =
    let a = atom_in c.args.atom.now in
    sym (ap (option_map (λ (n : ℕ). map_atom (λ _. n) a)) (sym c.regex.ensures ∙ c.in_default.is))

pub returns : goal.returns
returns c =
    let a = atom_in c.args.atom.now in
    ap Some c.in_ok-found.ensures
    ∙ sym (ap (option_map (λ (n : ℕ). map_atom (λ _. n) a)) (sym c.regex.ensures ∙ c.in-Some.is))

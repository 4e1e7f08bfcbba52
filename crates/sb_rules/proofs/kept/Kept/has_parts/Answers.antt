use Rattle.std.proofs.Common.{◌≡◌, ◌&&◌, map, length, is_some, ap, sym, subst, ◌∙◌}
use Rattle.std.specs.List.{list_all}
use Rattle.sb_proof.specs.Lines.{atom_in, piece_in, variable_in, summand_in}
use Rattle.sb_term.specs.Symbols.{sort_in}
use Rattle.sb_rulebook.specs.AtomRules.{is_declared_piece, is_declared_variable}
use Rattle.sb_script.specs.Sums.{Summand}
use Rattle.sb_rules.specs.Defining.{have_parts}
use Rattle.sb_rules.proofs.AtomLines.{all_mapped}
use Rattle.sb_rules.proofs.kept.Kept.has_parts.Goals as goal

pub returns-then-is_some : goal.returns-then-is_some
returns-then-is_some c =
    subst (λ a. c.are_declared.result
    ≡ have_parts (map sort_in c.args.sorts.now) c.args.self.now.regexes.order (length c.args.self.now.atoms) (atom_in a))
    (sym c.in-In.is)
    (c.are_declared.ensures
    ∙ (ap (list_all (λ p. is_declared_piece (map sort_in c.args.sorts.now) (piece_in p))) c.deref.ensures
    ∙ (sym (all_mapped (is_declared_piece (map sort_in c.args.sorts.now)) piece_in c.in-In.pieces.items)
    ∙ ap (λ b. b && list_all (is_declared_piece (map sort_in c.args.sorts.now)) (map piece_in c.in-In.pieces.items))
    (sym c.if-is_some.true ∙ (c.is_some.ensures ∙ ap is_some c.regex.ensures)))))

pub returns-in-Sum : goal.returns-in-Sum
returns-in-Sum c =
    subst (λ a. c.are_declared_summands.result
    ≡ have_parts (map sort_in c.args.sorts.now) c.args.self.now.regexes.order (length c.args.self.now.atoms) (atom_in a))
    (sym c.in-Sum.is)
    (c.are_declared_summands.ensures
    ∙ (ap (list_all (λ s. is_declared_variable (map sort_in c.args.sorts.now) (variable_in s.1))) c.deref-in-Sum.ensures.value
    ∙ sym (all_mapped (λ (s : Summand). is_declared_variable (map sort_in c.args.sorts.now) s.1) summand_in c.in-Sum.summands.items)))

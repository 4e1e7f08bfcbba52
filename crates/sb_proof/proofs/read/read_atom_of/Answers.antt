use Rattle.std.proofs.Common.{List, Ok, ◌∙◌, sym, ap}
use Rattle.std.proofs.lemmas.Result.{IfOk-from_err}
use Rattle.std.proofs.lemmas.List.{map-id}
use Rattle.sb_lit.specs.declared.clause.Lit.{Lit}
use Rattle.sb_rulebook.specs.Reading as reading
use Rattle.sb_rulebook.specs.Atoms.{bool_atom, and_atom, iff_atom}
use Rattle.sb_proof.specs.Kinds.{atom_reader}
use Rattle.sb_proof.specs.Views.{texts}
use Rattle.sb_proof.proofs.ReadFacts.{ok_made, err_made, any_made, one_made, two_made}
use Rattle.sb_proof.proofs.read.read_atom_of.Goals as goal

pub returns-in-Ok-3 : goal.returns-in-Ok-3
returns-in-Ok-3 c =
    ap (λ (xs : List Lit). Ok (and_atom xs)) (c.from_vec.ensures.items ∙ sym (map-id c.in-Ok-3.literals.items))
    ∙ ok_made _ and_atom _ _ _ c.in_ok-literals-in-And.ensures c.in-Ok-3.is
    ∙ sym (any_made reading.literal (λ xs. xs) and_atom (texts c.args.fields.now))
    ∙ ap (λ k. atom_reader k (texts c.args.fields.now)) (sym c.in-And.is)

pub returns-in_err-first-in-Iff : goal.returns-in_err-first-in-Iff
returns-in_err-first-in-Iff c = IfOk-from_err c.from_residual-in_err-first-in-Iff.result _ c.from_residual-in_err-first-in-Iff.ensures.0

pub returns-in_err-literals-in-And : goal.returns-in_err-literals-in-And
returns-in_err-literals-in-And c = IfOk-from_err c.from_residual-in_err-literals-in-And.result _ c.from_residual-in_err-literals-in-And.ensures.0

pub returns-in_err-serial-in-Bool : goal.returns-in_err-serial-in-Bool
returns-in_err-serial-in-Bool c = IfOk-from_err c.from_residual.result _ c.from_residual.ensures.0

pub returns-in_err-variable-in-Le : goal.returns-in_err-variable-in-Le
returns-in_err-variable-in-Le c = IfOk-from_err c.from_residual-in_err-variable-in-Le.result _ c.from_residual-in_err-variable-in-Le.ensures.0

pub returns-in-Err : goal.returns-in-Err
returns-in-Err c =
    err_made _ bool_atom _ _ c.in-Err.fault c.in_ok-serial-in-Bool.ensures c.in-Err.is
    ∙ sym (one_made reading.number (λ x. x) bool_atom (texts c.args.fields.now))
    ∙ ap (λ k. atom_reader k (texts c.args.fields.now)) (sym c.in-Bool.is)

pub returns-in-Err-3 : goal.returns-in-Err-3
returns-in-Err-3 c =
    err_made _ and_atom _ _ c.in-Err-3.fault c.in_ok-literals-in-And.ensures c.in-Err-3.is
    ∙ sym (any_made reading.literal (λ xs. xs) and_atom (texts c.args.fields.now))
    ∙ ap (λ k. atom_reader k (texts c.args.fields.now)) (sym c.in-And.is)

pub returns-in-Err-4 : goal.returns-in-Err-4
returns-in-Err-4 c =
    err_made _ (λ p. iff_atom p.0 p.1) _ _ c.in-Err-4.fault c.in_ok-first-in-Iff.ensures c.in-Err-4.is
    ∙ sym (two_made reading.literal reading.literal (λ x y. (x, y)) (λ p. iff_atom p.0 p.1) (texts c.args.fields.now))
    ∙ ap (λ k. atom_reader k (texts c.args.fields.now)) (sym c.in-Iff.is)

pub returns-in-Ok-4 : goal.returns-in-Ok-4
returns-in-Ok-4 c =
    ok_made _ (λ p. iff_atom p.0 p.1) _ _ _ c.in_ok-first-in-Iff.ensures c.in-Ok-4.is
    ∙ sym (two_made reading.literal reading.literal (λ x y. (x, y)) (λ p. iff_atom p.0 p.1) (texts c.args.fields.now))
    ∙ ap (λ k. atom_reader k (texts c.args.fields.now)) (sym c.in-Iff.is)

pub returns-in-Ok : goal.returns-in-Ok
returns-in-Ok c =
    ok_made _ bool_atom _ _ _ c.in_ok-serial-in-Bool.ensures c.in-Ok.is
    ∙ sym (one_made reading.number (λ x. x) bool_atom (texts c.args.fields.now))
    ∙ ap (λ k. atom_reader k (texts c.args.fields.now)) (sym c.in-Bool.is)

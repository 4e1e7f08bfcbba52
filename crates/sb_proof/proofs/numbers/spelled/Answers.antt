use Rattle.std.proofs.Common.{suc, get_or, sym, ap, ◌∙◌, drop-cons, drop, arith}
use Rattle.std.proofs.lemmas.List.{at_drop_all}
use Rattle.sb_rulebook.specs.Reading.{decimal_from}
use Rattle.sb_proof.specs.Spelled.{decimal_value, small}
use Rattle.sb_proof.proofs.NumberFacts.{decimal_digits, too_large, at_end}
use Rattle.std.proofs.lemmas.Grind.{common_steps}
use Rattle.sb_proof.proofs.numbers.spelled.Goals as goal

pub returns-in_err-n : goal.returns-in_err-n
returns-in_err-n c =
    let i = c.loop-byte.byte-index in
    let n = c.loop-byte.n in
    let field = c.args.field.now in
    c.from_residual-in_err-n.ensures
    ∙ sym (c.loop-byte.invariant.same
    ∙ ap (λ bs. small (decimal_from n bs)) (drop-cons field i 0 c.loop-byte-test.true)
    ∙ too_large 10 decimal_value decimal_from decimal_digits n (get_or field i 0) c.in_ok-decimal_digit.field-0
    (drop (suc i) field) (sym c.decimal_digit.ensures ∙ c.in_ok-decimal_digit.was) (sym c.in_err-n.ensures))

pub returns : goal.returns
returns c =
    sym (c.loop-byte.invariant.same
    ∙ at_drop_all (λ bs. small (decimal_from c.loop-byte.n bs)) c.args.field.now c.loop-byte.byte-index
    c.loop-byte-test.false
    ∙ at_end 10 decimal_value decimal_from decimal_digits c.loop-byte.n c.loop-byte.invariant.fits)

pub loop-byte-preserved : goal.loop-byte-preserved
loop-byte-preserved c = grind (arith, common_steps)

pub returns-in_err-decimal_digit : goal.returns-in_err-decimal_digit
returns-in_err-decimal_digit c = grind (arith, common_steps)

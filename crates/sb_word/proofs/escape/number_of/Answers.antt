use Rattle.std.proofs.Common.{◌≡◌, ℕ, Option, None, sym, refl, ◌∙◌, arith, rules}
use Rattle.sb_word.proofs.FrontLemmas.{small_number, one_more_digit, no_number, number_whole}
use Rattle.sb_word.proofs.escape.number_of.Goals as goal

pub overflow_mul-number : goal.overflow_mul-number
overflow_mul-number c =
    omega (
      arith,
      small_number c.args.digits.now c.loop-digit.digit-index c.loop-digit.number c.loop-digit.invariant
          (omega (arith, c.loop-digit-test.true, c.requires)),
    )

pub returns-in_err-number : goal.returns-in_err-number
returns-in_err-number c =
    let none : ◌≡◌ {A = Option ℕ} c.from_residual.result None = search rules in
    none
    ∙ sym (no_number c.args.digits.now c.loop-digit.digit-index c.loop-digit.number c.loop-digit.invariant
    c.loop-digit-test.true (sym c.hex_value.ensures.value ∙ c.in_err-number.was))

pub loop-digit-preserved : goal.loop-digit-preserved
loop-digit-preserved c =
    one_more_digit c.args.digits.now c.loop-digit.digit-index c.loop-digit.number c.in_ok-number.field-0 _
    c.loop-digit.invariant c.loop-digit-test.true (sym c.in_ok-number.ensures.value) c.in_ok-number.ensures.small refl

pub returns : goal.returns
returns c =
    number_whole c.args.digits.now c.loop-digit.digit-index c.loop-digit.number c.loop-digit.invariant
    c.loop-digit-test.false

use Rattle.std.proofs.Common.{◌+◌, ◌∙◌, ◌&&◌, sym, ap, refl, drop, length, arith}
use Rattle.std.proofs.lemmas.Slice.{between_to_end}
use Rattle.sb_reader.specs.Tokens.{some_pass, is_digit}
use Rattle.sb_reader.proofs.Positions.{no_decimal, decimal_at}
use Rattle.sb_reader.proofs.kind.is_decimal.Goals as goal

pub returns-then-point-bytes : goal.returns-then-point-bytes
returns-then-point-bytes c = no_decimal c.args.bytes.now _ c.point_or_end-point.ensures.at c.if-point-bytes.true

pub returns-then-is_numeral : goal.returns-then-is_numeral
returns-then-is_numeral c =
    let xs = c.args.bytes.now in
    let i = c.point_or_end-point.result in
    let fraction = c.some_digits.ensures ∙ ap (some_pass is_digit) (between_to_end xs (i + 1) (length xs) (omega arith))
    in
    ap (λ b. b && c.some_digits.result) (sym c.if-is_numeral.true)
    ∙ decimal_at xs i _ _ c.point_or_end-point.ensures.at c.is_numeral.ensures fraction

pub returns-else-is_numeral : goal.returns-else-is_numeral
returns-else-is_numeral c =
    let xs = c.args.bytes.now in
    let i = c.point_or_end-point.result in
    c.if-is_numeral.false ∙ ap (λ b. b && some_pass is_digit (drop (i + 1) xs)) (sym c.if-is_numeral.false)
    ∙ decimal_at xs i _ _ c.point_or_end-point.ensures.at c.is_numeral.ensures refl

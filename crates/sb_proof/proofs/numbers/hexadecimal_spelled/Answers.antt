use Rattle.std.proofs.Common.{suc, get_or, sym, ap, ◌∙◌, add-one, drop-cons, drop}
use Rattle.std.proofs.lemmas.List.{at_drop_all}
use Rattle.sb_word.specs.Literals.{hex_value, hex_number_from}
use Rattle.sb_proof.specs.Spelled.{small}
use Rattle.sb_proof.proofs.NumberFacts.{hexadecimal_digits, no_digit, too_large, one_more, small-fits, at_end}
use Rattle.sb_proof.proofs.numbers.hexadecimal_spelled.Goals as goal

pub returns-in_err-hexadecimal_digit : goal.returns-in_err-hexadecimal_digit
returns-in_err-hexadecimal_digit c =
    let i = c.loop-byte.byte-index in
    let n = c.loop-byte.n in
    let field = c.args.field.now in
    c.from_residual.ensures
    ∙ sym (c.loop-byte.invariant.same
    ∙ ap (λ bs. small (hex_number_from n bs)) (drop-cons field i 0 c.loop-byte-test.true)
    ∙ no_digit 16 hex_value hex_number_from hexadecimal_digits n (get_or field i 0) (drop (suc i) field)
    (sym c.in_err-hexadecimal_digit.ensures))

pub returns-in_err-n : goal.returns-in_err-n
returns-in_err-n c =
    let i = c.loop-byte.byte-index in
    let n = c.loop-byte.n in
    let field = c.args.field.now in
    c.from_residual-in_err-n.ensures
    ∙ sym (c.loop-byte.invariant.same
    ∙ ap (λ bs. small (hex_number_from n bs)) (drop-cons field i 0 c.loop-byte-test.true)
    ∙ too_large 16 hex_value hex_number_from hexadecimal_digits n (get_or field i 0) c.in_ok-hexadecimal_digit.field-0
    (drop (suc i) field) (sym c.hexadecimal_digit.ensures ∙ c.in_ok-hexadecimal_digit.was)
    (sym c.in_err-n.ensures))

pub loop-byte-preserved : goal.loop-byte-preserved
loop-byte-preserved c =
    let i = c.loop-byte.byte-index in
    let n = c.loop-byte.n in
    let field = c.args.field.now in
    let d = c.in_ok-hexadecimal_digit.field-0 in
    record {
      same =
          c.loop-byte.invariant.same
          ∙ ap (λ bs. small (hex_number_from n bs)) (drop-cons field i 0 c.loop-byte-test.true)
          ∙ ap small (one_more 16 hex_value hex_number_from hexadecimal_digits n (get_or field i 0) d c.in_ok-n.n
          (drop (suc i) field) (sym c.hexadecimal_digit.ensures ∙ c.in_ok-hexadecimal_digit.was)
          (sym c.in_ok-n.ensures))
          ∙ ap (λ k. small (hex_number_from c.in_ok-n.n (drop k field))) (sym (add-one i));
      fits = small-fits _ c.in_ok-n.n (sym c.in_ok-n.ensures);
    }

pub returns : goal.returns
returns c =
    sym (c.loop-byte.invariant.same
    ∙ at_drop_all (λ bs. small (hex_number_from c.loop-byte.n bs)) c.args.field.now c.loop-byte.byte-index
    c.loop-byte-test.false
    ∙ at_end 16 hex_value hex_number_from hexadecimal_digits c.loop-byte.n c.loop-byte.invariant.fits)

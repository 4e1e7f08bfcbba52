use Rattle.std.proofs.Common.{[]}
use Rattle.sb_rulebook.specs.Reading.{hexadecimal_number}
use Rattle.sb_proof.proofs.EachFacts.{each_pushed, each_fails, each_done}
use Rattle.std.proofs.lemmas.Result.{IfOk-from_err}
use Rattle.sb_proof.proofs.shapes.each_character.Goals as goal

pub loop-field-preserved : goal.loop-field-preserved
loop-field-preserved c =
    each_pushed hexadecimal_number (λ n. n) (λ ns. ns) _ c.args.fields.now c.loop-field.field-index _
    c.loop-field.characters.items c.loop-field.invariant c.in-Some.character c.push.new.self.items
    c.loop-field-test.true c.in-Some.ensures c.in_ok-push.ensures.items

pub returns-in_default : goal.returns-in_default
returns-in_default c =
    each_fails hexadecimal_number (λ n. n) (λ ns. ns) _ c.args.fields.now c.loop-field.field-index _
    c.loop-field.characters.items c.loop-field.invariant c.loop-field-test.true c.in_default.ensures

pub returns : goal.returns
returns c =
    each_done hexadecimal_number (λ n. n) (λ ns. ns) _ c.args.fields.now c.loop-field.field-index
    (record { ref_ptr = (0, 0); now = [] }) c.loop-field.characters.items c.loop-field.invariant
    c.loop-field-test.false

pub returns-in_err-push : goal.returns-in_err-push
returns-in_err-push c = IfOk-from_err c.from_residual.result _ c.from_residual.ensures.0

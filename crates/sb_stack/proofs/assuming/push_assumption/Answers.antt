use Rattle.std.proofs.Common.{◌≡◌, ◌++◌, map, OnOk, ap, subst, ◌∙◌}
use Rattle.sb_script.specs.Replies.{name_of}
use Rattle.sb_stack.specs.Values.{constant_in}
use Rattle.sb_stack.proofs.AssumedFacts.{said_by}
use Rattle.sb_stack.proofs.assuming.push_assumption.Goals as goal

pub returns : goal.returns
returns c =
    let cs = map constant_in c.args.constants.now in
    subst (λ said. OnOk c.push_signed.result (c.push_signed.new.text.items ≡ c.args.text.now.items ++ said))
    (said_by cs c.args.given.now c.name_of-name.result.now c.is_positive.result
    (c.name_of-name.ensures ∙ ap (name_of cs) c.serial.ensures) c.is_positive.ensures) c.push_signed.ensures

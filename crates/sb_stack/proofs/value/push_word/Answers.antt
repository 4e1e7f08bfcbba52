use Rattle.std.proofs.Common.{[], get_or}
use Rattle.sb_word.specs.Literals.{literal_text}
use Rattle.sb_stack.proofs.Printing.{in_quotes}
use Rattle.sb_stack.proofs.value.push_word.Goals as goal

pub returns : goal.returns
returns c =
    in_quotes c.args.text.now.items _ _ _ (literal_text (get_or c.args.words.now c.args.place []))
    c.in_ok-push.ensures.items c.in_ok-push_literal_at.ensures c.in_ok-push-2.ensures.items

use Rattle.std.proofs.Common.{codes, ◌++◌}
use Rattle.sb_script.specs.Names.{name_text}
use Rattle.sb_term.specs.Symbols.{sort_in}
use Rattle.sb_stack.specs.Values.{value_printed}
use Rattle.sb_stack.proofs.Printing.{appended}
use Rattle.sb_stack.proofs.value.push_answer.Goals as goal

pub returns : goal.returns
returns c =
    let constant = c.args.constant.now in
    let value = value_printed c.args.words.now c.args.truths.now constant.serial.0 (sort_in constant.sort) in
    let by_value = value ++ codes ")" in
    let by_name = name_text constant.name.now ++ (codes " " ++ by_value) in
    appended c.args.text.now.items _ _ (codes "(") by_name c.in_ok-push.ensures.items
    (appended c.push.new.self.items _ _ (name_text constant.name.now) (codes " " ++ by_value) c.in_ok-push_name.ensures
    (appended c.push_name.new.text.items _ _ (codes " ") by_value c.in_ok-push-2.ensures.items
    (appended c.push-2.new.self.items _ _ value (codes ")") c.in_ok-push_value.ensures c.in_ok-push-3.ensures.items)))

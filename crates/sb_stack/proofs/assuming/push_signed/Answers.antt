use Rattle.std.proofs.Common.{◌≡◌, codes, ◌++◌, OnOk, sym, ap, subst, ◌∙◌}
use Rattle.sb_script.specs.Names.{name_text}
use Rattle.sb_stack.specs.Assumptions.{assumption_said}
use Rattle.sb_stack.proofs.Printing.{appended}
use Rattle.sb_stack.proofs.assuming.push_signed.Goals as goal

pub returns-then-positive : goal.returns-then-positive
returns-then-positive c =
    subst (λ b. OnOk c.push_name.result
    (c.push_name.new.text.items ≡ c.args.text.now.items ++ assumption_said (c.args.name.now, b)))
    (sym c.if-positive.true) c.push_name.ensures

pub returns : goal.returns
returns c =
    let old = c.args.text.now.items in
    let name = name_text c.args.name.now in
    appended old _ _ (codes "(not ") (name ++ codes ")") c.in_ok-extend_from_slice.ensures.items
    (appended c.extend_from_slice.new.self.items _ _ name (codes ")") c.in_ok-push_name.ensures
    c.in_ok-push.ensures.items)
    ∙ ap (λ b. old ++ assumption_said (c.args.name.now, b)) (sym c.if-positive.false)

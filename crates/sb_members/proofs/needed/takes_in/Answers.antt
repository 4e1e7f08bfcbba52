use Rattle.std.proofs.Common.{ap, sym, ◌∙◌}
use Rattle.sb_lang.specs.Language.{language}
use Rattle.sb_regex.specs.Nodes.{node_regex}
use Rattle.sb_regex.specs.Numbered.{regex_at}
use Rattle.sb_members.proofs.Stronger.{every_word}
use Rattle.sb_members.proofs.needed.takes_in.Goals as goal

pub is_row-requires-clause-is : goal.is_row-requires-clause-is
is_row-requires-clause-is c = ap (node_regex c.args.arena.now) (sym c.in-Star.is) ∙ c.node.ensures.value

pub returns-in-Not : goal.returns-in-Not
returns-in-Not c = λ yes.
    let rs = c.args.arena.now in
    every_word rs c.args.head c.in-Not.part (language (regex_at rs c.args.regex))
    (ap (node_regex rs) (sym c.in-Not.is) ∙ c.node.ensures.value) (c.is_none.ensures yes)

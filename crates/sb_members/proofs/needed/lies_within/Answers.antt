use Rattle.std.proofs.Common.{ap, sym, subst, ◌∙◌}
use Rattle.sb_class.specs.Ranges.{in_ranges}
use Rattle.sb_lang.specs.Language.{language}
use Rattle.sb_lang.specs.Languages.{one_character}
use Rattle.sb_regex.specs.Nodes.{node_regex}
use Rattle.sb_regex.specs.Numbered.{regex_at}
use Rattle.sb_members.specs.Strongest.{IsWithin}
use Rattle.sb_members.proofs.Stronger.{set_within}
use Rattle.sb_members.proofs.needed.lies_within.Goals as goal

pub returns-in-Set : goal.returns-in-Set
returns-in-Set c = λ yes.
    let rs = c.args.arena.now in
    let M = language (regex_at rs c.args.other) in
    set_within rs c.args.regex c.in-Set.ranges.items M
    (ap (node_regex rs) (sym c.in-Set.is) ∙ c.node.ensures.value)
    (subst (λ ranges. IsWithin (one_character (in_ranges ranges)) M) c.as_slice.ensures.value
    (c.set_lies_within.ensures yes))

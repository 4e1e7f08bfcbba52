use Rattle.sb_lang.specs.Language.{language}
use Rattle.sb_regex.specs.Numbered.{regex_at}
use Rattle.sb_members.proofs.Stronger.{alone_within}
use Rattle.sb_members.proofs.needed.set_lies_within.Goals as goal

pub returns-in-len1 : goal.returns-in-len1
returns-in-len1 c = λ yes.
    alone_within c.args.ranges.now (0, 0) (language (regex_at c.args.arena.now c.args.other)) c.in-len1.len_at_least
    c.in-len1.len_below (c.range_lies_within.ensures yes)

use Rattle.sb_regex.proofs.CallerLemmas.{extends_more, names_below}
use Rattle.sb_values.proofs.Exploring.{explores_arena}
use Rattle.sb_values.proofs.look.every_word.Goals as goal

pub returns-in_err-none : goal.returns-in_err-none
returns-in_err-none c = explores_arena c.graph_stays.ensures c.none.ensures.extends c.requires

pub not-requires : goal.not-requires
not-requires c = names_below c.none.new.self c.in_ok-none.none _ c.in_ok-none.ensures.ok

pub returns : goal.returns
returns c =
    explores_arena c.graph_stays.ensures
    (extends_more c.args.arena.now c.none.new.self c.not.new.self c.none.ensures.extends c.not.ensures.extends) c.requires

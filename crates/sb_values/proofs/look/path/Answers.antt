use Rattle.sb_values.proofs.Exploring.{explores_arena}
use Rattle.sb_values.proofs.look.path.Goals as goal

pub returns-then-not-is_known : goal.returns-then-not-is_known
returns-then-not-is_known c = explores_arena c.graph_stays.ensures c.none.ensures.extends c.requires

pub returns : goal.returns
returns c = explores_arena c.graph_stays.ensures c.path.ensures.extends c.requires

use Rattle.std.proofs.Common.{◌∙◌, ap}
use Rattle.sb_reader.specs.Lexing.{token_in}
use Rattle.sb_reader.proofs.Shorter.{shorter_behind}
use Rattle.sb_reader.proofs.token.next_token.Goals as goal

pub returns-clause-lexed : goal.returns-clause-lexed
returns-clause-lexed c = c.token_here.ensures ∙ ap token_in c.skip_gap.ensures

pub returns-clause-shorter : goal.returns-clause-shorter
returns-clause-shorter c = shorter_behind c.args.bytes.now _ (c.token_here.ensures ∙ ap token_in c.skip_gap.ensures)

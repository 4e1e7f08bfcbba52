use Rattle.std.proofs.Common.{sym, ◌∙◌}
use Rattle.sb_graph.proofs.WalkSteps.{put_new, put_old}
use Rattle.sb_graph.proofs.queue.Queue.put.Goals as goal

pub returns-in_ok-insert : goal.returns-in_ok-insert
returns-in_ok-insert c =
    put_new c.args.self.now c.self.inside.entries.entries c.insert.new.self.entries c.args.regex
    (c.args.before, c.args.character) c.self.view_is (sym c.contains_key.ensures ∙ c.if-not-contains_key.true)
    c.in_ok-insert.ensures.entries

pub returns-else-not-contains_key : goal.returns-else-not-contains_key
returns-else-not-contains_key c =
    put_old c.args.self.now c.self.inside.entries.entries c.args.regex (c.args.before, c.args.character) c.self.view_is
    (sym c.contains_key.ensures ∙ c.if-not-contains_key.false)

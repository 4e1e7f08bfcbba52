use Rattle.std.proofs.Common.{subst, sym}
use Rattle.sb_check.specs.Running.{WrongWords}
use Rattle.sb_check.proofs.Written.{words_refused}
use Rattle.sb_check.proofs.check.refuse_words.Goals as goal

pub returns-clause-text : goal.returns-clause-text
returns-clause-text g c =
    subst (λ s. WrongWords s (g.W.World.outside c.args.world.now) (g.W.World.outside c.write_all.new.world))
    (sym c.written.ensures)
    (words_refused c.write_all.result c.args.text.now (g.W.World.outside c.args.world.now)
    (g.W.World.outside c.write_all.new.world) c.write_all.ensures.ok c.write_all.ensures.err)

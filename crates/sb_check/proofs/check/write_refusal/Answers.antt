use Rattle.std.proofs.Common.{refl, subst, sym, ◌∙◌}
use Rattle.sb_rulebook.specs.Judging.{refused}
use Rattle.sb_rulebook.specs.Accepted.{verdict_lines}
use Rattle.sb_check.specs.Reasons.{reason_in}
use Rattle.sb_check.specs.Running.{RunOf}
use Rattle.sb_check.specs.Texts.{refusal_line}
use Rattle.sb_check.proofs.Written.{IsWritten, refusal_written, writes_verdicts}
use Rattle.sb_check.proofs.check.write_refusal.Goals as goal

pub returns-in-Ok-clause-run : goal.returns-in-Ok-clause-run
returns-in-Ok-clause-run g c limit script proof old has =
    subst (λ s. RunOf s limit script proof old (g.W.World.outside c.write_all.new.world)) (sym c.written.ensures)
    (refusal_written c.write_all.result limit script proof c.args.n (reason_in c.args.reason) old
    (g.W.World.outside c.args.world.now) (g.W.World.outside c.write_all.new.world)
    (subst (λ text. IsWritten c.write_all.result text (g.W.World.outside c.args.world.now)
    (g.W.World.outside c.write_all.new.world)) (c.as_bytes.ensures.value ∙ c.in-Ok.ensures)
    (c.write_all.ensures.ok, c.write_all.ensures.err)) has)

pub returns-in-Err-clause-run : goal.returns-in-Err-clause-run
returns-in-Err-clause-run g c limit script proof old has =
    writes_verdicts limit script proof (refused has.0 c.args.n (reason_in c.args.reason)) (verdict_lines 1 has.0)
    (refusal_line c.args.n (reason_in c.args.reason)) old (g.W.World.outside c.args.world.now) has.1 refl

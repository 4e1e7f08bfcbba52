use Rattle.std.proofs.Common.{map, string_bytes, refl, ap, ◌∙◌}
use Rattle.sb_world.specs.Worlds.{calm_outside}
use Rattle.sb_both.proofs.Solved.{answered, proved}
use Rattle.sb_both.proofs.both.solve.Goals as goal

pub returns-clause-answered : goal.returns-clause-answered
returns-clause-answered c =
    answered c.solve_top.result (map string_bytes c.deref.result.now) (calm_outside c.add_file.new.self)
    c.args.script.now
    (ap (map string_bytes) c.deref.ensures.value ∙ c.in_ok-words.ensures) c.in_ok-add_file.ensures.ok.added
    c.solve_top.ensures.complete

pub returns-clause-proved : goal.returns-clause-proved
returns-clause-proved c =
    proved c.solved_entries.ensures.to_exit c.solved_entries.ensures.whole c.printed_proof_is_accepted.ensures
    c.solve_top.result (map string_bytes c.deref.result.now) (calm_outside c.add_file.new.self) (calm_outside c.solve_top.new.world)
    c.args.script.now _ (ap (map string_bytes) c.deref.ensures.value ∙ c.in_ok-words.ensures)
    c.in_ok-add_file.ensures.ok.added refl c.solve_top.ensures.certified

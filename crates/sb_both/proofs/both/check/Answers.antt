use Rattle.std.proofs.Common.{map, string_bytes, ap, ◌∙◌}
use Rattle.sb_world.specs.Worlds.{calm_outside}
use Rattle.sb_both.proofs.Checked.{both_held, checked, means}
use Rattle.sb_both.proofs.both.check.Goals as goal

pub returns-clause-accepted : goal.returns-clause-accepted
returns-clause-accepted c =
    checked c.check_top.result (map string_bytes c.deref.result.now) c.args.script.now
    c.args.proof.now (calm_outside c.add_file-2.new.self) (calm_outside c.check_top.new.world)
    (ap (map string_bytes) c.deref.ensures.value ∙ c.in_ok-words.ensures)
    (both_held (calm_outside c.args.world.now) (calm_outside c.add_file.new.self) (calm_outside c.add_file-2.new.self)
    c.args.script.now c.args.proof.now c.in_ok-add_file.ensures.ok c.in_ok-add_file-2.ensures.ok)
    c.check_top.ensures.run c.check_top.ensures.faults c.check_top.ensures.refused

pub returns-clause-means : goal.returns-clause-means
returns-clause-means c =
    means c.check_top.result (map string_bytes c.deref.result.now) c.args.script.now
    c.args.proof.now (calm_outside c.add_file-2.new.self) (calm_outside c.check_top.new.world)
    (ap (map string_bytes) c.deref.ensures.value ∙ c.in_ok-words.ensures)
    (both_held (calm_outside c.args.world.now) (calm_outside c.add_file.new.self) (calm_outside c.add_file-2.new.self)
    c.args.script.now c.args.proof.now c.in_ok-add_file.ensures.ok c.in_ok-add_file-2.ensures.ok)
    c.check_top.ensures.means

use Rattle.std.proofs.Common.{map, string_bytes, sym}
use Rattle.sb_check.proofs.Opening.{run_asked, accepted_means, refused_means, complete_by}
use Rattle.sb_check.proofs.check.check_within.Goals as goal

pub returns-in-Ok-clause-run : goal.returns-in-Ok-clause-run
returns-in-Ok-clause-run g c _ =
    run_asked (map string_bytes c.args.words.now) c.args.limit c.in-Ok.asked.script.now c.in-Ok.asked.proof.now
    c.check_files.result (g.W.World.outside c.args.world.now) (g.W.World.outside c.check_files.new.world)
    (sym c.in-Ok.ensures.script) (sym c.in-Ok.ensures.proof) c.check_files.ensures.run

pub returns-in-Ok-clause-means : goal.returns-in-Ok-clause-means
returns-in-Ok-clause-means g c accepted asked script proof is held =
    accepted_means c.check_files.result asked script proof (g.W.World.outside c.args.world.now)
    (g.W.World.outside c.check_files.new.world) c.accepted_script_is_true.ensures accepted
    (run_asked (map string_bytes c.args.words.now) c.args.limit c.in-Ok.asked.script.now c.in-Ok.asked.proof.now
    c.check_files.result (g.W.World.outside c.args.world.now) (g.W.World.outside c.check_files.new.world)
    (sym c.in-Ok.ensures.script) (sym c.in-Ok.ensures.proof) c.check_files.ensures.run asked is) held

pub returns-in-Ok-clause-refused : goal.returns-in-Ok-clause-refused
returns-in-Ok-clause-refused g c refused asked script proof is held =
    refused_means c.check_files.result asked script proof (g.W.World.outside c.args.world.now)
    (g.W.World.outside c.check_files.new.world) c.one_outcome.ensures refused
    (run_asked (map string_bytes c.args.words.now) c.args.limit c.in-Ok.asked.script.now c.in-Ok.asked.proof.now
    c.check_files.result (g.W.World.outside c.args.world.now) (g.W.World.outside c.check_files.new.world)
    (sym c.in-Ok.ensures.script) (sym c.in-Ok.ensures.proof) c.check_files.ensures.run asked is) held

pub returns-in-Ok-clause-complete : goal.returns-in-Ok-clause-complete
returns-in-Ok-clause-complete g c taken no_fault asked script proof is held bounded below =
    complete_by c.check_files.result asked script proof (g.W.World.outside c.args.world.now)
    (g.W.World.outside c.check_files.new.world) (g.W.World.faults c.args.world.now)
    (g.W.World.faults c.check_files.new.world)
    (run_asked (map string_bytes c.args.words.now) c.args.limit c.in-Ok.asked.script.now c.in-Ok.asked.proof.now
    c.check_files.result (g.W.World.outside c.args.world.now) (g.W.World.outside c.check_files.new.world)
    (sym c.in-Ok.ensures.script) (sym c.in-Ok.ensures.proof) c.check_files.ensures.run asked is)
    c.check_files.ensures.faults no_fault held c.args.limit is.2 bounded below

use Rattle.std.proofs.Common.{subst, sym, refl}
use Rattle.std.proofs.lemmas.Result.{IfOk-from_err, err_from_is_err_and}
use Rattle.sb_regex.specs.Numbered.{AllNumbers}
use Rattle.sb_deriv.specs.Pieces.{targets_of}
use Rattle.sb_trace.specs.Defining.{AreClassesOf}
use Rattle.sb_trace.proofs.Exits.{counts_none, counts_on}
use Rattle.sb_trace.proofs.Growing.{stays_same}
use Rattle.sb_trace.proofs.trace.Trace.classes.Goals as goal

pub add_classes-requires-clause-targets : goal.add_classes-requires-clause-targets
add_classes-requires-clause-targets g c =
    subst (λ ps. AllNumbers c.args.arena.now (targets_of ps)) (sym c.pieces-pieces.ensures.value) c.requires

pub returns-in_err-classes : goal.returns-in_err-classes
returns-in_err-classes g c =
    let x = c.from_residual in
    let p = err_from_is_err_and x.result x.ensures.1 in
    record {
      classes = IfOk-from_err x.result _ x.ensures.0;
      puts = IfOk-from_err x.result _ x.ensures.0;
      stays = stays_same c.args.self.now;
      expanded_stay = λ n. refl;
      dead_stay = λ n. refl;
      counts = counts_none x.result p.0 _ p.1 p.2;
    }

pub returns-in_err-add_classes : goal.returns-in_err-add_classes
returns-in_err-add_classes g c =
    let x = c.from_residual-in_err-add_classes in
    let p = err_from_is_err_and x.result x.ensures.1 in
    let h = c.in_err-add_classes.ensures in
    record {
      classes = IfOk-from_err x.result _ x.ensures.0;
      puts = IfOk-from_err x.result _ x.ensures.0;
      stays = h.stays;
      expanded_stay = h.expanded_stay;
      dead_stay = h.dead_stay;
      counts = counts_on (Unit {0}) x.result p.0 _ _ _ p.1 p.2 h.counts;
    }

pub returns : goal.returns
returns g c =
    let h = c.in_ok-add_classes.ensures in
    record {
      classes = subst (λ ps. AreClassesOf c.add_classes.new.self.order ps c.add_classes.new.classes.items)
          c.pieces-pieces.ensures.value h.classes;
      puts = h.puts;
      stays = h.stays;
      expanded_stay = h.expanded_stay;
      dead_stay = h.dead_stay;
      counts = h.counts;
    }

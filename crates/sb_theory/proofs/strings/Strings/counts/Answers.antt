use Rattle.sb_theory.proofs.Words.{List, arith, refl, subst, sym, ◌∙◌, ℕ, spent_none, IfOk-from_err}
use Rattle.std.specs.List.{Contains}
use Rattle.sb_theory.proofs.Widening.{base_counted, base_put, keys_stay}
use Rattle.sb_theory.proofs.strings.Strings.counts.Goals as goal

pub returns-then-contains : goal.returns-then-contains
returns-then-contains c = record {
  ok = base_counted c.args.self.now c.args.regex (sym c.contains.ensures ∙ c.if-contains.true);
  counts = record { is = refl; stay = λ n there. there; steps = spent_none c.args.budget.now; quiet = λ same. refl };
}

pub returns-then-not-tick : goal.returns-then-not-tick
returns-then-not-tick c = record {
  ok = c.tick.ensures.ticks.spent c.if-not-tick.true;
  counts = record { is = refl; stay = λ n there. there; steps = c.tick.ensures.steps; quiet = λ same. refl };
}

pub returns-in_err-insert_full : goal.returns-in_err-insert_full
returns-in_err-insert_full c =
    let more = c.tick.ensures.ticks.more c.if-not-tick.false in record {
      ok = IfOk-from_err c.from_residual.result _ c.from_residual.ensures.0;
      counts = record {
        is = refl;
        stay = λ n there. subst (λ (ks : List ℕ). Contains ks n) (sym c.in_err-insert_full.ensures.err) there;
        steps = c.tick.ensures.steps;
        quiet = λ same. absurd (omega (arith, same, more));
      };
    }

pub returns : goal.returns
returns c =
    let more = c.tick.ensures.ticks.more c.if-not-tick.false in
    let keys = c.in_ok-insert_full.ensures.keys in record {
      ok = base_put (record c.args.self.now { expanded = c.insert_full.new.self }) c.args.self.now.expanded.keys
          c.args.regex keys;
      counts = record {
        is = refl;
        stay = keys_stay c.args.self.now.expanded.keys c.insert_full.new.self.keys c.args.regex keys;
        steps = c.tick.ensures.steps;
        quiet = λ same. absurd (omega (arith, same, more));
      };
    }

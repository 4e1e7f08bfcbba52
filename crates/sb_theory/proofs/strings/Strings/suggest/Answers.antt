use Rattle.sb_theory.proofs.Words.{[], ◌∙◌, ◌∷◌, ap, arith, length, refl, IfOk-from_err, are_atoms, length-append}
use Rattle.sb_theory.proofs.Moving.{holds_moved, keeps_both, keeps_grown, keeps_none}
use Rattle.sb_theory.proofs.strings.Strings.suggest.Goals as goal

pub returns-in_err-literals : goal.returns-in_err-literals
returns-in_err-literals c =
    let r = c.from_residual in
    record { holds = IfOk-from_err r.result _ r.ensures.0; taken = refl; keeps = keeps_none c.requires }

pub returns-then-is_same : goal.returns-then-is_same
returns-then-is_same c = record { holds = c.requires; taken = refl; keeps = keeps_none c.requires }

pub values-requires : goal.values-requires
values-requires c = record {
  known = ap (are_atoms c.args.self.now.atoms) c.deref-3.ensures.value ∙ c.in_ok-literals.ensures;
  regexes = c.requires.regexes;
  formed = c.requires.formed;
  store = c.requires.store;
}

pub returns-in_err-found : goal.returns-in_err-found
returns-in_err-found c =
    let r = c.from_residual-in_err-found in
    record {
      holds = IfOk-from_err r.result _ r.ensures.0;
      taken = refl;
      keeps = keeps_grown c.requires c.in_err-found.ensures refl refl;
    }

pub loop-pair-init : goal.loop-pair-init
loop-pair-init c =
    let keeps = keeps_grown c.requires c.in_ok-found.ensures refl refl in
    record { holds = holds_moved keeps refl refl c.requires; taken = refl; keeps = keeps }

pub give-requires : goal.give-requires
give-requires c = c.loop-pair.invariant.holds

pub loop-pair-preserved : goal.loop-pair-preserved
loop-pair-preserved c =
    let before = c.loop-pair.invariant in
    let h = c.in_ok-give.ensures in
    record { holds = h.holds; taken = h.taken ∙ before.taken; keeps = keeps_both before.keeps h.keeps }

pub loop-pair-smaller : goal.loop-pair-smaller
loop-pair-smaller c =
    omega (arith, ap length c.in-Some.ensures.items ∙ length-append c.pop.new.self.items (c.in-Some.pair ∷ []))

pub returns-in_err-give : goal.returns-in_err-give
returns-in_err-give c =
    let r = c.from_residual-in_err-give in
    let before = c.loop-pair.invariant in
    let h = c.in_err-give.ensures in
    record {
      holds = IfOk-from_err r.result _ r.ensures.0;
      taken = h.taken ∙ before.taken;
      keeps = keeps_both before.keeps h.keeps;
    }

pub returns : goal.returns
returns c = record {
  holds = c.loop-pair.invariant.holds;
  taken = c.loop-pair.invariant.taken;
  keeps = c.loop-pair.invariant.keeps;
}

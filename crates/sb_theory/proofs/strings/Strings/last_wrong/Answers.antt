use Rattle.sb_theory.proofs.Words.{◌-◌, ◌∙◌, List, ap, arith, get_or, length, refl, sym, IfOk-from_err, Assigned}
use Rattle.sb_theory.proofs.Moving.{holds_moved, keeps_both, keeps_none}
use Rattle.sb_theory.proofs.Verdicts.{fine_end, fine_more, judged_fine, wrong_at, wrong_stays}
use Rattle.sb_theory.proofs.strings.Strings.last_wrong.Goals as goal

pub loop-place-init : goal.loop-place-init
loop-place-init c =
    let long = ap length c.literals-entries.ensures.value in
    record {
      holds = c.requires;
      keeps = keeps_none c.requires;
      rows = refl;
      noted = refl;
      within = omega (arith, long);
      fine = fine_end c.args.self.now c.args.trail.now.literals (length c.literals-entries.result.now) long;
    }

pub is_wrong-requires : goal.is_wrong-requires
is_wrong-requires c = c.loop-place.invariant.holds

pub loop-place-preserved : goal.loop-place-preserved
loop-place-preserved c =
    let x = c.args.self.now in
    let before = c.loop-place.invariant in
    let h = c.in_ok-is_wrong.ensures in
    let keeps = keeps_both before.keeps h.keeps in
    let rows = h.rows ∙ before.rows in
    let noted = h.noted ∙ before.noted in
    let e = c.index-entries-place.result in
    let l = c.literal-literal.result in
    let i = c.loop-place.place - 1 in
    record {
      holds = holds_moved h.keeps h.rows h.noted before.holds;
      keeps = keeps;
      rows = rows;
      noted = noted;
      within = omega (arith, before.within);
      fine = fine_more x c.args.trail.now.literals i c.loop-place.place e l (omega (arith, c.loop-place-test.true))
          (omega (arith, c.loop-place-test.true, before.within))
          (c.index-entries-place.is
          ∙ ap (λ (es : List Assigned). get_or es i e) c.literals-entries.ensures.value) c.literal-literal.ensures
          (sym (wrong_stays l c.requires keeps rows noted) ∙ sym h.ok ∙ c.if-branch.false) before.fine;
    }

pub returns-then-branch : goal.returns-then-branch
returns-then-branch c =
    let before = c.loop-place.invariant in
    let h = c.in_ok-is_wrong.ensures in
    let e = c.index-entries-place.result in
    let l = c.literal-literal.result in
    let i = c.loop-place.place - 1 in
    record {
      ok = wrong_at c.is_wrong.new.self c.args.trail.now.literals i e l
          (holds_moved h.keeps h.rows h.noted before.holds) (omega (arith, c.loop-place-test.true, before.within))
          (c.index-entries-place.is
          ∙ ap (λ (es : List Assigned). get_or es i e) c.literals-entries.ensures.value) c.literal-literal.ensures
          (sym h.ok ∙ c.if-branch.true);
      rows = h.rows ∙ before.rows;
      noted = h.noted ∙ before.noted;
      keeps = keeps_both before.keeps h.keeps;
    }

pub returns-in_err-is_wrong : goal.returns-in_err-is_wrong
returns-in_err-is_wrong c =
    let r = c.from_residual in
    let before = c.loop-place.invariant in
    let h = c.in_err-is_wrong.ensures in
    record {
      ok = IfOk-from_err r.result _ r.ensures.0;
      rows = h.rows ∙ before.rows;
      noted = h.noted ∙ before.noted;
      keeps = keeps_both before.keeps h.keeps;
    }

pub returns : goal.returns
returns c =
    let before = c.loop-place.invariant in
    record {
      ok = judged_fine c.args.trail.now.literals c.loop-place.place c.requires before.holds before.keeps before.rows
          before.noted (omega (arith, c.loop-place-test.false)) before.fine;
      rows = before.rows;
      noted = before.noted;
      keeps = before.keeps;
    }

use Rattle.sb_theory.proofs.Words.{◌∙◌, List, ap, arith, length, refl, subst, HasClash, IfOk-from_err, Intake, IsSettled, Serial, false≢true, is_in, regexes_same, same_Some, take_all}
use Rattle.sb_theory.proofs.Moving.{entries_stay, keeps_both, keeps_grown, left_kept, looks_both, looks_none}
use Rattle.sb_theory.proofs.Standing.{rows_settled, whole_more}
use Rattle.sb_theory.proofs.strings.Strings.first_clash.Goals as goal

pub loop-place-init : goal.loop-place-init
loop-place-init c = record {
  holds = c.requires;
  looks = looks_none c.requires;
  whole = λ y none. absurd (false≢true none);
}

pub at-serial-requires : goal.at-serial-requires
at-serial-requires c = omega (arith, c.loop-place-test.true, c.len.ensures)

pub loop-place-preserved : goal.loop-place-preserved
loop-place-preserved c =
    let before = c.loop-place.invariant in
    let h = c.in_ok-settles.ensures in
    record {
      holds = h.ok.holds;
      looks = looks_both before.looks h.looks;
      whole = whole_more c.loop-place.place c.at-serial.result h.looks
          (omega (arith, c.loop-place-test.true, c.len.ensures)) c.at-serial.ensures
          (subst (IsSettled c.loop-place.self c.settles.new.self c.at-serial.result.0) c.if-not-branch.false h.ok)
          before.whole;
    }

pub loop-place-smaller : goal.loop-place-smaller
loop-place-smaller c =
    omega (
      arith,
      c.loop-place-test.true,
      c.len.ensures ∙ ap (λ (t : Intake). length t.changed) c.loop-place.invariant.looks.intake,
    )

pub returns-in_err-settles : goal.returns-in_err-settles
returns-in_err-settles c =
    let r = c.from_residual in
    record {
      ok = IfOk-from_err r.result _ r.ensures.0;
      keeps = keeps_both c.loop-place.invariant.looks.keeps c.in_err-settles.ensures.looks.keeps;
    }

pub returns-then-not-branch : goal.returns-then-not-branch
returns-then-not-branch c =
    let looks = looks_both c.loop-place.invariant.looks c.in_ok-settles.ensures.looks in
    let h = c.in_ok-settles.ensures.ok in
    record {
      ok = record {
        holds = h.holds;
        noted = ap (λ (t : Intake). t.noted) looks.intake;
        entries = entries_stay looks;
        settled = λ none. absurd (Prim.cc (none));
        clash = λ s is. subst (λ (t : Serial). HasClash c.settles.new.self t.0) (same_Some c.at-serial.result s is)
            (h.clash c.if-not-branch.true);
      };
      keeps = looks.keeps;
    }

pub returns : goal.returns
returns c =
    let x = c.loop-place.self in
    let before = c.loop-place.invariant in
    let h = before.holds in
    let same = keeps_grown h (regexes_same x.store) refl refl in
    record {
      ok = record {
        holds = record {
          store = h.store;
          regexes = h.regexes;
          formed = h.formed;
          noted = h.noted;
          among = h.among;
          joined = h.joined;
          left = λ a noted joined. left_kept same a (h.left a noted joined);
          rows = rows_settled c.clear.new.self
              (λ n there. before.whole n
              (ap (λ (cs : List Serial). is_in cs n)
              (take_all c.loop-place.place x.changed (omega (arith, c.loop-place-test.false, c.len.ensures))) ∙ there))
              h.rows;
        };
        noted = ap (λ (t : Intake). t.noted) before.looks.intake;
        entries = entries_stay before.looks;
        settled = λ none. c.clear.ensures;
        clash = λ s is. absurd (Prim.cc (is));
      };
      keeps = keeps_both before.looks.keeps same;
    }

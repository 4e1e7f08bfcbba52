use Rattle.sb_theory.proofs.Words.{[], ◌∙◌, ◌∷◌, List, ap, arith, length, ℕ, IfOk-from_err, Lit, number_at, on_ok_weaker, regexes_same, row_at, wanted_of}
use Rattle.sb_theory.proofs.Fitting.{rows_behind, rows_grown, rows_noted, rows_passed}
use Rattle.sb_theory.proofs.fit.take_literal.Goals as goal

pub returns-in_default : goal.returns-in_default
returns-in_default c = record {
  rows = λ ls h. rows_passed (wanted_of c.args.wanted.now (c.args.literal ∷ [])) c.in_default.ensures.none h;
  grows = regexes_same c.args.store.now;
}

pub returns-then-number_of-long : goal.returns-then-number_of-long
returns-then-number_of-long c =
    let x = c.in-Some.member.serial.0 in
    let some = c.in-Some.ensures in
    record {
      rows = on_ok_weaker c.put_member.result
          (λ added ls h. rows_behind c.args.wanted.now c.put_member.new.rows.items c.args.literal x some.some some.wanted
          (omega (
            arith,
            c.if-number_of-long.true,
            c.number_of.ensures ∙ ap (λ (ns : List ℕ). number_at ns x) c.deref-2.ensures.value,
            ap length (c.row_of-long.ensures ∙ ap (λ (rs : List (List Lit)). row_at rs x) c.deref.ensures.value),
          )) added h) c.put_member.ensures;
      grows = regexes_same c.args.store.now;
    }

pub returns-in_err-matches : goal.returns-in_err-matches
returns-in_err-matches c =
    let r = c.from_residual in
    record { rows = IfOk-from_err r.result _ r.ensures.0; grows = c.in_err-matches.ensures.grows }

pub returns-in_err-note_next : goal.returns-in_err-note_next
returns-in_err-note_next c =
    let r = c.from_residual-in_err-note_next in
    record { rows = IfOk-from_err r.result _ r.ensures.0; grows = c.in_ok-matches.ensures.grows }

pub returns : goal.returns
returns c =
    let x = c.in-Some.member.serial.0 in
    let some = c.in-Some.ensures in
    let e = c.in_ok-matches.ensures in
    record {
      rows = on_ok_weaker c.put_member-2.result
          (λ added ls h. rows_grown e.grows.more.extends c.requires.regexes
          (rows_noted c.args.wanted.now c.put_member-2.new.rows.items c.note_next.new.fitting.items
          c.note_next.new.changed c.args.literal x (length c.row_of-long.result.now) c.in_ok-matches.matches some.some
          some.wanted (ap length (c.row_of-long.ensures
          ∙ ap (λ (rs : List (List Lit)). row_at rs x) c.deref.ensures.value))
          (omega (
            arith,
            c.if-number_of-long.false,
            c.number_of.ensures ∙ ap (λ (ns : List ℕ). number_at ns x) c.deref-2.ensures.value,
          )) e.fits c.in_ok-note_next.ensures added h)) c.put_member-2.ensures;
      grows = e.grows;
    }

use Rattle.sb_theory.proofs.Words.{[], ◌∙◌, ◌∷◌, ap, length, refl, IfOk-from_err, length-append, regexes_kept, wanted_of, wanted_on}
use Rattle.sb_theory.proofs.Fitting.{rows_taken}
use Rattle.sb_theory.proofs.Moving.{keeps_grown, left_kept}
use Rattle.sb_theory.proofs.Rows.{wanted_push}
use Rattle.sb_theory.proofs.Standing.{stands_next}
use Rattle.sb_theory.proofs.strings.Strings.take_next.Goals as goal

pub take_literal-requires : goal.take_literal-requires
take_literal-requires c =
    let h = c.requires.stands.holds in record { regexes = h.regexes; formed = h.formed; store = h.store }

pub returns-in_err-take_literal : goal.returns-in_err-take_literal
returns-in_err-take_literal c =
    let r = c.from_residual in
    record {
      ok = IfOk-from_err r.result _ r.ensures.0;
      noted = refl;
      keeps = keeps_grown c.requires.stands.holds c.in_err-take_literal.ensures.grows refl refl;
    }

pub returns-in_err-push : goal.returns-in_err-push
returns-in_err-push c =
    let r = c.from_residual-in_err-push in
    record {
      ok = IfOk-from_err r.result _ r.ensures.0;
      noted = refl;
      keeps = keeps_grown c.requires.stands.holds c.in_ok-take_literal.ensures.grows refl refl;
    }

pub returns : goal.returns
returns c =
    let x = c.args.self.now in
    let h = c.requires.stands.holds in
    let e = c.index-literals-len.result in
    let took = c.in_ok-take_literal.ensures in
    let pushed = c.in_ok-push.ensures.items in
    let keeps = keeps_grown h took.grows refl refl in
    record {
      ok = (
        stands_next c.literals.result.now c.len.result e c.requires.stands c.literals.ensures.value
            (c.len.ensures ∙ x.taken.ok.0) c.requires.more c.index-literals-len.is c.literals.ensures.trail.levelled
            pushed
            (record {
              store = took.grows.right h.store;
              regexes = regexes_kept x.store.arena c.take_literal.new.store.arena x.atoms took.grows.more.extends
                  h.regexes;
              formed = h.formed;
              noted = h.noted;
              among = h.among;
              rows = rows_taken x.words.items c.deref.result.now (wanted_of x.noted (c.literal.result ∷ []))
                  c.deref.ensures.value
                  (wanted_push x.noted x.taken.items c.push.new.self.items e c.literal.result pushed c.literal.ensures)
                  (took.rows (wanted_on x.noted x.taken.items)) h.rows;
              joined = h.joined;
              left = λ a noted joined. left_kept keeps a (h.left a noted joined);
            }),
        ap length pushed ∙ length-append x.taken.items (e ∷ []),
      );
      noted = refl;
      keeps = keeps;
    }

use Rattle.sb_solve.proofs.Words.{refl, IfOk-from_err}
use Rattle.sb_solve.proofs.searching.values_of.Goals as goal

pub returns : goal.returns
returns c =
    let v = c.in_ok-values.ensures in
    record {
      model = record {
        characters = v.characters;
        given = λ places literals assumed kept answered.
            v.given c.args.tables.now.strings.store.arena places literals assumed kept
            (rw (c.replace-words.ensures.value, c.atoms.ensures, c.trail.ensures) answered);
      };
      rest = refl;
    }

pub returns-in_err-values : goal.returns-in_err-values
returns-in_err-values c =
    let x = c.from_residual in
    record { model = IfOk-from_err x.result _ x.ensures.0; rest = IfOk-from_err x.result _ x.ensures.0 }

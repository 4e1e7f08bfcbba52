use Rattle.sb_theory.proofs.Words.{false≢true, refl, sym, ◌∙◌, IfOk-from_err, counts_none, counts_on, err_from_is_err_and, spent_none, walked}
use Rattle.sb_theory.proofs.Going.{wrong_inside}
use Rattle.sb_theory.proofs.Walking.{several}
use Rattle.sb_theory.proofs.Widening.{only_none}
use Rattle.sb_theory.proofs.Writing.{grows_defined, widens_defined}
use Rattle.sb_theory.proofs.strings.Strings.steps.Goals as goal

pub step_lemma-requires : goal.step_lemma-requires
step_lemma-requires g c =
    let h = c.requires.stands.holds in record {
      known = wrong_inside c.args.at c.requires.wrong;
      between = c.requires.between;
      formed = λ whole names. h.formed c.args.at.atom whole names;
      regexes = h.regexes;
      right = h.store.plain;
    }

pub returns-in_err-step : goal.returns-in_err-step
returns-in_err-step g c =
    let x = c.args.self.now in
    let r = c.from_residual in
    let p = err_from_is_err_and r.result r.ensures.1 in
    let e = c.in_err-step.ensures in
    let s = several x.atoms c.args.at.atom c.requires.wrong.joined in record {
      step = IfOk-from_err r.result _ r.ensures.0;
      leaves = λ spending. record {
        ok = IfOk-from_err r.result _ r.ensures.0;
        grows = grows_defined c.args.at.atom s.pieces s.number c.requires.stands.holds s.names e.adds
            (walked c.regexes_grow.ensures.arena _ _ _ e.adds.arena e.right) refl;
        steps = spent_none spending;
        counts = counts_none r.result p.0 (g.L.Tape.faults c.args.tape.now) p.1 p.2;
      };
    }

pub returns-then-not-self : goal.returns-then-not-self
returns-then-not-self g c =
    let x = c.args.self.now in
    let e = c.in_ok-step.ensures in
    let s = several x.atoms c.args.at.atom c.requires.wrong.joined in
    let grows = walked c.regexes_grow.ensures.arena _ _ _ e.adds.arena e.right in
    let told = g.L.Tape.told c.args.tape.now in record {
      step = e.step;
      leaves = λ spending. record {
        ok = widens_defined c.args.at.atom s.pieces s.number c.len-known.result spending told told c.requires.stands
            s.names
            c.len-known.ensures e.adds grows refl c.marks_have_numbers.ensures.expanded (only_none x.trace)
            (λ off. refl)
            (λ on. absurd (false≢true (sym c.if-not-self.true ∙ on)));
        grows = grows_defined c.args.at.atom s.pieces s.number c.requires.stands.holds s.names e.adds grows refl;
        steps = spent_none spending;
        counts = refl;
      };
    }

pub returns-in_err-define_atoms : goal.returns-in_err-define_atoms
returns-in_err-define_atoms g c =
    let x = c.args.self.now in
    let r = c.from_residual-in_err-define_atoms in
    let p = err_from_is_err_and r.result r.ensures.1 in
    let e = c.in_ok-step.ensures in
    let s = several x.atoms c.args.at.atom c.requires.wrong.joined in record {
      step = IfOk-from_err r.result _ r.ensures.0;
      leaves = λ spending. record {
        ok = IfOk-from_err r.result _ r.ensures.0;
        grows = grows_defined c.args.at.atom s.pieces s.number c.requires.stands.holds s.names e.adds
            (walked c.regexes_grow.ensures.arena _ _ _ e.adds.arena e.right) refl;
        steps = spent_none spending;
        counts = counts_on (Unit {0}) r.result p.0 _ _ _ p.1 p.2 c.in_err-define_atoms.ensures.counts;
      };
    }

pub define_atoms-requires : goal.define_atoms-requires
define_atoms-requires g c = record { regexes = c.in_ok-step.ensures.adds.regexes }

pub returns : goal.returns
returns g c =
    let x = c.args.self.now in
    let e = c.in_ok-step.ensures in
    let d = c.in_ok-define_atoms.ensures in
    let s = several x.atoms c.args.at.atom c.requires.wrong.joined in
    let grows = walked c.regexes_grow.ensures.arena _ _ _ e.adds.arena e.right in record {
      step = e.step;
      leaves = λ spending. record {
        ok = widens_defined c.args.at.atom s.pieces s.number c.len-known.result spending (g.L.Tape.told c.args.tape.now)
            (g.L.Tape.told c.define_atoms.new.tape) c.requires.stands s.names c.len-known.ensures e.adds grows refl
            c.marks_have_numbers.ensures.expanded d.only (λ off. absurd (false≢true (sym off ∙ c.if-not-self.false)))
            (λ on. d.defines);
        grows = grows_defined c.args.at.atom s.pieces s.number c.requires.stands.holds s.names e.adds grows refl;
        steps = spent_none spending;
        counts = d.counts;
      };
    }

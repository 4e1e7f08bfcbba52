use Rattle.sb_theory.proofs.Words.{◌∙◌, Bool, refl, sym, IfOk-from_err, counts_on, err_from_is_err_and, expands_one, false≢true}
use Rattle.sb_clash.proofs.CallerLemmas.{expands_none}
use Rattle.sb_theory.proofs.Denied.{answers_denied}
use Rattle.sb_theory.proofs.Moving.{grows_store, holds_traced, looks_none, stands_looked, store_explored}
use Rattle.sb_theory.proofs.Wishes.{among_expanded, expanded_among}
use Rattle.sb_theory.proofs.strings.Strings.answer.Goals as goal

pub returns-then-not-self : goal.returns-then-not-self
returns-then-not-self g c =
    let x = c.args.self.now in
    let looks = looks_none c.requires.stands.holds in
    record {
      answers = answers_denied c.empty_holds.ensures c.empty_is_exact.ensures c.args.serial.0 c.args.clause
          c.tick-done.result c.answered.result (g.L.Tape.told c.args.tape.now) (g.L.Tape.told c.args.tape.now)
          c.answered.ensures c.requires.denied looks.keeps.grows refl c.requires.stands c.tick-done.ensures.ticks
          (λ off. refl) (expands_none x.store.arena x.atoms x.trace x.trace refl)
          (λ on. absurd (false≢true (sym c.if-not-self.true ∙ on)));
      grows = looks.keeps.grows;
      steps = c.tick-done.ensures.steps;
      counts = refl;
    }

pub returns-in_err-done : goal.returns-in_err-done
returns-in_err-done g c =
    let r = c.from_residual in
    let p = err_from_is_err_and r.result r.ensures.1 in
    let e = c.in_err-done.ensures in
    record {
      answers = IfOk-from_err r.result _ r.ensures.0;
      grows = grows_store c.requires.stands.holds (store_explored c.regexes_grow.ensures.arena _ _ _ e.explores) refl
          refl;
      steps = e.steps;
      counts = counts_on Bool r.result p.0 _ _ _ p.1 p.2 e.counts;
    }

pub returns : goal.returns
returns g c =
    let x = c.args.self.now in
    let h = c.requires.stands.holds in
    let e = c.in_ok-done.ensures in
    let grows = store_explored c.regexes_grow.ensures.arena x.store c.put_denial.new.arena c.put_denial.new.graph
    e.explores in
    record {
      answers = answers_denied c.empty_holds.ensures c.empty_is_exact.ensures c.args.serial.0 c.args.clause
          c.in_ok-done.done c.answered-2.result (g.L.Tape.told c.args.tape.now) (g.L.Tape.told c.put_denial.new.tape)
          c.answered-2.ensures c.requires.denied (grows_store h grows refl refl) refl
          (stands_looked (holds_traced grows refl (λ n there. expanded_among c.put_denial.new.trace n (e.expanded_stay n
          (among_expanded x.trace n c.marks_have_numbers.ensures.each_once there))) h) refl c.requires.stands) e.ticks
          (λ off. absurd (false≢true (sym off ∙ c.if-not-self.false)))
          (expands_one x.store.arena c.put_denial.new.arena x.atoms x.trace c.put_denial.new.trace c.args.serial.0
          c.args.clause grows.more.extends h.regexes c.requires.denied.denial e.only) (λ on. e.puts);
      grows = grows_store h grows refl refl;
      steps = e.steps;
      counts = e.counts;
    }

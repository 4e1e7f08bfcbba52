use Rattle.sb_theory.proofs.Words.{Bool, List, Option, refl, subst, ℕ, IfOk-from_err, counts_none, counts_on, err_from_is_err_and, slice_get_within, spent_none, word_at}
use Rattle.sb_regex.specs.Numbered as regex
use Rattle.sb_theory.specs.Walks.{IsBase}
use Rattle.sb_theory.specs.Words.{nd_along, regex_at}
use Rattle.sb_theory.proofs.Moving.{grows_both, grows_store, holds_kept, stands_looked}
use Rattle.sb_theory.proofs.Widening.{led_to, of_membership, widens_behind}
use Rattle.sb_theory.proofs.strings.Strings.led.Goals as goal

pub behind_word-requires : goal.behind_word-requires
behind_word-requires g c = record { known = c.requires.known; store = c.requires.stands.holds.store }

pub returns-in_err-to : goal.returns-in_err-to
returns-in_err-to g c =
    let r = c.from_residual in
    let p = err_from_is_err_and r.result r.ensures.1 in record {
      ok = IfOk-from_err r.result _ r.ensures.0;
      grows = grows_store c.requires.stands.holds c.in_err-to.ensures.grows refl refl;
      steps = spent_none c.args.budget.now;
      counts = counts_none r.result p.0 (g.L.Tape.faults c.args.tape.now) p.1 p.2;
    }

pub expands-requires : goal.expands-requires
expands-requires g c =
    let x = c.args.self.now in
    let e = c.in_ok-to.ensures in
    let w = word_at c.deref.result.now c.args.serial.0 in record {
      stands = stands_looked (holds_kept e.grows refl c.requires.stands.holds) refl c.requires.stands;
      known = slice_get_within c.behind_word.new.store.arena c.in_ok-to.to
          (nd_along (regex_at x.store.arena c.args.regex) w) e.ok;
      relevant = of_membership x (record x { store = c.behind_word.new.store }) c.args.regex c.in_ok-to.to w
          c.requires.known c.requires.names e.grows.more.extends refl e.word e.ok;
    }

pub returns-in_err-done : goal.returns-in_err-done
returns-in_err-done g c =
    let r = c.from_residual-in_err-done in
    let p = err_from_is_err_and r.result r.ensures.1 in
    let e = c.in_err-done.ensures in record {
      ok = IfOk-from_err r.result _ r.ensures.0;
      grows = grows_both (grows_store c.requires.stands.holds c.in_ok-to.ensures.grows refl refl) e.grows;
      steps = e.steps;
      counts = counts_on Bool r.result p.0 _ _ _ p.1 p.2 e.counts;
    }

pub returns-then-not-done : goal.returns-then-not-done
returns-then-not-done g c =
    let e = c.in_ok-done.ensures in record {
      ok = (
        widens_behind c.in_ok-to.ensures.grows refl c.requires.stands e.steps e.ok.0,
        subst (IsBase c.expands.new.self c.in_ok-to.to c.expands.new.budget) c.if-not-done.true e.ok.1,
      );
      grows = grows_both (grows_store c.requires.stands.holds c.in_ok-to.ensures.grows refl refl) e.grows;
      steps = e.steps;
      counts = e.counts;
    }

pub returns : goal.returns
returns g c =
    let x = c.args.self.now in
    let e = c.in_ok-done.ensures in
    let r = regex_at x.store.arena c.args.regex in record {
      ok = (
        widens_behind c.in_ok-to.ensures.grows refl c.requires.stands e.steps e.ok.0,
        led_to c.args.serial.0 c.in_ok-to.to r e.ok.0
            (subst (λ (ws : List (Option (List ℕ))).
            regex.Names c.behind_word.new.store.arena c.in_ok-to.to (nd_along r (word_at ws c.args.serial.0)))
            c.deref.ensures.value c.in_ok-to.ensures.ok)
            (subst (IsBase c.expands.new.self c.in_ok-to.to c.expands.new.budget) c.if-not-done.false e.ok.1),
      );
      grows = grows_both (grows_store c.requires.stands.holds c.in_ok-to.ensures.grows refl refl) e.grows;
      steps = e.steps;
      counts = e.counts;
    }

use Rattle.sb_theory.proofs.Words.{refl, IfOk-weaker, spent_none}
use Rattle.sb_theory.proofs.Going.{wrong_inside}
use Rattle.sb_theory.proofs.Moving.{keeps_none}
use Rattle.sb_theory.proofs.Walking.{several}
use Rattle.sb_theory.proofs.Widening.{between_led, between_none, leads_at, leads_below, leads_named, regex_below}
use Rattle.sb_theory.proofs.Writing.{widens_none}
use Rattle.sb_theory.proofs.strings.Strings.between.Goals as goal

pub leading-requires : goal.leading-requires
leading-requires g c = wrong_inside c.args.at c.requires.wrong

pub led-requires : goal.led-requires
led-requires g c =
    let z = c.in-Some.pair.0.0 in
    let r = c.in-Some.pair.1 in
    let p = leads_at c.args.at c.leading.result c.in-Some.pair.0 r c.requires.wrong c.leading.ensures c.in-Some.is in
    record {
      stands = c.requires.stands;
      known = leads_below c.args.at z r p.0.piece p.0.pieces c.requires.stands.holds p.1;
      names = leads_named c.args.self.now c.args.at z r p.0.piece p.0.pieces p.1;
    }

pub regex_of-requires : goal.regex_of-requires
regex_of-requires g c =
    let s = several c.args.self.now.atoms c.args.at.atom c.requires.wrong.joined in (s.pieces, (s.number, s.names))

pub returns-in-Some : goal.returns-in-Some
returns-in-Some g c =
    let z = c.in-Some.pair.0.0 in
    let r = c.in-Some.pair.1 in
    let p = leads_at c.args.at c.leading.result c.in-Some.pair.0 r c.requires.wrong c.leading.ensures c.in-Some.is in
    let e = c.led.ensures in record {
      ok = IfOk-weaker c.led.result _ _
          (λ found h. (
            h.0,
            between_led c.args.at z r p.0.piece p.0.pieces c.led.new.budget found c.requires.stands.holds
                c.requires.wrong e.grows p.1 h.1,
          )) e.ok;
      grows = e.grows;
      steps = e.steps;
      counts = e.counts;
    }

pub returns-in-None : goal.returns-in-None
returns-in-None g c =
    let h = c.requires.stands.holds in record {
      ok = (
        widens_none c.args.budget.now (g.L.Tape.told c.args.tape.now) c.requires.stands,
        between_none c.args.at c.regex_of.result c.leading.result h c.requires.wrong c.leading.ensures c.in-None.is
            (regex_below c.args.at c.regex_of.result h c.requires.wrong c.regex_of.ensures),
      );
      grows = (keeps_none h).grows;
      steps = spent_none c.args.budget.now;
      counts = refl;
    }

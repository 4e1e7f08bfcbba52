use Rattle.sb_decide.proofs.Words.{Some, ◌∙◌, arith, asked_regular, pattern_in, term_at}
use Rattle.sb_decide.proofs.DemandFacts.{denied_demands, denied_fits}
use Rattle.sb_decide.proofs.demand.demand_of.Goals as goal

pub returns-in-Some : goal.returns-in-Some
returns-in-Some c =
    let denied = c.in-Some.ensures in
    let asks = c.in_ok-serial.ensures in
    let t = term_at c.args.table.now c.args.id in
    let u = term_at c.args.table.now c.in-Some.term in
    let R = pattern_in c.args.table.now c.in_ok-serial.pattern in
    record {
      parts = denied_demands t u (Some (c.in_ok-serial.serial.0, R)) denied.parts asks.parts;
      limits = denied_fits t u c.in_ok-serial.serial.0 R denied.parts asks.parts;
      smaller = omega (arith, asks.smaller, denied.smaller);
    }

pub returns : goal.returns
returns c =
    let asks = c.in_ok-serial-2.ensures in
    record {
      parts = c.in_default.ensures.parts ∙ asks.parts;
      limits = asked_regular (term_at c.args.table.now c.args.id) c.in_ok-serial-2.serial.0
          (pattern_in c.args.table.now c.in_ok-serial-2.pattern) asks.parts;
      smaller = asks.smaller;
    }

use Rattle.sb_theory.proofs.Words.{List, ap, refl, ◌∙◌, Bool, IfOk-from_err, counts_none, counts_on, err_from_is_err_and, explored}
use Rattle.sb_graph.specs.Findings.{is_marked}
use Rattle.sb_trace.specs.declared.trace.Expand.{Expand}
use Rattle.sb_theory.proofs.Moving.{grows_store}
use Rattle.sb_theory.proofs.Widening.{base_done, grows_counted}
use Rattle.sb_theory.proofs.Writing.{widens_counted, widens_expanded}
use Rattle.sb_theory.proofs.strings.Strings.expands.Goals as goal

pub returns-in_err-counts : goal.returns-in_err-counts
returns-in_err-counts g c =
    let r = c.from_residual in
    let p = err_from_is_err_and r.result r.ensures.1 in
    let e = c.in_err-counts.ensures.counts in record {
      ok = IfOk-from_err r.result _ r.ensures.0;
      grows = grows_counted c.requires.stands.holds e;
      steps = e.steps;
      counts = counts_none r.result p.0 (g.L.Tape.faults c.args.tape.now) p.1 p.2;
    }

pub returns-then-not-self : goal.returns-then-not-self
returns-then-not-self g c =
    let e = c.in_ok-counts.ensures in record {
      ok = (
        widens_counted c.args.budget.now c.counts.new.budget (g.L.Tape.told c.args.tape.now) c.if-not-self.true
            c.requires.stands e.counts,
        e.ok,
      );
      grows = grows_counted c.requires.stands.holds e.counts;
      steps = e.counts.steps;
      counts = refl;
    }

pub expand-requires : goal.expand-requires
expand-requires g c = record { known = c.requires.known; graph = c.requires.stands.holds.store.graph }

pub returns-in_err-put : goal.returns-in_err-put
returns-in_err-put g c =
    let r = c.from_residual-in_err-put in
    let p = err_from_is_err_and r.result r.ensures.1 in
    let e = c.in_err-put.ensures in
    let grows = explored c.regexes_grow.ensures.arena c.args.self.now.store c.expand.new.arena c.expand.new.graph
    e.extends
    e.graph e.derivatives_stay (λ n dead. ap (λ (ds : List Bool). is_marked ds n) e.marks ∙ dead) in record {
      ok = IfOk-from_err r.result _ r.ensures.0;
      grows = grows_store c.requires.stands.holds grows refl refl;
      steps = e.steps;
      counts = counts_on Expand r.result p.0 _ _ _ p.1 p.2 e.counts;
    }

pub returns : goal.returns
returns g c =
    let x = c.args.self.now in
    let e = c.in_ok-put.ensures in
    let h = c.requires.stands.holds in
    let grows = explored c.regexes_grow.ensures.arena x.store c.expand.new.arena c.expand.new.graph e.extends e.graph
    e.derivatives_stay (λ n dead. ap (λ (ds : List Bool). is_marked ds n) e.marks ∙ dead) in
    let before = c.marks_have_numbers.ensures in
    let after = c.marks_have_numbers-2.ensures in record {
      ok = (
        widens_expanded c.args.regex c.in_ok-put.put c.args.budget.now c.expand.new.budget
            (g.L.Tape.told c.args.tape.now) (g.L.Tape.told c.expand.new.tape) c.if-not-self.false c.requires.stands
            grows
            refl c.requires.relevant
            (record {
              stays = e.stays;
              once_before = before.each_once;
              once_after = after.each_once;
              before = before.expanded;
              after = after.expanded;
              dead = e.dead;
            }) e.spends e.only e.expanded_stay e.puts,
        base_done
            (record x {
              store = record x.store { arena = c.expand.new.arena; graph = c.expand.new.graph };
              trace = c.expand.new.self;
            }) c.args.regex c.in_ok-put.put c.expand.new.budget c.is_done.result c.is_done.ensures e.expanded e.spent,
      );
      grows = grows_store h grows refl refl;
      steps = e.steps;
      counts = e.counts;
    }

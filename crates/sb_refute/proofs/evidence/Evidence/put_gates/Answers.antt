use Rattle.sb_refute.proofs.Words.{length, ap, refl, ◌∙◌, arith, Backing, called_on}
use Rattle.sb_refute.proofs.Asserting.{leads-none, leads-both}
use Rattle.sb_refute.proofs.GateLines.{gates-alone-both}
use Rattle.sb_refute.proofs.evidence.Evidence.put_gates.Goals as goal

pub loop-self-init : goal.loop-self-init
loop-self-init g c = record {
  rest = refl;
  faults = refl;
  puts = λ asked rs memo. leads-none asked rs memo c.args.self.now (g.L.Tape.told c.args.tape.now);
  stay = λ id clause h. h;
}

pub put_next-requires : goal.put_next-requires
put_next-requires g c = c.lacks_gates.ensures.lacking c.loop-self-test.true

pub loop-self-preserved : goal.loop-self-preserved
loop-self-preserved g c =
    let h = c.loop-self.invariant in
    let put = c.in_ok-put_next.ensures in
    record {
      rest = gates-alone-both c.args.self.now c.loop-self.self c.put_next.new.self h.rest put.rest;
      faults = put.counts ∙ h.faults;
      puts = λ asked rs memo.
          leads-both asked rs memo c.args.self.now c.loop-self.self c.put_next.new.self (g.L.Tape.told c.args.tape.now)
          (g.L.Tape.told c.loop-self.tape) (g.L.Tape.told c.put_next.new.tape) (h.puts asked rs memo)
          (put.ok.0 asked rs memo);
      stay = λ id clause there. put.ok.2 id clause (h.stay id clause there);
    }

pub loop-self-smaller : goal.loop-self-smaller
loop-self-smaller g c =
    let put = c.in_ok-put_next.ensures in
    omega (
      arith,
      ap (λ (f : Backing). length f.atoms) put.rest,
      put.ok.1,
      c.lacks_gates.ensures.lacking c.loop-self-test.true,
    )

pub returns : goal.returns
returns g c =
    let h = c.loop-self.invariant in
    record {
      ok = (h.puts, c.lacks_gates.ensures.all c.loop-self-test.false, h.stay);
      rest = h.rest;
      counts = h.faults;
    }

pub returns-in_err-put_next : goal.returns-in_err-put_next
returns-in_err-put_next g c =
    let x = c.from_residual in
    let h = c.loop-self.invariant in
    called_on (Unit {0}) _ x.result _ _ _ _ x.ensures.0 x.ensures.1 h.faults c.in_err-put_next.ensures.counts
    (gates-alone-both c.args.self.now c.loop-self.self c.put_next.new.self h.rest c.in_err-put_next.ensures.rest)

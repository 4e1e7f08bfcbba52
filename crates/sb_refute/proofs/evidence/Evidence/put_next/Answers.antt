use Rattle.sb_refute.proofs.Words.{◌+◌, ◌++◌, ◌∷◌, [], List, All, length, map, take, refl, sym, ap, subst, ◌∙◌, arith, append-nil, take_more, take_all, Lit, Kept, Backing, HasGatesOf, IsOfGates, LeadsAlways, at_bottom, called_none, called_on}
use Rattle.sb_refute.proofs.Asserting.{leads-none, leads-both}
use Rattle.sb_refute.proofs.GateLines.{gates-alone, gates-passed, has-gates, kept-more}
use Rattle.sb_refute.proofs.Settled.{stay-behind}
use Rattle.sb_refute.proofs.evidence.Evidence.put_next.Goals as goal

pub loop-clause-init : goal.loop-clause-init
loop-clause-init g c = record {
  kept = ap (λ (k : Kept). record c.args.self.now { kept = k }) (sym (append-nil c.args.self.now.kept));
  faults = refl;
  puts = λ asked rs memo. leads-none asked rs memo c.args.self.now (g.L.Tape.told c.args.tape.now);
}

pub put_gate-requires : goal.put_gate-requires
put_gate-requires g c =
    let i = c.loop-clause.clause-index in
    let all = subst (λ (cs : List (List Lit)). All (IsOfGates c.args.self.now.atoms) cs)
    (sym c.deref-clause-items.ensures.value) c.in_ok-clauses.ensures.gates in
    subst (λ (f : Backing). IsOfGates f.atoms c.clause-item.result) (sym c.loop-clause.invariant.kept)
    (subst (IsOfGates c.args.self.now.atoms) (sym c.clause-item.is)
    (all i c.clause-item.result c.loop-clause-test.true))

pub loop-clause-preserved : goal.loop-clause-preserved
loop-clause-preserved g c =
    let h = c.loop-clause.invariant in
    let i = c.loop-clause.clause-index in
    let cs = c.deref-clause-items.result.now in
    let put = c.in_ok-put_gate.ensures in
    record {
      kept = kept-more c.args.self.now c.loop-clause.self c.put_gate.new.self cs i c.clause-item.result
          (take_more cs i c.clause-item.result c.loop-clause-test.true
          ∙ ap (λ (x : List Lit). take i cs ++ x ∷ []) (sym c.clause-item.is)) h.kept put.ok.1;
      faults = put.counts ∙ h.faults;
      puts = λ asked rs memo.
          leads-both asked rs memo c.args.self.now c.loop-clause.self c.put_gate.new.self
          (g.L.Tape.told c.args.tape.now)
          (g.L.Tape.told c.loop-clause.tape) (g.L.Tape.told c.put_gate.new.tape) (h.puts asked rs memo)
          (put.ok.0 asked rs memo);
    }

pub pass_gates-requires : goal.pass_gates-requires
pass_gates-requires g c =
    let kept = c.loop-clause.invariant.kept in
    let e = c.args.self.now in
    let cs = c.deref-clause-items.result.now in
    let gates = ap (λ (f : Backing). f.gates) kept in
    let atoms = ap (λ (f : Backing). length f.atoms) kept in
    record {
      lacking = omega (arith, c.requires, gates, atoms);
      kept = subst (λ (f : Backing). HasGatesOf f.gates f.atoms f.kept) (sym kept)
          (has-gates e.atoms e.gates e.kept (e.kept ++ map at_bottom (take c.loop-clause.clause-index cs)) cs
          (c.deref-clause-items.ensures.value ∙ c.in_ok-clauses.ensures.exact)
          (ap (λ (ds : List (List Lit)). e.kept ++ map at_bottom ds)
          (take_all c.loop-clause.clause-index cs (omega (arith, c.loop-clause-test.false)))));
    }

pub returns : goal.returns
returns g c =
    let h = c.loop-clause.invariant in
    let mid = c.loop-clause.self in
    let passed = c.pass_gates.ensures in
    record {
      ok = (
        subst (λ (f : Backing). LeadsAlways c.args.self.now f (g.L.Tape.told c.args.tape.now)
            (g.L.Tape.told c.loop-clause.tape)) (sym passed)
            (gates-passed c.args.self.now mid (mid.gates + 1) (g.L.Tape.told c.args.tape.now)
            (g.L.Tape.told c.loop-clause.tape) h.puts),
        ap (λ (f : Backing). f.gates) passed ∙ ap (λ (f : Backing). f.gates + 1) h.kept,
        stay-behind c.args.self.now.kept _ c.pass_gates.new.self.kept
            (ap (λ (f : Backing). f.kept) passed ∙ ap (λ (f : Backing). f.kept) h.kept),
      );
      rest = gates-alone c.args.self.now c.pass_gates.new.self _ _
          (passed ∙ ap (λ (f : Backing). record f { gates = f.gates + 1 }) h.kept);
      counts = h.faults;
    }

pub returns-in_err-clauses : goal.returns-in_err-clauses
returns-in_err-clauses g c =
    let x = c.from_residual in called_none _ x.result _ _ x.ensures.0 x.ensures.1 refl refl

pub returns-in_err-put_gate : goal.returns-in_err-put_gate
returns-in_err-put_gate g c =
    let x = c.from_residual-in_err-put_gate in
    let h = c.loop-clause.invariant in
    let f = c.put_gate.new.self in
    called_on (Unit {0}) _ x.result _ _ _ _ x.ensures.0 x.ensures.1 h.faults c.in_err-put_gate.ensures.counts
    (gates-alone c.args.self.now f _ _
    (c.in_err-put_gate.ensures.rest ∙ ap (λ (m : Backing). record m { kept = f.kept }) h.kept))

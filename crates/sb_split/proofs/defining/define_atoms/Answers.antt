use Rattle.sb_split.proofs.Words.{◌+◌, ◌∙◌, arith, only_numbers_both, only_numbers_same, refl, subst, take, take_all, ℕ, AtomOver, DefinesAtoms, IfOk-from_err, List}
use Rattle.sb_split.proofs.DefinedAtoms.{defines_both, defines_none}
use Rattle.sb_split.proofs.Exits.{called_on}
use Rattle.sb_split.proofs.defining.define_atoms.Goals as goal

pub loop-number-init : goal.loop-number-init
loop-number-init g c = record {
  behind = omega arith;
  stays = only_numbers_same c.args.trace.now;
  faults = refl;
  puts = λ asked memo before due.
      defines_none asked before c.args.arena.now memo c.args.trace.now (take c.args.known c.args.atoms.now)
      (g.L.Tape.told c.args.tape.now);
}

pub loop-number-preserved : goal.loop-number-preserved
loop-number-preserved g c =
    let n = c.loop-number.number in
    let atoms = c.args.atoms.now in
    let h = c.loop-number.invariant in
    record {
      behind = omega (arith, h.behind);
      stays = only_numbers_both c.args.trace.now c.loop-number.trace c.define_atom.new.trace h.stays
          c.define_atom.ensures.rest;
      faults = c.in_ok-define_atom.ensures.counts ∙ h.faults;
      puts = λ asked memo before due tracks is.
          defines_both asked before c.args.arena.now memo c.loop-number.trace c.define_atom.new.trace (take n atoms)
          (take (n + 1) atoms) (g.L.Tape.told c.args.tape.now) (g.L.Tape.told c.loop-number.tape)
          (g.L.Tape.told c.define_atom.new.tape) (h.puts asked memo before due tracks is)
          (λ after. c.in_ok-define_atom.ensures.ok asked memo after
          (λ i a low. due i a (omega (arith, h.behind, low))));
    }

pub returns : goal.returns
returns g c =
    let h = c.loop-number.invariant in
    record {
      defines = λ asked memo before due tracks is.
          subst (λ (all : List (AtomOver ℕ)). DefinesAtoms asked before c.args.arena.now memo c.loop-number.trace all
          (g.L.Tape.told c.args.tape.now) (g.L.Tape.told c.loop-number.tape))
          (take_all c.loop-number.number c.args.atoms.now (omega (arith, c.loop-number-test.false, c.len.ensures)))
          (h.puts asked memo before due tracks is);
      only = h.stays;
      counts = h.faults;
    }

pub returns-in_err-define_atom : goal.returns-in_err-define_atom
returns-in_err-define_atom g c =
    let x = c.from_residual in
    let h = c.loop-number.invariant in
    let only = only_numbers_both c.args.trace.now c.loop-number.trace c.define_atom.new.trace h.stays
    c.define_atom.ensures.rest in
    let e = called_on (Unit {0}) (λ _. Unit {0}) x.result _ _ _ _ x.ensures.0 x.ensures.1 h.faults
    c.in_err-define_atom.ensures.counts only in
    record { defines = IfOk-from_err x.result _ x.ensures.0; only = e.rest; counts = e.counts }

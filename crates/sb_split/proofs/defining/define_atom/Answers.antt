use Rattle.sb_proof.specs.declared.atom.Atom.{Atom}
use Rattle.sb_split.proofs.Words.{arith, atom_in, on_ok_weaker, refl, subst, ℕ, CountsTapeFault, Names}
use Rattle.sb_split.proofs.DefinedAtoms.{defines_one}
use Rattle.sb_split.proofs.Exits.{called_on}
use Rattle.sb_split.proofs.defining.define_atom.Goals as goal

pub describe-requires : goal.describe-requires
describe-requires g c = omega (arith, c.of-id.ensures, c.requires.inside)

pub line_of-requires-clause-brought : goal.line_of-requires-clause-brought
line_of-requires-clause-brought g c = c.describe.ensures.brought

pub line_of-requires-clause-regex : goal.line_of-requires-clause-regex
line_of-requires-clause-regex g c = c.requires.regexes c.of-id.result _ c.describe.ensures.names

pub returns : goal.returns
returns g c =
    let names = subst (λ n. Names c.args.atoms.now n (atom_in c.describe.result.now)) c.of-id.ensures
    c.describe.ensures.names in
    record {
      ok = on_ok_weaker c.put_line.result
          (λ told asked memo before due tracks atoms.
          defines_one c.order_tells_apart.ensures asked before c.args.arena.now memo c.line_of.new.trace
          c.args.atoms.now c.args.number (atom_in c.describe.result.now) (atom_in c.in_ok-line.line)
          (g.L.Tape.told c.args.tape.now) (g.L.Tape.told c.line_of.new.tape) (g.L.Tape.told c.put_line.new.tape)
          c.normal_regexes_each_once.ensures.distinct c.atoms_each_once.ensures c.requires.regexes names due atoms
          (c.in_ok-line.ensures.ok asked memo before tracks) told)
          c.put_line.ensures.told;
      rest = c.in_ok-line.ensures.rest;
      counts = subst (λ old. CountsTapeFault c.put_line.result old (g.L.Tape.faults c.put_line.new.tape))
          c.in_ok-line.ensures.counts c.put_line.ensures.counts;
    }

pub returns-in_err-line : goal.returns-in_err-line
returns-in_err-line g c =
    let x = c.from_residual in
    called_on (Atom ℕ) _ x.result _ _ _ _ x.ensures.0 x.ensures.1 refl c.in_err-line.ensures.counts
    c.in_err-line.ensures.rest

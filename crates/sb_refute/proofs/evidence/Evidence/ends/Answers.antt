use Rattle.sb_proof.specs.Lines.{piece_in}
use Rattle.sb_proof.specs.declared.atom.Piece as code
use Rattle.sb_refute.proofs.Words.{ℕ, List, length, map, sym, ap, subst, IfOk, AtomOver, IsAlone, SpeaksAlone, in_atom}
use Rattle.sb_refute.proofs.OneAtom.{end-alone}
use Rattle.sb_refute.proofs.evidence.Evidence.ends.Goals as goal

pub alone-requires : goal.alone-requires
alone-requires g c =
    let none = ap (λ (ps : List code.Piece). in_atom (map piece_in ps) c.args.regex) c.new-pieces.ensures.items in
    record {
      alone = subst (SpeaksAlone (length c.args.arena.now)) (sym none)
          (end-alone (length c.args.arena.now) c.args.regex c.requires.known);
      regexes = c.requires.regexes;
    }

pub returns : goal.returns
returns g c =
    let none = ap (λ (ps : List code.Piece). in_atom (map piece_in ps) c.args.regex) c.new-pieces.ensures.items in
    record {
      ends = subst (λ (a : AtomOver ℕ). IfOk c.alone.result (IsAlone c.args.arena.now a c.args.self.now
          c.alone.new.self (g.L.Tape.told c.args.tape.now) (g.L.Tape.told c.alone.new.tape))) none c.alone.ensures.is;
      counts = c.alone.ensures.counts;
    }

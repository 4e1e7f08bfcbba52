use Rattle.sb_refute.proofs.Words.{◌≡◌, take, refl, subst, on_ok_weaker, Memo, Asked, OnlyNumbers, Backing, backing_of, AreDue, Called, Leads}
use Rattle.sb_refute.proofs.Asserting.{leads-defined}
use Rattle.sb_refute.proofs.evidence.Evidence.define.Goals as goal

pub returns : goal.returns
returns g c =
    let v = backing_of c.self.inside.parts in
    let now = record v { trace = c.define_atoms.new.trace } in
    subst (λ (e : Backing). Called c.define_atoms.result
    (λ _. (asked : Asked) (memo : Memo) → AreDue asked c.args.known e.atoms
    → Leads asked c.args.arena.now memo (record e { atoms = take c.args.known e.atoms }) now
    (g.L.Tape.told c.args.tape.now) (g.L.Tape.told c.define_atoms.new.tape))
    (OnlyNumbers e.trace now.trace × (now ≡ record e { trace = now.trace })) (g.L.Tape.faults c.args.tape.now)
    (g.L.Tape.faults c.define_atoms.new.tape)) c.self.view_is
    (record {
      ok = on_ok_weaker c.define_atoms.result
          (λ puts asked memo due.
          leads-defined asked c.args.arena.now memo v c.define_atoms.new.trace (take c.args.known v.atoms)
          (g.L.Tape.told c.args.tape.now) (g.L.Tape.told c.define_atoms.new.tape)
          (λ before. puts asked memo before due)) c.define_atoms.ensures.defines;
      rest = (c.define_atoms.ensures.only, refl);
      counts = c.define_atoms.ensures.counts;
    })

use Rattle.sb_theory.proofs.Words.{[], ◌≡◌, Grows, IsSofar, Stands, SpendsWithin}
use Rattle.sb_theory.specs.Walks.{unnoted}
use Rattle.sb_theory.proofs.strings.Strings.refute.Given as goal

abbrev pub invariant-loop-wrong : goal.invariant-loop-wrong
invariant-loop-wrong g l = record {
  stands : Stands l.self l.trail.literals;
  whole : l.self.taken.items ≡ l.trail.literals;
  settled : l.self.changed ≡ [];
  sofar : IsSofar l.fn.self l.self l.trail.literals l.fn.budget l.budget (g.L.Tape.told l.fn.tape) (g.L.Tape.told
      l.tape);
  grows : Grows l.fn.self l.self;
  steps : SpendsWithin l.fn.budget l.budget;
  faults : g.L.Tape.faults l.tape ≡ g.L.Tape.faults l.fn.tape;
}

abbrev pub decreases-loop-wrong : goal.decreases-loop-wrong
decreases-loop-wrong g l = unnoted l.self l.trail.literals

use Rattle.std.proofs.Common.{refl, arith}
use Rattle.sb_input.proofs.SearchLemmas.{none_kept, none_searched, line_taken}
use Rattle.sb_input.proofs.lines.Lines.take_line.Goals as goal

pub invariant_of-self-in-None : goal.invariant_of-self-in-None
invariant_of-self-in-None c =
    let l = c.self.inside in
    let h = rw c.deref.ensures.value at c.in-None.ensures in
    record {
      line_from = omega arith;
      line_to = omega arith;
      within = omega (arith, c.self.invariant.within);
      none = none_searched l.bytes.items l.start l.searched c.self.invariant.none c.len.result (omega arith) h;
      limited = c.self.invariant.limited;
      below = c.self.invariant.below;
    }

pub returns-in-Some-clause-taken : goal.returns-in-Some-clause-taken
returns-in-Some-clause-taken c =
    let l = c.self.inside in
    let h = rw c.deref.ensures.value at c.in-Some.ensures in
    rw (← c.self.view_is)
    (line_taken l.bytes.items l.start l.searched c.self.invariant.none c.in-Some.place l.line_start l.line_end l.ended
    l.read l.limit h)

pub returns-in-None-clause-taken : goal.returns-in-None-clause-taken
returns-in-None-clause-taken c =
    let l = c.self.inside in
    let h = rw c.deref.ensures.value at c.in-None.ensures in
    rw (← c.self.view_is) (refl, none_kept l.bytes.items l.start l.searched c.self.invariant.none h)

-- The bytes are those of one entry, and what the parse says of them is the answer.
use Rattle.sb_reader.proofs.Answered.{entry_is_one, takes_command, takes_refused}
use Rattle.std.proofs.Common.{ℕ, List, length, ap, arith}
use Rattle.std.proofs.lemmas.List.{length-drop}
use Rattle.sb_reader.specs.Feeding.{Unanswered}
use Rattle.sb_reader.proofs.feed.Feed.take.Goals as goal
use Rattle.sb_reader.proofs.feed.Feed.take.Goals.{in-Ok, in-Err}

pub parse_entry-requires : goal.parse_entry-requires
parse_entry-requires c =
    rw c.deref.ensures.value
    (entry_is_one c.self.inside.kept.items c.self.inside.start c.args.end c.self.inside.finished
    (rw (← c.self.view_is) at c.requires))

pub returns-clause-ok : goal.returns-clause-ok
returns-clause-ok c =
    let says = rw c.deref.ensures.value at c.in_ok-sexpr.ensures in
    let ends = rw (← c.self.view_is) at c.requires in
    elim c.match-branch-2.branch [
      | in-Ok w ↦ rw (w.next-is, ← c.self.view_is)
          (takes_command c.self.inside.kept.items c.self.inside.start c.args.end c.self.inside.finished ends
          c.in_ok-sexpr.field-0 says w.in-Ok.sexpr w.in-Ok.is)
      | in-Err w ↦ rw (w.next-is, ← c.self.view_is)
          (takes_refused c.self.inside.kept.items c.self.inside.start c.args.end c.self.inside.finished ends
          c.in_ok-sexpr.field-0 says w.in-Err.refusal w.in-Err.is)
    ]

pub invariant_of-self : goal.invariant_of-self
invariant_of-self c =
    record {
      within = omega (
        arith,
        c.requires.within,
        ap (λ (v : Unanswered). length v.0) c.self.view_is,
        length-drop c.self.inside.start c.self.inside.kept.items,
        c.self.invariant.within,
      );
      scan_of = c.new-self-inside.ensures.scan _;
    }

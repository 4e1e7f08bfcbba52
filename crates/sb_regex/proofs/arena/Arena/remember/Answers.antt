use Rattle.sb_regex.proofs.Remembering.{call_added, calls_kept}
use Rattle.sb_regex.specs.Table.{regexes_of}
use Rattle.sb_regex.proofs.arena.Arena.remember.Goals as goal

pub invariant_of-self-2 : goal.invariant_of-self-2
invariant_of-self-2 c = (
  c.self.invariant.0,
  call_added (regexes_of c.self.inside.nodes.keys) _ _ _ c.args.call c.args.id c.self.invariant.1
      c.in_ok-insert.ensures.updates.0 (rw (c.self.view_is) c.requires.parts)
      (rw (c.self.view_is) c.requires.answer),
  c.self.invariant.2,
)

pub invariant_of-self : goal.invariant_of-self
invariant_of-self c = (
  c.self.invariant.0,
  calls_kept (regexes_of c.self.inside.nodes.keys) _ _ _ c.self.invariant.1 c.in_err-insert.ensures.err,
  c.self.invariant.2,
)

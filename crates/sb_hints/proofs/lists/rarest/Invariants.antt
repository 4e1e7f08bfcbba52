use Rattle.sb_hints.specs.Listing.{IsPlace}
use Rattle.sb_hints.proofs.lists.rarest.Given as goal

abbrev pub invariant-loop-literal : goal.invariant-loop-literal
invariant-loop-literal l = IsPlace l.clause l.best

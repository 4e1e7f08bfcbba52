-- Literals by hash.
use Rattle.std.specs.Prelude.{◌==◌, Bool, ◌&&◌}
use mathlib.Core.Bool.{beq}
use Rattle.sb_lit.specs.declared.clause.Lit.{Lit}

-- the literals are one, as `==` finds out
abbrev pub are_equal : Lit → Lit → Bool
are_equal l m = (l.atom == m.atom) && beq l.positive m.positive

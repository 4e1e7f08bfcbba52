-- Parameters of a definition, as its body is read: each stands for the argument at its place.
use Rattle.std.specs.Prelude.{ℕ, ◌+◌, List, [], ◌∷◌}
use Rattle.sb_meaning.specs.Terms.{parameter}
use Rattle.sb_script.specs.Scopes.{Naming, a_term}
use Rattle.sb_term.specs.Symbols.{sort_in}
use Rattle.sb_sorts.specs.declared.read.Parameter.{Parameter}

-- parameters, as they stand for their places from this one on
abbrev pub bound_in : ℕ → List Parameter → List Naming
bound_in place [] = []
bound_in place (p ∷ ps) = (p.name.now, a_term (parameter place (sort_in p.sort))) ∷ bound_in (place + 1) ps

-- Private: what holds of the names that a scope keeps in a map.
use Rattle.std.specs.Prelude.{◌≡◌, ℕ, Bool, true, nat_lt, List, map, length}
use Rattle.std.specs.declared.vec.Vec.{Vec}
use Rattle.std.specs.declared.alloc.Global.{Global}
use Rattle.sb_meaning.specs.Terms.{Term}
use Rattle.sb_script.specs.Names.{Name}
use Rattle.sb_script.specs.Scopes.{Naming}
use Rattle.sb_sorts.specs.declared.scope.Named.{Named}
use Rattle.sb_sorts.specs.declared.scope.Named.TheVariants as code
use Rattle.sb_term.specs.declared.sort.Sort.{Sort}
use Rattle.sb_term.specs.Symbols.{sort_in}
use Rattle.sb_sorts.specs.Scopes.{naming_in, constants_among, serials_in, ascend_below, are_sorted}

-- the entries of a map as names, and as what the definitions have
abbrev pub kept_in : List (Vec ℕ Global × Named) → List (Name × Named)
kept_in entries = map (λ e. (e.0.items, e.1)) entries

abbrev pub namings_in : List Term → List (Vec ℕ Global × Named) → List Naming
namings_in ts entries = map (naming_in ts) (kept_in entries)

-- a constant has a serial below this
abbrev pub named_below : ℕ → Named → Bool
named_below n (code.Constant serial sort) = nat_lt serial.0 n
named_below n (code.Definition d) = true
named_below n code.Marked = true

-- serials ascend, and are below the number of sorts; each constant has the sort that stands at its serial
pub record HasSerials (ns : List (Name × Named)) (sorts : List Sort) : Type 0 where
  pub ascend : ascend_below 0 (length sorts) (serials_in ns) ≡ true
  pub sorted : are_sorted (map sort_in sorts) (constants_among ns) ≡ true

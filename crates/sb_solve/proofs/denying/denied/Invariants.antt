use Rattle.std.specs.HashSet.{contains}
use Rattle.sb_solve.proofs.Words.{◌≡◌, ◌++◌, List, drop, filter, Regex, are_equal, atoms_in, claim_of, denied_in, each_once}
use Rattle.sb_solve.proofs.denying.denied.Given as goal

abbrev pub invariant-loop-assumption : goal.invariant-loop-assumption
invariant-loop-assumption l = (rs : List Regex)
    → l.found.items ++ filter (λ a. contains are_equal l.claims (claim_of a))
    (each_once (drop l.assumption-index l.given)) ≡ denied_in (atoms_in rs l.atoms) l.clause l.given

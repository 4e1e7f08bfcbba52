use Rattle.std.proofs.Common.{◌≡◌, ℕ, [], map, drop}
use Rattle.sb_script.specs.Names.{Name}
use Rattle.sb_script.specs.Reading.{first_again}
use Rattle.sb_sorts.specs.Binding.{pairs_of, items_of}
use Rattle.sb_sorts.proofs.read.first_again.Given as goal

abbrev pub invariant-loop-one : goal.invariant-loop-one
invariant-loop-one l =
    first_again [] (map (λ (p : Name × ℕ). p.0) (pairs_of l.bound))
    ≡ first_again (items_of l.seen.keys) (map (λ (p : Name × ℕ). p.0) (pairs_of (drop l.one-index l.bound)))

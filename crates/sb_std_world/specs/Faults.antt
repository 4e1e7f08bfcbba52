-- What is counted of the real outside.
use Rattle.std.specs.Prelude.{ℕ}
use Rattle.sb_std_world.specs.declared.StdWorld.{StdWorld}

-- how often it has failed
abbrev pub faults_of : StdWorld → ℕ
faults_of w = w.failures.count

use Rattle.std.proofs.Common.{refl}
use Rattle.sb_regex.proofs.CallerLemmas.{extends_same}
use Rattle.sb_rules.proofs.kept.Kept.learn.Goals as goal

pub returns-in_err-level-clause-terms : goal.returns-in_err-level-clause-terms
returns-in_err-level-clause-terms c = record { extends = extends_same _; normals = refl; measures = refl }

-- An error where no kind may come.
use Rattle.std.proofs.Common.{◌≡◌, true, [], ◌∷◌, inl, inr, arith}
use Rattle.clap.specs.Words.{HasKind, Kinds, kind_of}
use Rattle.clap.specs.Walk.{is_empty}
use Rattle.clap.specs.declared.error.Error.{Error}
use Rattle.clap.specs.declared.error.kind.ErrorKind.TheVariants.{OutOfMemory}

pub no_fault_kind : (kinds : Kinds) (e : Error) → is_empty kinds ≡ true → HasKind kinds e → kind_of e ≡ OutOfMemory
no_fault_kind [] e none (inl memory) = memory
no_fault_kind [] e none (inr among) = absurd among
no_fault_kind (k ∷ ks) e none has = absurd (grind arith)

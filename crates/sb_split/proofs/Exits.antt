-- The exits of calls on a tape.
use Rattle.sb_split.proofs.Words.{◌≡◌, ℕ, Result, Err, subst, IsErr, IsErrAnd, IfOk-from_err, err_from_is_err_and, CountsTapeFault, counts_none, counts_on, Called, TapeFault}
use Rattle.sb_proof.specs.declared.tape.TapeFault.TheVariants as fault

-- behind a fault of another call, in front of which none was counted,
pub called_on : (A : Type 0) {B Q : Type 0} (P : B → Type 0) (result : Result B TapeFault) (f : TapeFault)
    (old mid new : ℕ) → IsErr result → IsErrAnd result (λ e. e ≡ f) → mid ≡ old
    → CountsTapeFault {A = A} (Err f) mid new → Q → Called result P Q old new
called_on A P result f old mid new fails is same counts rest =
    let e = err_from_is_err_and result is in
    record {
      ok = IfOk-from_err result P fails;
      rest = rest;
      counts = subst (λ n. CountsTapeFault result n new) same (counts_on A result e.0 f mid new e.1 e.2 counts);
    }

-- and for want of memory
pub called_none : {B Q : Type 0} (P : B → Type 0) (result : Result B TapeFault) (old new : ℕ) → IsErr result
    → IsErrAnd result (λ e. e ≡ fault.NoMemory) → new ≡ old → Q → Called result P Q old new
called_none P result old new fails is same rest =
    let e = err_from_is_err_and result is in
    record {
      ok = IfOk-from_err result P fails;
      rest = rest;
      counts = subst (λ n. CountsTapeFault result n new) same (counts_none result e.0 new e.1 e.2);
    }

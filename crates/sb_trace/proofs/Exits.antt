-- What a result says, and what follows from that.
use Rattle.std.proofs.Common.{◌≡◌, ℕ, true, false, Option, Some, Result, Ok, Err, refl, subst}
use Rattle.std.specs.Option.{IfSome}
use Rattle.std.specs.Result.{is_err, OnOk, OnErr, IfOk}
use Rattle.std.proofs.lemmas.Bool.{true≢false, false≢true}
use Rattle.sb_proof.specs.declared.tape.TapeFault.{TapeFault}
use Rattle.sb_proof.specs.declared.tape.TapeFault.TheVariants as fault
use Rattle.sb_trace.specs.Putting.{CountsTapeFault}

pub told_ok : {A E : Type 0} (r : Result A E) (P : Type 0) → is_err r ≡ false → OnOk r P → P
told_ok (Ok x) P fine h = h
told_ok (Err e) P fine h = absurd (true≢false fine)

pub told_err : {A E : Type 0} (r : Result A E) (P : Type 0) → is_err r ≡ true → OnErr r P → P
told_err (Ok x) P fails h = absurd (false≢true fails)
told_err (Err e) P fails h = h

pub on_ok_more : {A E : Type 0} (r : Result A E) (P Q : Type 0) → (P → Q) → OnOk r P → OnOk r Q
on_ok_more (Ok x) P Q f h = f h
on_ok_more (Err e) P Q f h = tt

pub if_ok_more : {A E : Type 0} (r : Result A E) (P Q : A → Type 0) → ((x : A) → P x → Q x) → IfOk r P → IfOk r Q
if_ok_more (Ok x) P Q f h = f x h
if_ok_more (Err e) P Q f h = tt

pub on_ok_known : {A E : Type 0} (r : Result A E) (P : Type 0) → P → OnOk r P
on_ok_known (Ok x) P h = h
on_ok_known (Err e) P h = tt

-- Faults of the tape that are handed on, and want of memory, which is none.

pub counts_on : (A : Type 0) {B : Type 0} (r : Result B TapeFault) (e f : TapeFault) (old new : ℕ) → r ≡ Err e → e ≡ f
    → CountsTapeFault {A = A} (Err f) old new → CountsTapeFault r old new
counts_on A (Ok x) e f old new is same h = absurd (Prim.cc (is))
counts_on A (Err fault.Fault) fault.Fault fault.Fault old new is same h = h
counts_on A (Err fault.NoMemory) fault.NoMemory fault.NoMemory old new is same h = h
counts_on A (Err fault.Fault) fault.NoMemory f old new is same h = absurd (Prim.cc (is))
counts_on A (Err fault.NoMemory) fault.Fault f old new is same h = absurd (Prim.cc (is))
counts_on A (Err fault.Fault) fault.Fault fault.NoMemory old new is same h = absurd (Prim.cc (same))
counts_on A (Err fault.NoMemory) fault.NoMemory fault.Fault old new is same h = absurd (Prim.cc (same))

pub counts_none : {B : Type 0} (r : Result B TapeFault) (e : TapeFault) (n : ℕ) → r ≡ Err e → e ≡ fault.NoMemory
    → CountsTapeFault r n n
counts_none (Ok x) e n is none = refl
counts_none (Err fault.NoMemory) e n is none = refl
counts_none (Err fault.Fault) fault.Fault n is none = absurd (Prim.cc (none))
counts_none (Err fault.Fault) fault.NoMemory n is none = absurd (Prim.cc (is))

pub told_some : {A : Type 0} (o : Option A) (x : A) (P : A → Type 0) → o ≡ Some x → IfSome o P → P x
told_some {A} o x P is h = subst (λ (p : Option A). IfSome p P) is h

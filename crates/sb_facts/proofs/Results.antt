-- Results.
use Rattle.std.proofs.Common.{◌≡◌, true, false, Result, Ok, Err, is_err, IfOk, OnOk, OnErr}
use Rattle.std.proofs.lemmas.Bool.{false≢true, true≢false}

pub told_ok : {A E : Type 0} (r : Result A E) (P : Type 0) → is_err r ≡ false → OnOk r P → P
told_ok (Ok x) P fine h = h
told_ok (Err e) P fine h = absurd (true≢false fine)

pub told_err : {A E : Type 0} (r : Result A E) (P : Type 0) → is_err r ≡ true → OnErr r P → P
told_err (Ok x) P fails h = absurd (false≢true fails)
told_err (Err e) P fails h = h

pub ok_then : {A E : Type 0} (r : Result A E) (P Q : Type 0) → (P → Q) → OnOk r P → OnOk r Q
ok_then (Ok x) P Q f h = f h
ok_then (Err e) P Q f h = tt

pub ok_more : {A E : Type 0} (P Q : A → Type 0) (r : Result A E) → ((x : A) → P x → Q x) → IfOk r P → IfOk r Q
ok_more P Q (Ok x) f h = f x h
ok_more P Q (Err e) f h = h

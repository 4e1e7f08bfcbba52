-- What a command is answered, what it changes and what it keeps, as one record.
use Rattle.std.proofs.Common.{◌≡◌, ℕ, List, Result, Ok, Err, IfOk, refl, ap, sym, subst, ◌∙◌}
use Rattle.std.specs.Result.{OnErr, IsErr}
use Rattle.std.proofs.lemmas.Result.{IfOk-weaker, IfOk-from_err, on_err_weaker}
use Rattle.std.specs.declared.vec.Vec.{Vec}
use Rattle.std.specs.declared.alloc.Global.{Global}
use Rattle.sb_meaning.specs.Terms.{Term}
use Rattle.sb_script.specs.Faults.{Fault, unsupported}
use Rattle.sb_script.specs.State.{State, Assumption}
use Rattle.sb_script.specs.Steps as meaning
use Rattle.sb_term.specs.declared.assertion.Assertion.{Assertion}
use Rattle.sb_sorts.specs.declared.read.ReadFault.{ReadFault}
use Rattle.sb_sorts.specs.declared.read.ReadFault.TheVariants as fault
use Rattle.sb_sorts.specs.Reads.{Faults}
use Rattle.sb_stack.specs.declared.stack.Step.{Step}
use Rattle.sb_stack.specs.declared.stack.Step.TheVariants as step
use Rattle.sb_stack.specs.Keeping.{Keeps, KeepsBy}
use Rattle.sb_stack.specs.Stacked.{Stacked, state_of}
use Rattle.sb_stack.specs.Steps.{IsStep, IsUnder, IsMoved}
use Rattle.sb_stack.specs.Taking.{IsAnswered, answered_in, asserts}
use Rattle.sb_stack.proofs.Changes.{keeps_same, keeps_more, keeps_answer, keeps_error, longer_same}

-- a command that is answered
abbrev pub Replies : {E : Type 0} → meaning.Step → Result (Vec ℕ Global) E → Stacked → Stacked → Type 0
Replies taken r old new = record {
  ok : IfOk r (λ text. IsAnswered taken text (state_of old) (state_of new));
  err : OnErr r (state_of new ≡ state_of old);
  keeps : Keeps old new;
}

pub whatever : {T E P : Type 0} (r : Result T E) → P → OnErr r P
whatever (Ok x) p = tt
whatever (Err e) p = p

pub unchanged : {E : Type 0} (taken : meaning.Step) (r : Result (Vec ℕ Global) E) (old new : Stacked) → new ≡ old
    → IfOk r (λ text. IsAnswered taken text (state_of old) (state_of old)) → Replies taken r old new
unchanged taken r old new is said =
    subst (λ (k : Stacked). Replies taken r old k) (sym is)
    (record { ok = said; err = whatever r refl; keeps = keeps_same old })

-- an answer by its bytes
pub said_as : {E : Type 0} (taken : meaning.Step) (bytes : List ℕ) (r : Result (Vec ℕ Global) E) (s : State)
    → taken ≡ meaning.answers bytes s → IfOk r (λ text. text.items ≡ bytes) → IfOk r (λ text. IsAnswered taken text s s)
said_as taken bytes r s is said =
    IfOk-weaker r (λ text. text.items ≡ bytes) (λ text. IsAnswered taken text s s)
    (λ text all. subst (λ t. IsAnswered t text s s) (sym is) (all, refl)) said

pub says : {E : Type 0} (taken : meaning.Step) (bytes : List ℕ) (r : Result (Vec ℕ Global) E) (old new : Stacked)
    → new ≡ old → taken ≡ meaning.answers bytes (state_of old) → IfOk r (λ text. text.items ≡ bytes)
    → Replies taken r old new
says taken bytes r old new same is said =
    unchanged taken r old new same (said_as taken bytes r (state_of old) is said)

-- want of memory
pub unanswered : {E : Type 0} (taken : meaning.Step) (r : Result (Vec ℕ Global) E) (old new : Stacked) → new ≡ old
    → IsErr r → Replies taken r old new
unanswered taken r old new same err =
    unchanged taken r old new same (IfOk-from_err r (λ text. IsAnswered taken text (state_of old) (state_of old)) err)

-- one that follows a change that no state shows
pub replies_after : {E : Type 0} (taken other : meaning.Step) (r : Result (Vec ℕ Global) E) (old mid new : Stacked)
    → state_of mid ≡ state_of old → Keeps old mid → taken ≡ other → Replies other r mid new → Replies taken r old new
replies_after taken other r old mid new same kept is replies = record {
  ok = IfOk-weaker r (λ text. IsAnswered other text (state_of mid) (state_of new))
      (λ text. IsAnswered taken text (state_of old) (state_of new))
      (λ text all. subst (λ s. IsAnswered taken text s (state_of new)) same
      (subst (λ t. IsAnswered t text (state_of mid) (state_of new)) (sym is) all)) replies.ok;
  err = on_err_weaker r (λ e. e ∙ same) replies.err;
  keeps = keeps_more old mid new kept replies.keeps;
}

-- a form that is no term, by the fault
abbrev pub Refuses : {E : Type 0} → ReadFault → Result (Vec ℕ Global) E → Stacked → Stacked → Type 0
Refuses fault r old new = record {
  ok : IfOk r (λ text. (reading : Result Term Fault) → Faults reading fault
      → IsAnswered (asserts reading (state_of old)) text (state_of old) (state_of new));
  err : OnErr r (state_of new ≡ state_of old);
  keeps : Keeps old new;
}

pub refused : {E : Type 0} (f kind : ReadFault) (taken : meaning.Step) (r : Result (Vec ℕ Global) E) (k : Stacked)
    → f ≡ kind → ((reading : Result Term Fault) → Faults reading kind → asserts reading (state_of k) ≡ taken)
    → IfOk r (λ text. IsAnswered taken text (state_of k) (state_of k)) → Refuses f r k k
refused f kind taken r k is by said = record {
  ok = IfOk-weaker r (λ text. IsAnswered taken text (state_of k) (state_of k))
      (λ text. (reading : Result Term Fault) → Faults reading f
      → IsAnswered (asserts reading (state_of k)) text (state_of k) (state_of k))
      (λ text all reading h. subst (λ t. IsAnswered t text (state_of k) (state_of k))
      (sym (by reading (subst (λ g. Faults reading g) is h))) all) said;
  err = whatever r refl;
  keeps = keeps_same k;
}

pub left_a_mark : {E : Type 0} (f : ReadFault) (r : Result (Vec ℕ Global) E) (old new : Stacked)
    → f ≡ fault.Unsupported → Replies (meaning.refused_term unsupported (state_of old)) r old new → Refuses f r old new
left_a_mark f r old new is replies = record {
  ok = IfOk-weaker r (λ text. IsAnswered (meaning.refused_term unsupported (state_of old)) text (state_of old) (state_of new))
      (λ text. (reading : Result Term Fault) → Faults reading f
      → IsAnswered (asserts reading (state_of old)) text (state_of old) (state_of new))
      (λ text all reading h. subst (λ t. IsAnswered t text (state_of old) (state_of new))
      (sym (ap (λ q. asserts q (state_of old)) (subst (λ g. Faults reading g) is h))) all) replies.ok;
  err = replies.err;
  keeps = replies.keeps;
}

pub refuses_reading : {E : Type 0} (f : ReadFault) (r : Result (Vec ℕ Global) E) (old new : Stacked)
    (reading : Result Term Fault) → Faults reading f → Refuses f r old new
    → Replies (asserts reading (state_of old)) r old new
refuses_reading f r old new reading h refuses = record {
  ok = IfOk-weaker r (λ text. (q : Result Term Fault) → Faults q f
      → IsAnswered (asserts q (state_of old)) text (state_of old) (state_of new))
      (λ text. IsAnswered (asserts reading (state_of old)) text (state_of old) (state_of new))
      (λ text all. all reading h) refuses.ok;
  err = refuses.err;
  keeps = refuses.keeps;
}

-- a command that becomes a step
abbrev pub Takes : {E : Type 0} → meaning.Step → Result Step E → Stacked → Stacked → Type 0
Takes taken r old new = record {
  ok : IfOk r (λ x. IsStep taken x (state_of old) (state_of new));
  err : OnErr r (state_of new ≡ state_of old);
  keeps : KeepsBy r old new;
  given : IfOk r (λ x. IsUnder taken x new.assumptions);
}

pub takes_reply : {E : Type 0} (taken other : meaning.Step) (r : Result (Vec ℕ Global) E) (q : Result Step E)
    (old new : Stacked) → taken ≡ other → q ≡ answered_in r → Replies other r old new → Takes taken q old new
takes_reply taken other (Ok text) q old new is same replies =
    subst (λ x. Takes taken x old new) (sym same) (record {
      ok = subst (λ t. IsStep t (step.Answer text) (state_of old) (state_of new)) (sym is) replies.ok;
      err = tt;
      keeps = keeps_answer text old new replies.keeps;
      given = tt;
    })
takes_reply taken other (Err e) q old new is same replies =
    subst (λ x. Takes taken x old new) (sym same)
    (record { ok = tt; err = replies.err; keeps = keeps_error e old new replies.keeps; given = tt })

pub takes_as : {E : Type 0} (taken other : meaning.Step) (r : Result Step E) (old new : Stacked) → taken ≡ other
    → Takes other r old new → Takes taken r old new
takes_as taken other r old new is takes = subst (λ t. Takes t r old new) (sym is) takes

moved_same : {E : Type 0} (r : Result Step E) (xs : List Assertion) → IsMoved r xs xs
moved_same (Ok (step.Answer text)) xs = longer_same xs
moved_same (Ok step.Check) xs = longer_same xs
moved_same (Ok (step.Left text level)) xs = longer_same xs
moved_same (Ok (step.Exit text)) xs = longer_same xs
moved_same (Err e) xs = longer_same xs

-- a step that changes nothing
takes_same : {E : Type 0} (taken other : meaning.Step) (r : Result Step E) (k : Stacked) → taken ≡ other
    → IfOk r (λ x. IsStep other x (state_of k) (state_of k)) → IfOk r (λ x. IsUnder other x k.assumptions)
    → Takes taken r k k
takes_same taken other r k is said under =
    let same = keeps_same k in
    subst (λ t. Takes t r k k) (sym is) (record {
      ok = said;
      err = whatever r refl;
      keeps = record {
        extends = same.extends;
        moved = moved_same r k.assertions;
        words = same.words;
        constants = same.constants;
      };
      given = under;
    })

-- the end of the run
under_exit : (bytes : List ℕ) (x : Step) (s t : State) (given : List Assumption) → IsStep (meaning.exits bytes) x s t
    → IsUnder (meaning.exits bytes) x given
under_exit bytes (step.Left text level) s t given h = tt
under_exit bytes (step.Answer text) s t given h = tt
under_exit bytes step.Check s t given h = absurd h
under_exit bytes (step.Exit text) s t given h = tt

pub takes_exit : {E : Type 0} (taken : meaning.Step) (bytes : List ℕ) (r : Result Step E) (k : Stacked)
    → taken ≡ meaning.exits bytes → IfOk r (λ x. IsStep (meaning.exits bytes) x (state_of k) (state_of k))
    → Takes taken r k k
takes_exit taken bytes r k is said =
    let s = state_of k in
    takes_same taken (meaning.exits bytes) r k is said
    (IfOk-weaker r (λ x. IsStep (meaning.exits bytes) x s s) (λ x. IsUnder (meaning.exits bytes) x k.assumptions)
    (λ x h. under_exit bytes x s s k.assumptions h) said)

-- a check, whose assumptions are kept
pub takes_check : {E : Type 0} (taken : meaning.Step) (given : List Assumption) (r : Result Step E) (old new : Stacked)
    → taken ≡ meaning.checks given → r ≡ Ok step.Check → new ≡ record old { assumptions = given }
    → Takes taken r old new
takes_check {E} taken given r old new is asked done =
    let same = keeps_same old in
    subst (λ (x : Result Step E). Takes taken x old new) (sym asked)
    (subst (λ (k : Stacked). Takes {E = E} taken (Ok step.Check) old k) (sym done)
    (subst (λ t. Takes {E = E} t (Ok step.Check) old (record old { assumptions = given })) (sym is) (record {
      ok = refl;
      err = tt;
      keeps = record {
        extends = same.extends;
        moved = longer_same old.assertions;
        words = refl;
        constants = same.constants;
      };
      given = refl;
    })))

-- the same step by another name
pub replies_as : {E : Type 0} (taken other : meaning.Step) (r : Result (Vec ℕ Global) E) (old new : Stacked)
    → taken ≡ other → Replies other r old new → Replies taken r old new
replies_as taken other r old new is replies = subst (λ t. Replies t r old new) (sym is) replies

-- an answer with a change
pub said_and_done : (taken : meaning.Step) (bytes : List ℕ) (text : Vec ℕ Global) (old new : Stacked) (s : State)
    → taken ≡ meaning.answers bytes s → text.items ≡ bytes → state_of new ≡ s → Keeps old new
    → record { ok : IsAnswered taken text (state_of old) (state_of new); err : Unit {0}; keeps : Keeps old new }
said_and_done taken bytes text old new s is said done keeps = record {
  ok = subst (λ t. IsAnswered t text (state_of old) (state_of new)) (sym is) (said, done);
  err = tt;
  keeps = keeps;
}

-- want of memory in a call that leaves the state as it was
pub ended : {E : Type 0} (taken : meaning.Step) (r : Result (Vec ℕ Global) E) (old new : Stacked) → IsErr r
    → state_of new ≡ state_of old → Keeps old new → Replies taken r old new
ended taken r old new err same keeps = record {
  ok = IfOk-from_err r (λ text. IsAnswered taken text (state_of old) (state_of new)) err;
  err = whatever r same;
  keeps = keeps;
}

pub takes_failed : {E : Type 0} (taken : meaning.Step) (r : Result Step E) (k : Stacked) → IsErr r → Takes taken r k k
takes_failed taken r k err =
    takes_same taken taken r k refl (IfOk-from_err r (λ x. IsStep taken x (state_of k) (state_of k)) err)
    (IfOk-from_err r (λ x. IsUnder taken x k.assumptions) err)

pub keeps_view : (k old new : Stacked) → k ≡ old → Keeps k new → Keeps old new
keeps_view k old new is keeps = subst (λ (o : Stacked). Keeps o new) is keeps

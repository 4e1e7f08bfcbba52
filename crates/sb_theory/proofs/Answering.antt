-- What an answer says, step behind step, and to the search.
use Rattle.sb_theory.proofs.Words.{◌+◌, ◌<◌, ◌≡◌, ◌≢◌, Bool, Err, List, None, Ok, Option, Result, ap, arith, refl, subst, true, ℕ, Agrees, Answers, Ask, Assigned, Checked, CountsFaults, CountsTapeFault, Falls, Fine, Grows, IfOk-from_err, IfOk-weaker, IsErr, IsErrAnd, IsLook, IsPaid, IsQuiet, IsSofar, IsWish, IsWished, Keeps, Kept, Lemma, Lit, Spending, SpendsWithin, Spent, Stands, Strings, TapeFault, all_among, atoms_in, counts_none, decided, err_from_is_err_and, is_atom, kept_behind, spent_both, spent_none, ungranted, value_of, writes_both, written}
use Rattle.sb_theory.proofs.Moving.{grows_both}
use Rattle.sb_theory.proofs.Writing.{quiet_both, quiet_kept, ungranted_kept, writes_kept, writes_step}
use Rattle.sb_theory.specs.Judged.{PutsStep}
use Rattle.sb_theory.specs.Walks.{IsFalseStep}
use Rattle.sb_sound.specs.MembershipLaws.{StepsAreExact, StepsHold}
use Rattle.sb_proof.specs.declared.tape.TapeFault.TheVariants as fault

-- An answer for which no line is put: nothing is wrong, a wish, or all is spent.

pub answers_fine : {x y : Strings} {entries : List Assigned} {budget : Spending} {told : Option (List ℕ)} {last : Bool}
    → Stands y entries → (last ≡ true → Agrees y entries) → Keeps x y
    → Answers x y entries budget budget told told last Fine
answers_fine {budget = budget} {told = told} stands agrees h = record {
  stands = stands;
  agrees = λ whole fine. agrees whole;
  fair = tt;
  paid = tt;
  quiet = λ some. quiet_kept budget budget h;
  wished = tt;
  writes = λ kept none_false. writes_kept h (written kept budget told);
}

pub answers_asked : {x y : Strings} {entries : List Assigned} {budget : Spending} {told : Option (List ℕ)}
    {last : Bool} (l : Lit) → Stands y entries → value_of entries l.atom ≡ None → IsWish y l.atom
    → is_atom y.atoms l.atom ≡ true → Keeps x y → Answers x y entries budget budget told told last (Ask l)
answers_asked {budget = budget} {told = told} l stands none wish there h = record {
  stands = stands;
  agrees = λ whole fine. absurd (Prim.cc (fine));
  fair = (none, there);
  paid = tt;
  quiet = λ some. quiet_kept budget budget h;
  wished = (none, wish);
  writes = λ kept none_false. writes_kept h (written kept budget told);
}

pub answers_spent : {x y : Strings} {entries : List Assigned} {budget : Spending} {told : Option (List ℕ)}
    {last : Bool} → Stands y entries → budget.spent ≡ budget.limit → Keeps x y
    → Answers x y entries budget budget told told last Spent
answers_spent {budget = budget} {told = told} stands spent h = record {
  stands = stands;
  agrees = λ whole fine. absurd (Prim.cc (fine));
  fair = tt;
  paid = spent;
  quiet = λ some. quiet_kept budget budget h;
  wished = tt;
  writes = λ kept none_false. writes_kept h (written kept budget told);
}

-- A clause by rule step, for which a step is spent.
pub answers_step : StepsHold → StepsAreExact → {x : Strings} {entries : List Assigned} {last : Bool} (clause : List Lit)
    (before after : Spending) (old new : Option (List ℕ)) → Stands x entries → IsFalseStep x entries clause
    → before.spent < before.limit → after ≡ record before { spent = before.spent + 1 }
    → (x.proves ≡ true → PutsStep clause old new) → Answers x x entries before after old new last (Lemma clause)
answers_step holds exact {x} {entries} clause before after old new stands wrong room spent puts =
    let one = ap (λ (s : Spending). s.spent) spent in
    record {
      stands = stands;
      agrees = λ whole fine. absurd (Prim.cc (fine));
      fair = (
        λ l among. all_among (λ m. is_atom x.atoms m.atom) clause l wrong.known among,
        (
          wrong.known,
          λ v words. holds v (atoms_in x.store.arena x.atoms) clause
              ((exact (atoms_in x.store.arena x.atoms) clause).1 wrong.step),
        ),
      );
      paid = omega (arith, one);
      quiet = λ some same entries. absurd (omega (arith, same, one));
      wished = tt;
      writes = λ kept none_false. writes_step exact kept clause before after old new wrong none_false room spent puts;
    }

-- An answer behind what came of a look so far.

paid_behind : (a b c : Spending) (answer : Checked) → SpendsWithin a b → IsPaid b c answer → IsPaid a c answer
paid_behind a b c Fine first paid = tt
paid_behind a b c (Lemma clause) first paid = omega (arith, first.spent, paid)
paid_behind a b c (Ask l) first paid = tt
paid_behind a b c Spent first paid = paid

pub answers_behind : {x y z : Strings} {entries : List Assigned} {a b c : Spending} {old mid new : Option (List ℕ)}
    {last : Bool} (answer : Checked) → SpendsWithin a b → SpendsWithin b c → IsSofar x y entries a b old mid
    → Answers y z entries b c mid new last answer → Answers x z entries a c old new last answer
answers_behind {x} {y} {z} {a = a} {b = b} {c = c} {old = old} {mid = mid} {new = new} answer first second sofar end =
    record {
      stands = end.stands;
      agrees = end.agrees;
      fair = end.fair;
      paid = paid_behind a b c answer first end.paid;
      quiet = λ some. quiet_both x y z first second sofar.quiet (end.quiet some);
      wished = end.wished;
      writes = λ kept none_false.
          writes_both x y z (written kept a old) (written kept b mid) (written (kept_behind kept answer) c new)
          (sofar.writes kept) (end.writes kept none_false);
    }

-- the same where nothing was put before
pub answers_kept : {x y z : Strings} {entries : List Assigned} {budget after : Spending} {told new : Option (List ℕ)}
    {last : Bool} (answer : Checked) → Keeps x y → Answers y z entries budget after told new last answer
    → Answers x z entries budget after told new last answer
answers_kept {x} {y} {z} {budget = budget} {after = after} {told = told} {new = new} answer h end = record {
  stands = end.stands;
  agrees = end.agrees;
  fair = end.fair;
  paid = end.paid;
  quiet = λ some same entries. omega (arith, end.quiet some same entries, ungranted_kept h entries);
  wished = end.wished;
  writes = λ kept none_false.
      writes_both x y z (written kept budget told) (written kept budget told)
      (written (kept_behind kept answer) after new) (writes_kept h (written kept budget told))
      (end.writes kept none_false);
}

-- A look where memory is wanted, or a call that may put lines failed, and one behind what came of it so far.

pub look_failed : {x y : Strings} {entries : List Assigned} {budget : Spending} {told : Option (List ℕ)} {faults : ℕ}
    {last : Bool} (r : Result Checked TapeFault) → IsErr r → IsErrAnd r (λ e. e ≡ fault.NoMemory) → Grows x y
    → IsLook x y entries budget budget told told faults faults last r
look_failed {budget = budget} {faults = faults} r failed none g =
    let p = err_from_is_err_and r none in
    record {
      answers = IfOk-from_err r _ failed;
      grows = g;
      steps = spent_none budget;
      counts = counts_none r p.0 faults p.1 p.2;
    }

-- the same behind calls that spent steps
pub look_stopped : {x y : Strings} {entries : List Assigned} {before after : Spending} {old new : Option (List ℕ)}
    {faults now : ℕ} {last : Bool} (r : Result Checked TapeFault) → IsErr r → Grows x y → SpendsWithin before after
    → CountsTapeFault r faults now → IsLook x y entries before after old new faults now last r
look_stopped r failed g steps counts =
    record { answers = IfOk-from_err r _ failed; grows = g; steps = steps; counts = counts }

-- an answer that was given
pub look_answered : {x y : Strings} {entries : List Assigned} {before after : Spending} {old new : Option (List ℕ)}
    {faults : ℕ} {last : Bool} (answer : Checked) → Grows x y → SpendsWithin before after
    → Answers x y entries before after old new last answer
    → IsLook x y entries before after old new faults faults last (Ok answer)
look_answered answer g steps end = record { answers = end; grows = g; steps = steps; counts = refl }

pub look_after : {x y z : Strings} {entries : List Assigned} {a b c : Spending} {old mid new : Option (List ℕ)}
    {faults between now : ℕ} {last : Bool} (r : Result Checked TapeFault) → Grows x y → SpendsWithin a b
    → between ≡ faults → IsSofar x y entries a b old mid → IsLook y z entries b c mid new between now last r
    → IsLook x z entries a c old new faults now last r
look_after {a = a} {b = b} {c = c} {now = now} r g first same sofar h = record {
  answers = IfOk-weaker r _ _ (λ answer end. answers_behind answer first h.steps sofar end) h.answers;
  grows = grows_both g h.grows;
  steps = spent_both a b c first h.steps;
  counts = subst (λ n. CountsTapeFault r n now) same h.counts;
}

-- behind a step that puts nothing, on whatever trail
pub look_behind : {x y z : Strings} {entries : List Assigned} {budget after : Spending} {told new : Option (List ℕ)}
    {faults now : ℕ} {last : Bool} (r : Result Checked TapeFault) → Keeps x y
    → IsLook y z entries budget after told new faults now last r
    → IsLook x z entries budget after told new faults now last r
look_behind r k h = record {
  answers = IfOk-weaker r _ _ (λ answer end. answers_kept answer k end) h.answers;
  grows = grows_both k.grows h.grows;
  steps = h.steps;
  counts = h.counts;
}

-- To the search: `asked` is `ungranted_asked`.

pub answer_falls : (x y : Strings) (kept : Kept) (entries : List Assigned) (before after : Spending) (answer : Checked)
    → IsPaid before after answer → after.spent ≡ before.spent → (answer ≢ Spent → IsQuiet x y before after)
    → IsWished y entries answer
    → ((l : Lit) → IsWish y l.atom → value_of entries l.atom ≡ None
    → ungranted y (decided entries l) < ungranted y entries)
    → Falls (λ k es. ungranted x es) (λ k es. ungranted y es) kept entries answer
answer_falls x y kept entries before after Fine paid same quiet wished asked =
    quiet (λ spent. absurd (Prim.cc (spent))) same entries
answer_falls x y kept entries before after (Lemma clause) paid same quiet wished asked =
    λ level. absurd (omega (arith, paid, same))
answer_falls x y kept entries before after (Ask l) paid same quiet wished asked =
    let fewer = quiet (λ spent. absurd (Prim.cc (spent))) same entries in
    (fewer, omega (arith, fewer, asked l wished.1 wished.0))
answer_falls x y kept entries before after Spent paid same quiet wished asked = tt

pub counts_faults : {A : Type 0} (r : Result A TapeFault) (old new : ℕ) → CountsTapeFault r old new
    → CountsFaults r old new
counts_faults (Ok x) old new h = h
counts_faults (Err fault.Fault) old new h = h
counts_faults (Err fault.NoMemory) old new h = h

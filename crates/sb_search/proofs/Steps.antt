-- What steps of a search make together.
use Rattle.sb_search.proofs.Words.{◌≡◌, ℕ, ◌+◌, ◌<◌, Bool, ltb, List, [], ◌++◌, Result, Err, refl, sym, ◌∙◌, ap, subst, inl, inr, arith, append_assoc, IsErrAnd, err_from_is_err_and, HasLaws, cases_Bool, ltb-true, ltb-false, append-nil, Lit, Spending, Kept, Assigned, State, HasKnownAtoms, FollowsByLevel, GrowsTo, Moment, moment, proof_at, Stays, GoesBack, IsSpentOn, IsSpentOr, Steps, IsAnswered, Entails, IsWritten, nothing, learns, divides, Written, written, kept_behind, true_or_false, Checked, Ghosts, TapeFault, IsFair, CountsFaults}
use Rattle.sb_proof.specs.declared.tape.TapeFault.TheVariants as fault
use Rattle.sb_search.specs.declared.theory.Checked.TheVariants as checked
use Rattle.sb_search.proofs.Known.{known_on, known_more, known_written, lesson_known}
use Rattle.sb_search.proofs.Following.{entails_both, follows_same, follows_lemma, follows_on}

-- what is spent by no step, by one, and by some behind others
spent_none : (budget : Spending) → IsSpentOn budget budget
spent_none budget = record { limit = refl; spent = omega arith; within = λ more. absurd (omega (arith, more)) }

spent_one : (before after : Spending) → after ≡ record before { spent = before.spent + 1 }
    → before.spent < before.limit → IsSpentOn before after
spent_one before after is room =
    subst (λ (b : Spending). IsSpentOn before b) (sym is)
    (record { limit = refl; spent = omega arith; within = λ more. omega (arith, room) })

spent_both : (before between after : Spending) → IsSpentOn before between → IsSpentOn between after
    → IsSpentOn before after
spent_both before between after h k = record {
  limit = k.limit ∙ h.limit;
  spent = omega (arith, h.spent, k.spent);
  within = λ more. elim (cases_Bool (ltb between.spent after.spent)) [
    | inl late ↦ k.within (ltb-true between.spent after.spent late)
    | inr early ↦
        let level : after.spent ≡ between.spent =
        omega (arith, ltb-false between.spent after.spent early, k.spent) in
        omega (arith, h.within (omega (arith, more, level)), k.limit, level)
  ];
}

pub spent_more : (before after : Spending) → after ≡ record before { spent = before.spent + 1 }
    → before.spent < after.spent
spent_more before after is = omega (arith, ap (λ (b : Spending). b.spent) is)

pub spent_or : (P : Type 0) (before after : Spending) → IsSpentOn before after
    → (after.spent ≡ before.spent → P) → IsSpentOr before after P
spent_or P before after spends h =
    elim (cases_Bool (ltb before.spent after.spent)) [
      | inl more ↦ inl (ltb-true before.spent after.spent more)
      | inr all ↦
          let level : after.spent ≡ before.spent =
          omega (arith, ltb-false before.spent after.spent all, spends.spent) in
          inr (level, h level)
    ]

grows_same : (old new : Kept) → new ≡ old → GrowsTo old new
grows_same old new same = ([], same ∙ sym (append-nil old))

-- a theory that nothing was done to, or one thing after the other
pub stays_none : {T : Type 0} {t : Ghosts T} (x : T) → Stays t x x
stays_none x = record { wanted = refl; passes = λ atom h. h; teaches = λ clause h. h }

pub stays_both : {T : Type 0} {t : Ghosts T} {x y z : T} → Stays t x y → Stays t y z → Stays t x z
stays_both h k = record {
  wanted = k.wanted ∙ h.wanted;
  passes = λ atom p. k.passes atom (h.passes atom p);
  teaches = λ clause p. k.teaches clause (h.teaches clause p);
}

-- what the search writes itself grows, follows and is within the budget
record IsSoundly (before after : Written) : Type 0 where
  pub grows : GrowsTo before.kept after.kept
  pub follows : Entails before.kept after.kept
  pub spends : IsSpentOn before.budget after.budget

written_soundly : (assumptions : List Lit) (before after : Written) → IsWritten assumptions before after
    → IsSoundly before after
written_soundly assumptions before after (nothing same) =
    subst (λ (w : Written). IsSoundly before w) (sym same) (record {
      grows = grows_same before.kept before.kept refl;
      follows = λ values bound all. all;
      spends = spent_none before.budget;
    })
written_soundly assumptions before after (learns clause hints level lesson follows text room same) = record {
  grows = (_, ap (λ (w : Written). w.kept) same);
  follows = subst (λ (w : Written). Entails before.kept w.kept) (sym same) follows;
  spends = spent_one before.budget after.budget (ap (λ (w : Written). w.budget) same) room;
}
written_soundly assumptions before after (divides l among text same) = record {
  grows = (_, ap (λ (w : Written). w.kept) same);
  follows = entails_both before.kept after.kept (true_or_false l.atom) l.atom refl (ap (λ (w : Written). w.kept) same);
  spends = subst (λ (b : Spending). IsSpentOn before.budget b) (sym (ap (λ (w : Written). w.budget) same))
      (spent_none before.budget);
}

module _ {T : Type 0} {t : Ghosts T} (laws : HasLaws t) where
  pub back_none : (x : T) → GoesBack t x x
  back_none x = record { stays = stays_none x; puts = laws.none x; falls = λ kept entries. omega arith }

  puts_written : (x : T) (assumptions : List Lit) (before after : Written)
      → HasKnownAtoms (t.passes x) before.kept assumptions → IsWritten assumptions before after
      → t.puts x x before after
  puts_written x assumptions before after known (nothing same) =
      subst (λ (proof : Written). t.puts x x before proof) (sym same) (laws.none x before)
  puts_written x assumptions before after known (learns clause hints level h follows text room same) =
      subst (λ (proof : Written). t.puts x x before proof) (sym same)
      (laws.learned x before clause hints level h
      (lesson_known (t.passes x) before.kept clause hints level known.clauses h) text room)
  puts_written x assumptions before after known (divides l among text same) =
      subst (λ (proof : Written). t.puts x x before proof) (sym same)
      (laws.gate x before l.atom (known.assumed l among) text)

  -- one step after the other
  pub steps_both : (a b c : Moment T) → Steps t a b → Steps t b c → Steps t a c
  steps_both a b c h k = record {
    stays = stays_both h.stays k.stays;
    grows = (
      h.grows.0 ++ k.grows.0,
      k.grows.1 ∙ ap (λ (ks : Kept). ks ++ k.grows.0) h.grows.1 ∙ append_assoc a.search.kept h.grows.0 k.grows.0,
    );
    follows = follows_on (t.teaches b.theory) (t.teaches c.theory) a.search.kept b.search.kept c.search.kept
        k.stays.teaches h.follows k.follows;
    spends = spent_both a.budget b.budget c.budget h.spends k.spends;
    puts = laws.both a.theory b.theory c.theory (proof_at a) (proof_at b) (proof_at c) h.puts k.puts;
  }

  -- the search wrote something itself, and the theory went back
  pub steps_written : (assumptions : List Lit) (a b : Moment T) → GoesBack t a.theory b.theory
      → HasKnownAtoms (t.passes a.theory) a.search.kept assumptions → IsWritten assumptions (proof_at a) (proof_at b)
      → Steps t a b
  steps_written assumptions a b back known h =
      let soundly = written_soundly assumptions (proof_at a) (proof_at b) h in
      record {
        stays = back.stays;
        grows = soundly.grows;
        follows = λ bound values obeys all. soundly.follows values bound all;
        spends = soundly.spends;
        puts = laws.both a.theory a.theory b.theory (proof_at a) (proof_at b) (proof_at b)
            (puts_written a.theory assumptions (proof_at a) (proof_at b) known h) (back.puts (proof_at b));
      }

  pub known_after : (assumptions : List Lit) (a b : Moment T) → GoesBack t a.theory b.theory
      → HasKnownAtoms (t.passes a.theory) a.search.kept assumptions → IsWritten assumptions (proof_at a) (proof_at b)
      → HasKnownAtoms (t.passes b.theory) b.search.kept assumptions
  known_after assumptions a b back known h =
      known_on (t.passes a.theory) (t.passes b.theory) b.search.kept b.search.kept assumptions back.stays.passes refl
      (known_written (t.passes a.theory) assumptions (proof_at a) (proof_at b) h known)

-- what is kept behind an answer grows, follows and is known
grows_behind : (kept new : Kept) (answer : Checked) → new ≡ kept_behind kept answer → GrowsTo kept new
grows_behind kept new checked.Fine same = grows_same kept new same
grows_behind kept new (checked.Lemma clause) same = (_, same)
grows_behind kept new (checked.Ask l) same = grows_same kept new same
grows_behind kept new checked.Spent same = grows_same kept new same

follows_behind : (passes : ℕ → Type 0) (teaches : List Lit → Type 0) (es : List Assigned) (kept new : Kept)
    (answer : Checked) → IsFair passes teaches es answer → new ≡ kept_behind kept answer
    → FollowsByLevel teaches kept new
follows_behind passes teaches es kept new checked.Fine fair same = follows_same teaches kept new same
follows_behind passes teaches es kept new (checked.Lemma clause) fair same =
    follows_lemma teaches kept new clause same fair.1
follows_behind passes teaches es kept new (checked.Ask l) fair same = follows_same teaches kept new same
follows_behind passes teaches es kept new checked.Spent fair same = follows_same teaches kept new same

known_behind : (passes : ℕ → Type 0) (teaches : List Lit → Type 0) (es : List Assigned) (kept new : Kept)
    (assumptions : List Lit) (answer : Checked) → IsFair passes teaches es answer → new ≡ kept_behind kept answer
    → HasKnownAtoms passes kept assumptions → HasKnownAtoms passes new assumptions
known_behind passes teaches es kept new assumptions checked.Fine fair same h =
    known_on passes passes kept new assumptions (λ atom k. k) same h
known_behind passes teaches es kept new assumptions (checked.Lemma clause) fair same h =
    known_more passes kept new clause assumptions 0 same fair.0 h
known_behind passes teaches es kept new assumptions (checked.Ask l) fair same h =
    known_on passes passes kept new assumptions (λ atom k. k) same h
known_behind passes teaches es kept new assumptions checked.Spent fair same h =
    known_on passes passes kept new assumptions (λ atom k. k) same h

-- a theory was asked, and went back
module _ {T : Type 0} {t : Ghosts T} (last : Bool) (a b : Moment T) (answer : Checked) (z : T) (new : State)
    (h : IsAnswered t last a b answer) (back : GoesBack t b.theory z)
    (same : new.kept ≡ kept_behind a.search.kept answer) where
  pub steps_asked : HasLaws t → Steps t a (moment z new b.budget b.told)
  steps_asked laws =
      let after = written (kept_behind a.search.kept answer) b.budget b.told in
      record {
        stays = stays_both h.stays back.stays;
        grows = grows_behind a.search.kept new.kept answer same;
        follows = follows_on (t.teaches b.theory) (t.teaches z) a.search.kept new.kept new.kept back.stays.teaches
            (follows_behind (t.passes b.theory) (t.teaches b.theory) a.search.trail.literals a.search.kept new.kept
            answer h.fair same) (follows_same (t.teaches z) new.kept new.kept refl);
        spends = h.spends;
        puts = subst (λ (k : Kept). t.puts a.theory z (proof_at a) (written k b.budget b.told)) (sym same)
            (laws.both a.theory b.theory z (proof_at a) after after h.puts (back.puts after));
      }

  pub known_asked : (assumptions : List Lit) → HasKnownAtoms (t.passes a.theory) a.search.kept assumptions
      → HasKnownAtoms (t.passes z) new.kept assumptions
  known_asked assumptions known =
      known_on (t.passes b.theory) (t.passes z) new.kept new.kept assumptions back.stays.passes refl
      (known_behind (t.passes b.theory) (t.teaches b.theory) a.search.trail.literals a.search.kept new.kept assumptions
      answer h.fair same
      (known_on (t.passes a.theory) (t.passes b.theory) a.search.kept a.search.kept assumptions h.stays.passes refl
      known))

-- a fault behind what had none, at the exit of a `?`
counts_of : (A B : Type 0) (e : TapeFault) (old new : ℕ) → CountsFaults {A = A} (Err e) old new
    → CountsFaults {A = B} (Err e) old new
counts_of A B fault.Fault old new h = h
counts_of A B fault.NoMemory old new h = h

pub faults_on : {A B : Type 0} {r : Result A TapeFault} (q : Result B TapeFault) {e : TapeFault} {old middle : ℕ}
    (new : ℕ) → r ≡ Err e → IsErrAnd q (λ y. y ≡ e) → middle ≡ old → CountsFaults r middle new → CountsFaults q old new
faults_on {A = A} {B = B} {r = r} q {e = e} {old = old} {middle = middle} new is_r is_q level h =
    let p = err_from_is_err_and q is_q in
    subst (λ (x : Result B TapeFault). CountsFaults x old new) (sym (p.1 ∙ ap (λ (f : TapeFault). Err f) p.2))
    (subst (λ (n : ℕ). CountsFaults {A = B} (Err e) n new) level
    (counts_of A B e middle new (subst (λ (x : Result A TapeFault). CountsFaults x middle new) is_r h)))

-- and where memory was wanted
pub faults_stay : {B : Type 0} (q : Result B TapeFault) {old new : ℕ} → IsErrAnd q (λ y. y ≡ fault.NoMemory)
    → new ≡ old → CountsFaults q old new
faults_stay {B = B} q {old = old} {new = new} is_q same =
    let p = err_from_is_err_and q is_q in
    subst (λ (x : Result B TapeFault). CountsFaults x old new)
    (sym (p.1 ∙ ap (λ (f : TapeFault). Err f) p.2)) same

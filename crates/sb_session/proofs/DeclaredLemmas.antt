-- Atoms over declared constants stay so, since constants keep their sorts.
use Rattle.sb_session.proofs.Words.{◌≡◌, ℕ, Bool, true, false, if◌then◌else◌, List, [], ◌∷◌, Option, Some, None, refl, sym, ap, ◌∙◌, subst, false≢true, AtomOver, Entry, HasDeclared, IsFit, IsStep, Proving, Sort, State, Step, asked_in, step_of, is_sorted}
use Rattle.std.proofs.Common.{◌==◌, zero, suc}
use Rattle.std.specs.List.{list_all, slice_get}
use Rattle.std.proofs.lemmas.Bool.{and_parts}
use Rattle.std.proofs.lemmas.Option.{same_Some}
use Rattle.sb_facts.proofs.CallerLemmas.{all_weaker, equal_itself, same_number}
use Rattle.sb_meaning.specs.Terms.{boolean, integer, text, reglan}
use Rattle.sb_meaning.specs.Sorts.{is_same_sort}
use Rattle.sb_meaning.specs.Values.{Text, Truth, Valuation, Value, default_of, is_of}
use Rattle.sb_script.specs.Steps as meaning
use Rattle.sb_rulebook.specs.Atoms.{constants_in}
use Rattle.sb_rulebook.specs.AtomRules.{is_declared}
use Rattle.sb_solve.specs.Words.{is_declared_constant}
use Rattle.sb_sound.specs.ScriptLaws.{EntriesLeadOn, LeadsOn, has_default}
use Rattle.sb_sound.specs.SoundLaws.{KeepsSorts}
use Rattle.sb_sound.specs.TermLaws.{HasSorts}
use Rattle.sb_stack.proofs.CallerLemmas.{same_sort}
use Rattle.sb_stack.specs.declared.stack.Step.TheVariants as code

at_place : {X : Type 0} (p : X → Bool) (xs : List X) (i : ℕ) (x : X) → list_all p xs ≡ true → slice_get xs i ≡ Some x
    → p x ≡ true
at_place p [] i x h there = absurd (Prim.cc (there))
at_place p (y ∷ ys) zero x h there = ap p (sym (same_Some y x there)) ∙ (and_parts (p y) (list_all p ys) h).0
at_place p (y ∷ ys) (suc i) x h there = at_place p ys i x (and_parts (p y) (list_all p ys) h).1 there

abbrev is_in : Sort → Option Sort → Bool
is_in k o = elim o as (λ _. Bool) [ None ↦ false | Some other ↦ is_same_sort k other ]

-- a value for one constant, where each other one has that of its sort by default
fits_at : (sorts : List Sort) (n : ℕ) (x : Value) → list_all has_default sorts ≡ true
    → ((j : Sort) → slice_get sorts n ≡ Some j → is_of j x ≡ true) → HasSorts ((n, x) ∷ []) sorts
fits_at sorts n x defaults here serial j there = by (n == serial) refl
  where
    by : (b : Bool) → (n == serial) ≡ b → is_of j (if b then x else default_of j) ≡ true
    by true is = here j (ap (slice_get sorts) (sym (same_number n serial is)) ∙ there)
    by false is = at_place has_default sorts serial j defaults there

-- no value of another sort is of this one
other_value : (k j : Sort) → is_same_sort k j ≡ false → has_default j ≡ true → is_of k (default_of j) ≡ false
other_value boolean integer apart has = refl
other_value boolean text apart has = refl
other_value integer boolean apart has = refl
other_value integer text apart has = refl
other_value text boolean apart has = refl
other_value text integer apart has = refl
other_value reglan j apart has = refl
other_value boolean boolean apart has = absurd (false≢true (sym apart))
other_value integer integer apart has = absurd (false≢true (sym apart))
other_value text text apart has = absurd (false≢true (sym apart))
other_value k reglan apart has = absurd (false≢true has)

-- a value that is of another sort
abbrev wrong_for : Sort → Value
wrong_for boolean = Text []
wrong_for k = Truth false

is_wrong : (k : Sort) → is_of k (wrong_for k) ≡ false
is_wrong boolean = refl
is_wrong integer = refl
is_wrong text = refl
is_wrong reglan = refl

module _ (before now : List Sort) (defaults : list_all has_default now ≡ true)
    (keeps : (v : Valuation) → HasSorts v now → HasSorts v before) (n : ℕ) where
  at_once : (k : Sort) (x : Value) → slice_get before n ≡ Some k → HasSorts ((n, x) ∷ []) now → is_of k x ≡ true
  at_once k x there fits = by (n == n) refl (keeps ((n, x) ∷ []) fits n k there)
    where
      by : (b : Bool) → (n == n) ≡ b → is_of k (if b then x else default_of k) ≡ true → is_of k x ≡ true
      by true is h = h
      by false is h = absurd (false≢true (sym is ∙ equal_itself n))

  stays_declared : (k : Sort) → slice_get before n ≡ Some k → is_declared now k n ≡ true
  stays_declared k there = by (slice_get now n) refl
    where
      wrong : (x : Value) → is_of k x ≡ false → HasSorts ((n, x) ∷ []) now → ⊥
      wrong x is fits = false≢true (sym is ∙ at_once k x there fits)

      one : (j : Sort) → slice_get now n ≡ Some j → (b : Bool) → is_same_sort k j ≡ b → b ≡ true
      one j here true is = refl
      one j here false is =
          let has = at_place has_default now n j defaults here in
          absurd (wrong (default_of j) (other_value k j is has)
          (fits_at now n (default_of j) defaults
          (λ i at. subst (λ (s : Sort). is_of s (default_of j) ≡ true) (same_Some j i (sym here ∙ at)) has)))

      by : (o : Option Sort) → slice_get now n ≡ o → is_in k o ≡ true
      by None none =
          absurd (wrong (wrong_for k) (is_wrong k)
          (fits_at now n (wrong_for k) defaults (λ i at. absurd (Prim.cc (none, at)))))
      by (Some j) here = one j here (is_same_sort k j) refl

  pub declared_still : (k : Sort) → is_declared before k n ≡ true → is_declared now k n ≡ true
  declared_still k = by (slice_get before n) refl
    where
      by : (o : Option Sort) → slice_get before n ≡ o → is_in k o ≡ true → is_declared now k n ≡ true
      by None none h = absurd (false≢true h)
      by (Some j) here h = stays_declared k (here ∙ ap Some (sym (same_sort k j h)))

atom_still : (before now : List Sort) → list_all has_default now ≡ true
    → ((v : Valuation) → HasSorts v now → HasSorts v before) → (a : AtomOver ℕ) → is_sorted before a ≡ true
    → is_sorted now a ≡ true
atom_still before now defaults keeps a h =
    all_weaker (is_declared_constant before) (is_declared_constant now)
    (λ c there. declared_still before now defaults keeps c.0 c.1 there) (constants_in a) h

-- An entry of a script.

keeps_by : (x : meaning.Step) (old new : State) (step : Step) → IsStep x step old new → IsFit old → LeadsOn old x
    → KeepsSorts (asked_in old) (asked_in new) × IsFit new
keeps_by (meaning.leaves (meaning.above level) reply s) old new (code.Left bytes count) h fit leads =
    subst (λ (t : State). KeepsSorts (asked_in old) (asked_in t) × IsFit t) (sym h.1.1) (leads.0.sorts, leads.1)
keeps_by (meaning.leaves meaning.all reply s) old new (code.Left bytes count) h fit leads =
    subst (λ (t : State). KeepsSorts (asked_in old) (asked_in t) × IsFit t) (sym h.1.1) leads
keeps_by (meaning.answers reply s) old new (code.Answer bytes) h fit leads =
    subst (λ (t : State). KeepsSorts (asked_in old) (asked_in t) × IsFit t) (sym h.1) (leads.0.sorts, leads.1)
keeps_by (meaning.checks given) old new code.Check h fit leads =
    subst (λ (t : State). KeepsSorts (asked_in old) (asked_in t) × IsFit t) (sym h) (λ v has. has, fit)
keeps_by (meaning.exits reply) old new (code.Exit bytes) h fit leads =
    subst (λ (t : State). KeepsSorts (asked_in old) (asked_in t) × IsFit t) (sym h.1) (λ v has. has, fit)
keeps_by _ old new _ h fit leads = absurd h

pub sorts_on : EntriesLeadOn → (entry : Entry) (old new : State) (step : Step)
    → IsStep (step_of entry old) step old new → IsFit old → (a : AtomOver ℕ) → is_sorted old.sorts a ≡ true
    → is_sorted new.sorts a ≡ true
sorts_on lead entry old new step is fit =
    let kept = keeps_by (step_of entry old) old new step is fit (lead entry old fit) in
    atom_still old.sorts new.sorts kept.1.1 kept.0

pub declared_left : (old new : State) (before left : Proving)
    → ((a : AtomOver ℕ) → is_sorted old.sorts a ≡ true → is_sorted new.sorts a ≡ true)
    → left.evidence.atoms ≡ before.evidence.atoms → HasDeclared old before → HasDeclared new left
declared_left old new before left stay same h =
    ap (list_all (is_sorted new.sorts)) same
    ∙ all_weaker (is_sorted old.sorts) (is_sorted new.sorts) stay before.evidence.atoms h

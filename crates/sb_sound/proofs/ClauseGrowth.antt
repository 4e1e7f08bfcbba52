-- What is kept stays true where a true clause is appended: the literal of an assertion, a clause by a rule, and a
-- learned one.
use Rattle.std.proofs.Common.{◌≡◌, ℕ, Bool, true, false, not, ◌&&◌, if◌then◌else◌, List, [], ◌∷◌, ◌++◌, length, length-append, slice_get, Option, Some, None, Result, Ok, Err, refl, sym, ap, subst, ◌∙◌, ◌⊎◌, inl, inr, arith}
use Rattle.std.proofs.lemmas.Bool.{and_parts, and_from, or_left, not-false, false≢true}
use Rattle.sb_lit.specs.declared.clause.Lit.{Lit}
use Rattle.sb_lit.specs.Clauses.{are_ascending}
use Rattle.sb_lit.specs.Kept.{Kept, KeptClause, kept_at}
use Rattle.sb_lit.specs.Hints.{Unlearned, is_repeated, learned}
use Rattle.sb_lit.proofs.CallerLemmas.{is_same_literal-true}
use Rattle.sb_meaning.specs.Terms.{Term}
use Rattle.sb_meaning.specs.Values.{Valuation}
use Rattle.sb_rulebook.specs.Refusals.{Refusal, unknown_id, repeated, rule_broken}
use Rattle.sb_rulebook.specs.Atoms.{Atom, literal_holds, truths_of, clause_holds}
use Rattle.sb_rulebook.specs.AtomRules.{is_known, are_known}
use Rattle.sb_rulebook.specs.Translation.{translation}
use Rattle.sb_rulebook.specs.Lines.{Rule, gate, order, linear, step, empty}
use Rattle.sb_rulebook.specs.Kept.{AllKept, Asked, counting, with_clause, rests_of_any}
use Rattle.sb_script.specs.Brought.{a_statement_of, is_brought}
use Rattle.sb_rulebook.specs.ClauseRules.{holds_by, is_counted, follows_rule, is_this, is_translation, asserted, follows_assertion, refusal_of, follows_learned}
use Rattle.sb_sound.specs.Tables.{HasWords}
use Rattle.sb_sound.specs.TermLaws.{HasSorts}
use Rattle.sb_sound.specs.GateLaws.{GatesHold}
use Rattle.sb_sound.specs.BoundLaws.{OrdersHold}
use Rattle.sb_sound.specs.LinearLaws.{LinearHolds}
use Rattle.sb_sound.specs.MembershipLaws.{StepsHold, EmptyHolds}
use Rattle.sb_sound.specs.HintLaws.{LearnedHolds, LearnedHasLevels}
use Rattle.sb_sound.specs.TranslationLaws.{TranslationHolds}
use Rattle.sb_sound.specs.SoundLaws.{LevelsHold, PlacesHold, StandsAt, AreTerms, IsSound}
use Rattle.std.specs.List.{Contains}
use Rattle.std.proofs.lemmas.Option.{slice_get_within}
use Rattle.sb_sound.proofs.PassFacts.{Contains-cases, Contains-first, Contains-none}
use Rattle.sb_sound.proofs.ByNumber.{slice_get-push, kept_there, there_kept}
use Rattle.sb_sound.proofs.RestFacts.{any-of_one, one-of_any, StandAt, levels_places, rests-before, rests-last}
use Rattle.sb_sound.proofs.HintFacts.{learned-hint}
use Rattle.sb_sound.proofs.ClauseSets.{literal_holds-negation}
use Rattle.sb_sound.proofs.Accepting.{some_of, if_so, if_not, same_ok, Contains-slice_get}
use Rattle.sb_sound.proofs.RegexGrowth.{counting_sound}

-- the last one, or one before
kept_at-push : (kept : Kept) (new : KeptClause) (id : ℕ) (clause : KeptClause)
    → kept_at (kept ++ Some new ∷ []) id ≡ Some clause
    → (kept_at kept id ≡ Some clause) ⊎ ((id ≡ length kept) × (new ≡ clause))
kept_at-push kept new id clause h =
    elim (slice_get-push kept (Some new) id (Some clause) (kept_there (kept ++ Some new ∷ []) id clause h)) as
    (λ _. (kept_at kept id ≡ Some clause) ⊎ ((id ≡ length kept) × (new ≡ clause))) [
      | inl before ↦ inl (there_kept kept id clause before)
      | inr last ↦ inr (last.0, Prim.cc (last.1))
    ]

-- the clause is true where the live assertions at these places are
abbrev IsTrueAt : Asked → List Atom → List Lit → List ℕ → Type 0
IsTrueAt asked atoms clause rests =
    (v : Valuation) → HasWords v → HasSorts v asked.sorts → PlacesHold v asked.live rests
    → clause_holds v atoms clause ≡ true

with_clause_sound : (asked : Asked) (kept : AllKept) (clause : List Lit) (level : ℕ) (rests : List ℕ)
    → are_known kept.atoms clause ≡ true → StandAt asked level rests → IsTrueAt asked kept.atoms clause rests
    → IsSound asked kept → IsSound asked (with_clause kept clause level rests)
with_clause_sound asked kept clause level rests known stand true_so sound =
    let new : KeptClause = record { literals = clause; level = level } in
    let low = λ (id : ℕ) (other : KeptClause) (before : kept_at kept.clauses id ≡ Some other).
    let within = slice_get_within kept.clauses id (Some other) (kept_there kept.clauses id other before) in
    rests-before kept.rests rests id (omega (arith, within, sound.resting)) in
    let last = λ (id : ℕ) (is : id ≡ length kept.clauses).
    rests-last kept.rests rests id (is ∙ sym sound.resting) in
    record {
      table = sound.table;
      right = sound.right;
      empty = sound.empty;
      expanded = sound.expanded;
      died = sound.died;
      resting = omega
          (arith, sound.resting, length-append kept.rests (rests ∷ []), length-append kept.clauses (Some new ∷ []));
      known = λ id other there. elim (kept_at-push kept.clauses new id other there) [
        | inl before ↦ sound.known id other before
        | inr here ↦ subst (λ (c : KeptClause). are_known kept.atoms c.literals ≡ true) here.1 known
      ];
      clauses = λ id other there v words sorts hold. elim (kept_at-push kept.clauses new id other there) [
        | inl before ↦ sound.clauses id other before v words sorts hold
        | inr here ↦ subst (λ (c : KeptClause). LevelsHold v asked.live c.level
            → clause_holds v kept.atoms c.literals ≡ true) here.1
            (λ levels. true_so v words sorts (levels_places asked level rests stand v levels)) hold
      ];
      places = λ id other there place among. elim (kept_at-push kept.clauses new id other there) [
        | inl before ↦ sound.places id other before place
            (subst (λ (ns : List ℕ). Contains ns place) (low id other before) among)
        | inr here ↦ subst (λ (c : KeptClause). StandsAt asked.live c.level place) here.1
            (stand place (subst (λ (ns : List ℕ). Contains ns place) (last id here.0) among))
      ];
      rested = λ id other there v words sorts hold. elim (kept_at-push kept.clauses new id other there) [
        | inl before ↦ sound.rested id other before v words sorts
            (subst (λ (ns : List ℕ). PlacesHold v asked.live ns) (low id other before) hold)
        | inr here ↦ subst (λ (c : KeptClause). clause_holds v kept.atoms c.literals ≡ true) here.1
            (true_so v words sorts (subst (λ (ns : List ℕ). PlacesHold v asked.live ns) (last id here.0) hold))
      ];
    }

-- Assertions.

-- the literal is that of a term
pub record IsOfTerm (atoms : List Atom) (o : Option Term) (l : Lit) : Type 0 where
  pub term : Term
  pub is : o ≡ Some term
  pub stated : is_brought (a_statement_of term) ≡ true
  pub there : translation atoms term ≡ Some l

pub translation-parts : (atoms : List Atom) (o : Option Term) (l : Lit) → is_translation atoms o l ≡ true
    → IsOfTerm atoms o l
translation-parts atoms None l h = absurd (false≢true h)
translation-parts atoms (Some t) l h =
    let parts = and_parts (is_brought (a_statement_of t)) (is_this l (translation atoms t)) h in
    record { term = t; is = refl; stated = parts.0; there = step (translation atoms t) parts.1 }
  where
    step : (o : Option Lit) → is_this l o ≡ true → o ≡ Some l
    step None this = absurd (false≢true this)
    step (Some m) this = ap Some (sym (is_same_literal-true l m this))

pub assertion_sound : TranslationHolds → (asked : Asked) (kept after : AllKept) (place : ℕ) (l : Lit) → AreTerms asked
    → IsSound asked kept → follows_assertion asked kept place l ≡ Ok after → IsSound asked after
assertion_sound translates asked kept after place l terms sound h =
    let atoms = kept.atoms in
    let found =
    some_of (slice_get asked.live place) unknown_id
    (λ (a : Option Term × ℕ). if is_known atoms l then asserted kept place a l else Err unknown_id) after h in
    let a = found.0 in
    let now = with_clause kept (l ∷ []) a.1 (place ∷ []) in
    let known = if_so (is_known atoms l) unknown_id (asserted kept place a l) after found.2 in
    let right = if_so (is_translation atoms a.0 l) rule_broken (Ok now) after known.1 in
    let of_term = translation-parts atoms a.0 l right.0 in
    let t = of_term.term in
    let among = Contains-slice_get asked.live place a found.1 in
    let none = λ (p : ℕ) (h : Contains [] p). Contains-none p h in
    subst (λ (k : AllKept). IsSound asked k) (same_ok {E = Refusal} now after right.1)
    (with_clause_sound asked kept (l ∷ []) a.1 (place ∷ []) (and_from (is_known atoms l) true known.0 refl)
    (λ p within. elim (Contains-cases place [] p within) [
      | inl here ↦ subst (λ (q : ℕ). StandsAt asked.live a.1 q) here
          (record { assertion = a; there = found.1; low = omega arith })
      | inr later ↦ absurd (none p later)
    ])
    (λ v words sorts hold. or_left (literal_holds (truths_of v atoms) l) false
    (translates v asked.sorts atoms t l sound.table sorts (terms a t among of_term.is) of_term.there
    ∙ hold place a t (Contains-first place []) found.1 of_term.is))
    sound)

-- Rules.

module _ (gates : GatesHold) (orders : OrdersHold) (sums : LinearHolds) (steps : StepsHold) (empties : EmptyHolds) where
  rule_true : (asked : Asked) (kept : AllKept) (rule : Rule) (clause : List Lit) → IsSound asked kept
      → holds_by kept rule clause ≡ true → (v : Valuation) → HasWords v → clause_holds v kept.atoms clause ≡ true
  rule_true asked kept gate clause sound h v words = gates v kept.atoms clause sound.table words h
  rule_true asked kept order clause sound h v words = orders v kept.atoms clause h
  rule_true asked kept linear clause sound h v words = sums v kept.atoms clause h
  rule_true asked kept step clause sound h v words = steps v kept.atoms clause h
  rule_true asked kept empty clause sound h v words = empties v kept clause words sound.empty h

  counted_or_not : (b : Bool) (asked : Asked) (kept after : AllKept) → IsSound asked kept
      → ◌≡◌ {A = Result AllKept Refusal} (if b then counting asked kept else Ok kept) (Ok after) → IsSound asked after
  counted_or_not true asked kept after sound h = counting_sound asked kept after h sound
  counted_or_not false asked kept after sound h =
      subst (λ (k : AllKept). IsSound asked k) (same_ok {E = Refusal} kept after h) sound

  pub rule_sound : (asked : Asked) (kept after : AllKept) (rule : Rule) (clause : List Lit) → IsSound asked kept
      → follows_rule asked kept rule clause ≡ Ok after → IsSound asked after
  rule_sound asked kept after rule clause sound h =
      let now = with_clause kept clause 0 [] in
      let last : Result AllKept Refusal = if is_counted rule then counting asked now else Ok now in
      let known = are_known kept.atoms clause in
      let again = is_counted rule && is_repeated kept.clauses clause in
      let right = are_ascending clause && holds_by kept rule clause in
      let one =
      if_not (not known) unknown_id
      (if again then Err repeated else if not right then Err rule_broken else last) after h in
      let two = if_not again repeated (if not right then Err rule_broken else last) after one.1 in
      let three = if_not (not right) rule_broken last after two.1 in
      let holds = (and_parts (are_ascending clause) (holds_by kept rule clause) (not-false right three.0)).1 in
      counted_or_not (is_counted rule) asked now after
      (with_clause_sound asked kept clause 0 [] (not-false known one.0)
      (λ place within. absurd (Contains-none place within))
      (λ v words sorts hold. rule_true asked kept rule clause sound holds v words) sound)
      three.1

-- Learned clauses.

pub learned-parts : (asked : Asked) (kept after : AllKept) (clause : List Lit) (rests : List ℕ)
    (r : Result ℕ Unlearned)
    → (elim r as (λ _. Result AllKept Refusal)
    [ Err unlearned ↦ Err (refusal_of unlearned) | Ok level ↦ counting asked (with_clause kept clause level rests) ])
    ≡ Ok after → (level : ℕ) × (r ≡ Ok level) × (counting asked (with_clause kept clause level rests) ≡ Ok after)
learned-parts asked kept after clause rests (Err unlearned) h = absurd (Prim.cc (h))
learned-parts asked kept after clause rests (Ok level) h = (level, refl, h)

pub learned_sound : LearnedHolds → LearnedHasLevels → (asked : Asked) (kept after : AllKept) (clause : List Lit)
    (ids : List ℕ) → IsSound asked kept → follows_learned asked kept clause ids ≡ Ok after → IsSound asked after
learned_sound holds levels asked kept after clause ids sound h =
    let known = are_known kept.atoms clause in
    let result = learned kept.clauses clause ids in
    let rests = rests_of_any kept ids in
    let one =
    if_not (not known) unknown_id (elim result as (λ _. Result AllKept Refusal)
    [ Err unlearned ↦ Err (refusal_of unlearned) | Ok level ↦ counting asked (with_clause kept clause level rests) ])
    after h in
    let two = learned-parts asked kept after clause rests result one.1 in
    let level = two.0 in
    counting_sound asked (with_clause kept clause level rests) after two.2
    (with_clause_sound asked kept clause level rests (not-false known one.0)
    (λ place within.
    let l = one-of_any kept ids place within in
    let hint = learned-hint kept.clauses clause ids level two.1 l.clause l.among in
    let below = levels kept.clauses clause ids level two.1 l.clause hint.0 l.among hint.1 in
    let s = sound.places l.clause hint.0 hint.1 place l.rests in
    record { assertion = s.assertion; there = s.there; low = omega (arith, s.low, below) })
    (λ v words sorts hold.
    holds (literal_holds (truths_of v kept.atoms)) (literal_holds-negation (truths_of v kept.atoms)) kept.clauses
    clause ids level two.1 (λ id hint among there.
    sound.rested id hint there v words sorts
    (λ place a t within live is. hold place a t (any-of_one kept ids id place among within) live is)))
    sound)

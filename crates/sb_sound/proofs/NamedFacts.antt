-- The assumptions that a clause's literals deny are contradicted alone.
use Rattle.std.proofs.Common.{◌≡◌, Bool, true, false, ◌&&◌, if◌then◌else◌, List, [], ◌∷◌, slice_get, Option, Some, None, subst, inl, inr}
use Rattle.std.specs.List.{list_all, list_any}
use Rattle.std.proofs.lemmas.Bool.{and_parts, or_cases, or_left, or_right, false≢true}
use Rattle.sb_lit.specs.Kept.{KeptClause}
use Rattle.sb_meaning.specs.Values.{Valuation}
use Rattle.sb_script.specs.Verdicts.{each_once}
use Rattle.sb_rulebook.specs.Refusals.{Refusal, unknown_id}
use Rattle.sb_rulebook.specs.Atoms.{clause_holds, truths_of, literal_holds}
use Rattle.sb_rulebook.specs.Kept.{AllKept}
use Rattle.sb_rulebook.specs.Verdicts.{Question, denied_by, assumption_holds, denies, denies_assumption, refutes, are_live, is_listed, unless_wrong}
use Rattle.sb_sound.specs.VerdictLaws.{NamedAreRefuted}
use Rattle.sb_sound.proofs.PassFacts.{list_any-filter, one_fails}
use Rattle.sb_sound.proofs.SomeFacts.{any_once}
use Rattle.sb_sound.proofs.VerdictFacts.{unsat-parts, denied_fails}

-- an element of the list that passes both tests: whatever test it passes, some element of the list does
record PassesBoth {X : Type 0} (p q : X → Bool) (xs : List X) : Type 0 where
  element : X
  first : p element ≡ true
  second : q element ≡ true
  among : (test : X → Bool) → test element ≡ true → list_any test xs ≡ true

passes_both : {X : Type 0} → (p q : X → Bool) (xs : List X) → list_all p xs ≡ true → list_any q xs ≡ true
    → PassesBoth p q xs
passes_both p q [] all any = absurd (false≢true any)
passes_both p q (x ∷ xs) all any =
    let parts = and_parts (p x) (list_all p xs) all in
    elim (or_cases (q x) (list_any q xs) any) [
      | inl here ↦ record {
        element = x;
        first = parts.0;
        second = here;
        among = λ test passes. or_left (test x) (list_any test xs) passes;
      }
      | inr later ↦
          let r = passes_both p q xs parts.1 later in
          record {
            element = r.element;
            first = r.first;
            second = r.second;
            among = λ test passes. or_right (test x) (list_any test xs) (r.among test passes);
          }
    ]

-- where the clause is true, not all of the assumptions that it denies hold
pub named_false : (q : Question) (kept : AllKept) (clause : KeptClause) → refutes q kept clause ≡ true
    → (v : Valuation) → clause_holds v kept.atoms clause.literals ≡ true
    → list_all (assumption_holds v) (denied_by q kept clause) ≡ false
named_false q kept clause refuting v true_so =
    let found =
    passes_both (denies_assumption q kept) (literal_holds (truths_of v kept.atoms)) clause.literals refuting true_so in
    let l = found.element in
    let denied = denies l (slice_get kept.atoms l.atom) in
    one_fails denied (assumption_holds v) (denied_by q kept clause)
    (list_any-filter (λ a. list_any (λ m. denies m (slice_get kept.atoms m.atom) a) clause.literals) denied
    (each_once q.assumptions) (λ a so. found.among (λ m. denies m (slice_get kept.atoms m.atom) a) so)
    (any_once denied q.assumptions found.first))
    (λ a so. denied_fails v kept.atoms l a found.second so)

pub named_refuted : NamedAreRefuted
named_refuted q kept id places clause follows there =
    let wrong : (if are_live q kept places
    then unless_wrong (q.inside && (is_listed kept id places && refutes q kept clause)) else Some unknown_id) ≡ None =
    subst (λ (o : Option KeptClause). (elim o as (λ _. Option Refusal) [
      | None ↦ Some unknown_id
      | Some c ↦ if are_live q kept places
          then unless_wrong (q.inside && (is_listed kept id places && refutes q kept c)) else Some unknown_id
    ]) ≡ None) there follows in
    named_false q kept clause (unsat-parts q kept id places clause wrong).refuting

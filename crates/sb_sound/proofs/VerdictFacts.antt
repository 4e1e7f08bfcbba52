-- A clause whose literals deny assumptions refutes them.
use Rattle.std.proofs.Common.{◌≡◌, ℕ, Bool, true, false, not, ◌&&◌, eqb, nat_eq, if◌then◌else◌, List, [], ◌∷◌, slice_get, Option, Some, None, refl, sym, ap, ◌∙◌}
use Rattle.std.specs.Cmp.Lexicographic.{pointwise}
use Rattle.std.specs.List.{list_all}
use Rattle.std.proofs.lemmas.Bool.{and_parts, eqb-true, false≢true}
use Rattle.sb_lit.specs.declared.clause.Lit.{Lit}
use Rattle.sb_lit.specs.Kept.{KeptClause, kept_at}
use Rattle.sb_meaning.specs.Values.{Valuation}
use Rattle.sb_script.specs.State.{Assumption}
use Rattle.sb_rulebook.specs.Refusals.{Refusal, unknown_id}
use Rattle.sb_rulebook.specs.Atoms.{Atom, bool_atom, clause_holds, truth_at, truths_of, literal_holds}
use Rattle.sb_rulebook.specs.Verdicts.{Question, is_same_truth, assumption_holds, denies, denies_assumption, refutes, are_live, is_listed, unless_wrong}
use Rattle.sb_rulebook.specs.Brought.{has_rests}
use Rattle.sb_rulebook.specs.Kept.{AllKept, rests_of}
use Rattle.sb_sound.specs.VerdictLaws.{IsRefuted, UnsatIsRefuted}
use Rattle.sb_sound.proofs.TableFacts.{literal_holds-atom}
use Rattle.sb_sound.proofs.PassFacts.{both_pass, one_fails}

pub unless_wrong-none : (b : Bool) → unless_wrong b ≡ None → b ≡ true
unless_wrong-none true h = refl
unless_wrong-none false h = absurd (Prim.cc (h))

-- the sign p of the literal, the truth b of its atom, and what the assumption says
other_truth : (p b s : Bool) → is_same_truth p (not s) ≡ true → is_same_truth p b ≡ true → is_same_truth b s ≡ false
other_truth true true true denied true_so = absurd (false≢true denied)
other_truth true true false denied true_so = refl
other_truth true false s denied true_so = absurd (false≢true true_so)
other_truth false true s denied true_so = absurd (false≢true true_so)
other_truth false false true denied true_so = refl
other_truth false false false denied true_so = absurd (false≢true denied)

pub denied_fails : (v : Valuation) (atoms : List Atom) (l : Lit) (a : Assumption)
    → literal_holds (truths_of v atoms) l ≡ true → denies l (slice_get atoms l.atom) a ≡ true
    → assumption_holds v a ≡ false
denied_fails v atoms l a true_so denied = step (slice_get atoms l.atom) refl denied
  where
    step : (o : Option Atom) → slice_get atoms l.atom ≡ o → denies l o a ≡ true → assumption_holds v a ≡ false
    step (Some (bool_atom serial)) at denied =
        let both = and_parts (eqb serial a.0) (is_same_truth l.positive (not a.1)) denied in
        ap (λ n. is_same_truth (truth_at v n) a.1) (sym (eqb-true serial a.0 both.0))
        ∙ other_truth l.positive (truth_at v serial) a.1 both.1
        (sym (literal_holds-atom v atoms l (bool_atom serial) at) ∙ true_so)
    step _ at denied = absurd (false≢true denied)

same_numbers : (ms ns : List ℕ) → pointwise nat_eq ms ns ≡ true → ns ≡ ms
same_numbers [] [] h = refl
same_numbers [] (n ∷ ns) h = absurd (false≢true h)
same_numbers (m ∷ ms) [] h = absurd (false≢true h)
same_numbers (m ∷ ms) (n ∷ ns) h =
    let parts = and_parts (nat_eq m n) (pointwise nat_eq ms ns) h in
    let first : m ≡ n = eqb-true m n parts.0 in
    let rest = same_numbers ms ns parts.1 in
    cc

listed-places : (kept : AllKept) (id : ℕ) (places : Option (List ℕ)) → is_listed kept id places ≡ true
    → (listed : List ℕ) → places ≡ Some listed → listed ≡ rests_of kept id
listed-places kept id None h listed is = absurd (Prim.cc (is))
listed-places kept id (Some ns) h listed is =
    let same : ns ≡ listed = Prim.cc (is) in
    let parts = and_parts (has_rests kept.format) (pointwise nat_eq (rests_of kept id) ns) h in
    sym same ∙ same_numbers (rests_of kept id) ns parts.1

-- where the clause is true, not all assumptions hold
pub refuted : (q : Question) (kept : AllKept) (clause : KeptClause) → refutes q kept clause ≡ true
    → (v : Valuation) → clause_holds v kept.atoms clause.literals ≡ true
    → list_all (assumption_holds v) q.assumptions ≡ false
refuted q kept clause refuting v true_so =
    let found =
    both_pass (denies_assumption q kept) (literal_holds (truths_of v kept.atoms)) clause.literals refuting true_so in
    one_fails (denies found.0 (slice_get kept.atoms found.0.atom)) (assumption_holds v) q.assumptions found.1
    (λ a denied. denied_fails v kept.atoms found.0 a found.2 denied)

-- what a clause of an `unsat` that follows passes
pub record PassesUnsat (q : Question) (kept : AllKept) (id : ℕ) (places : Option (List ℕ)) (clause : KeptClause) :
    Type 0 where
  pub inside : q.inside ≡ true
  pub listed : is_listed kept id places ≡ true
  pub refuting : refutes q kept clause ≡ true

pub unsat-parts : (q : Question) (kept : AllKept) (id : ℕ) (places : Option (List ℕ)) (clause : KeptClause)
    → (if are_live q kept places
    then unless_wrong (q.inside && (is_listed kept id places && refutes q kept clause)) else Some unknown_id) ≡ None
    → PassesUnsat q kept id places clause
unsat-parts q kept id places clause h = step (are_live q kept places) h
  where
    right : Bool
    right = q.inside && (is_listed kept id places && refutes q kept clause)

    step : (b : Bool) → (if b then unless_wrong right else Some unknown_id) ≡ None
        → PassesUnsat q kept id places clause
    step false h = absurd (Prim.cc (h))
    step true h =
        let one = and_parts q.inside (is_listed kept id places && refutes q kept clause) (unless_wrong-none right h) in
        let two = and_parts (is_listed kept id places) (refutes q kept clause) one.1 in
        record { inside = one.0; listed = two.0; refuting = two.1 }

pub unsat_refutes : UnsatIsRefuted
unsat_refutes q kept id places follows = step (kept_at kept.clauses id) refl follows
  where
    step : (o : Option KeptClause) → kept_at kept.clauses id ≡ o
        → (elim o as (λ _. Option Refusal) [
          | None ↦ Some unknown_id
          | Some clause ↦ if are_live q kept places
              then unless_wrong (q.inside && (is_listed kept id places && refutes q kept clause)) else Some unknown_id
        ]) ≡ None → IsRefuted q kept id places
    step None at h = absurd (Prim.cc (h))
    step (Some clause) at h =
        let passes = unsat-parts q kept id places clause h in
        record {
          inside = passes.inside;
          clause = clause;
          there = at;
          refutes = refuted q kept clause passes.refuting;
          listed = listed-places kept id places passes.listed;
        }

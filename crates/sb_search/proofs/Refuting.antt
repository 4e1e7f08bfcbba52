-- Clauses of negated assumptions, where they are kept.
use Rattle.sb_search.proofs.Words.{◌≡◌, ℕ, true, false, Bool, length, map, List, [], ◌∷◌, ◌++◌, Some, None, Option, refl, sym, ◌∙◌, subst, inr, and_from, Lit, ClauseId, Spending, negation, is_among, is_false_under, Kept, KeptClause, kept_at, among_negated, Assigned, held, reason_of, AreDistinct, State, AreReasoned, reasoned_more, are_negated, AreAssumed, IsKept, IsWritten, Refutes, written, are_among, decided_false, IsFinal}
use Rattle.sb_search.specs.declared.found.Found.TheVariants as found

kept_last : (kept : Kept) (k : Option KeptClause) → kept_at (kept ++ k ∷ []) (length kept) ≡ k
kept_last [] k = refl
kept_last (x ∷ xs) k = kept_last xs k

-- an atom of which both literals are assumptions
pub both_negated : (assumptions : List Lit) (a : ℕ) (b : Bool)
    → is_among assumptions (record { atom = a; positive = b }) ≡ true
    → is_among assumptions (negation (record { atom = a; positive = b })) ≡ true
    → are_negated assumptions (record { atom = a; positive = true } ∷ record { atom = a; positive = false } ∷ []) ≡ true
both_negated assumptions a true one other =
    and_from (is_among (map negation assumptions) (record { atom = a; positive = true }))
    (are_among (record { atom = a; positive = false } ∷ []) (map negation assumptions))
    (among_negated assumptions (record { atom = a; positive = true }) ∙ other)
    (and_from (is_among (map negation assumptions) (record { atom = a; positive = false })) true
    (among_negated assumptions (record { atom = a; positive = false }) ∙ one) refl)
both_negated assumptions a false one other =
    and_from (is_among (map negation assumptions) (record { atom = a; positive = true }))
    (are_among (record { atom = a; positive = false } ∷ []) (map negation assumptions))
    (among_negated assumptions (record { atom = a; positive = true }) ∙ one)
    (and_from (is_among (map negation assumptions) (record { atom = a; positive = false })) true
    (among_negated assumptions (record { atom = a; positive = false }) ∙ other) refl)

-- a clause of negated assumptions is kept
pub refutes_kept : (assumptions : List Lit) (old new : State) (before after : Spending) (told later : Option (List ℕ))
    (k : KeptClause) (id : ClauseId) → IsKept old new k id → AreReasoned old.kept [] old.trail.literals
    → are_negated assumptions k.literals ≡ true
    → IsWritten assumptions (written old.kept before told) (written new.kept after later)
    → Refutes assumptions old new before after told later (found.Unsat id)
refutes_kept assumptions old new before after told later k id h reasoned negated writes = record {
  says = λ wanted. record {
    clause = k;
    there = subst (λ (n : ℕ). kept_at new.kept n ≡ Some k) (sym h.number)
        (subst (λ (ks : Kept). kept_at ks (length old.kept) ≡ Some k) (sym h.kept) (kept_last old.kept (Some k)));
    negated = negated;
  };
  not_sat = λ is. Prim.cc (is);
  reasoned = subst (λ (ks : Kept). AreReasoned ks [] new.trail.literals) (sym h.kept)
      (subst (λ (es : List Assigned). AreReasoned (old.kept ++ Some k ∷ []) [] es) (sym h.literals)
      (reasoned_more old.kept (Some k) [] old.trail.literals reasoned));
  literals = h.literals;
  writes = writes;
}

-- an assumption that is false, by its reason or by another assumption
pub final_reason : (kept : Kept) (es : List Assigned) (assumptions : List Lit) (l : Lit) (reason : Option ClauseId)
    → reason ≡ reason_of es l.atom → AreDistinct es → AreAssumed assumptions es → is_among assumptions l ≡ true
    → is_false_under (held es) l ≡ true → IsFinal kept es assumptions reason
final_reason kept es assumptions l None is distinct assumed given is_false = record {
  literal = l;
  one = given;
  other = decided_false assumptions es l distinct assumed is_false (sym is);
}
final_reason kept es assumptions l (Some id) is distinct assumed given is_false =
    inr (record { assumption = l; given = given; is_false = is_false; reason = sym is })

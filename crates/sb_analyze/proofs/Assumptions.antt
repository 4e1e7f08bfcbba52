-- Assumptions that can't all be true.
use Rattle.std.proofs.Common.{◌≡◌, ℕ, zero, suc, ◌<◌, Bool, true, false, ◌&&◌, ◌⊎◌, eqb, List, [], ◌∷◌, length, get_or, take, map, Option, Some, None, refl, sym, ◌∙◌, ap, subst, inl, inr, arith}
use Rattle.std.specs.List.{list_all, find}
use Rattle.std.specs.Option.{option_and_then}
use Rattle.std.proofs.lemmas.Bool.{false≢true, and_parts, or_left, or_right, or_cases, false_from_ne_true}
use Rattle.std.proofs.lemmas.Option.{same_Some}
use Rattle.std.proofs.lemmas.List.Sorted.{list_any-IsPermutation}
use Rattle.sb_lit.specs.declared.clause.Lit.{Lit}
use Rattle.sb_lit.specs.declared.clause.ClauseId.{ClauseId}
use Rattle.sb_lit.specs.Clauses.{negation, is_same_literal, is_among, are_among, is_true_under, is_false_under, is_open_under, is_false_clause}
use Rattle.sb_lit.specs.Kept.{Kept, KeptClause, kept_at}
use Rattle.sb_trail.specs.declared.assigned.Assigned.{Assigned}
use Rattle.sb_trail.specs.Assignments.{entry_of, reason_of, held, AreDistinct}
use Rattle.sb_clauses.specs.Propagation.{IsConflict, HasNoneFalse}
use Rattle.sb_analyze.specs.Reasons.{HasReason, AreReasoned}
use Rattle.sb_analyze.specs.Cores.{are_negated, HasBoth, IsReasonOfFalse, AreAssumed, IsKeptCore, HasNoKeptCore, IsBothCore, IsNewCore}
use Rattle.sb_analyze.specs.declared.learned.Learned.{Learned}
use Rattle.sb_analyze.specs.Explained.{Stands, IsFalseOrReason, IsDecided}
use Rattle.sb_lit.proofs.CallerLemmas.{is_same_literal-true, is_same_literal-of, negation_twice, all_among, all_from_among, among_negated}
use Rattle.sb_analyze.proofs.Findings.{is_or_false}
use Rattle.sb_trail.proofs.CallerLemmas.{cond_cases, cond_none}
use Rattle.sb_analyze.proofs.Entries.{stands_from, entry_of-atom, stands_once, entry_of_true, reasoned_at}
use Rattle.sb_analyze.proofs.Chains.{not_both}
use Rattle.sb_analyze.proofs.Lessons.{is_lesson, not_repeated}

all_same : (p q : Lit → Bool) → ((l : Lit) → p l ≡ q l) → (ls : List Lit) → list_all p ls ≡ list_all q ls
all_same p q same [] = refl
all_same p q same (l ∷ ls) = rw (same l, all_same p q same ls) refl

-- where a literal is found it is in the list, and passes
found_passes : (p : Lit → Bool) (ls : List Lit) (l : Lit) → Some l ≡ find p ls → (is_among ls l ≡ true) × (p l ≡ true)
found_passes p [] l h = absurd (Prim.cc)
found_passes p (m ∷ ms) l h =
    elim (cond_cases (p m) m l (find p ms) (sym h)) [
      | inl here ↦ (
        or_left (is_same_literal m l) (is_among ms l) (is_same_literal-of m l here.1),
        ap p (sym here.1)
            ∙ here.0,
      )
      | inr later ↦
          let rest = found_passes p ms l (sym later.1) in
          (or_right (is_same_literal m l) (is_among ms l) rest.0, rest.1)
    ]

none_passes : (p : Lit → Bool) (ls : List Lit) → find p ls ≡ None → (l : Lit) → is_among ls l ≡ true → p l ≡ false
none_passes p [] h l among = absurd (false≢true among)
none_passes p (m ∷ ms) h l among =
    let parts = cond_none (p m) m (find p ms) h in
    elim (or_cases (is_same_literal m l) (is_among ms l) among) [
      | inl here ↦ ap p (sym (is_same_literal-true m l here)) ∙ parts.0
      | inr later ↦ none_passes p ms parts.1 l later
    ]

same_negated : (assumptions ls : List Lit) → is_false_clause assumptions ls ≡ are_negated assumptions ls
same_negated assumptions ls =
    all_same (is_false_under assumptions) (is_among (map negation assumptions))
    (λ l. sym (among_negated assumptions l)) ls

-- a clause that is false where the assumptions are true is one of negated assumptions
pub kept_core : (kept : Kept) (assumptions : List Lit) (id : ℕ) → IsConflict kept assumptions id
    → IsKeptCore kept assumptions id
kept_core kept assumptions id h = record {
  clause = h.clause;
  there = h.there;
  negated = sym (same_negated assumptions h.clause.literals) ∙ h.is_false;
}

pub no_kept_core : (kept : Kept) (assumptions : List Lit) → HasNoneFalse kept assumptions
    → HasNoKeptCore kept assumptions
no_kept_core kept assumptions h id clause there =
    sym (same_negated assumptions clause.literals) ∙ h id clause there

pub has_negated : (assumptions : List Lit) (all : Lit → Bool) → ((l : Lit) → all l ≡ is_among assumptions l) → (l : Lit)
    → all (negation l) ≡ is_among (map negation assumptions) l
has_negated assumptions all same l = same (negation l) ∙ sym (among_negated assumptions l)

module _ (kept : Kept) (assumptions : List Lit) (has : Lit → Bool) (has_is : (l : Lit)
    → has l ≡ is_among (map negation assumptions) l) where
  has_negation : (l : Lit) → has l ≡ is_among assumptions (negation l)
  has_negation l = has_is l ∙ among_negated assumptions l

  pub both_core : HasNoKeptCore kept assumptions → (l : Lit) → Some l ≡ find has assumptions
      → IsBothCore kept assumptions l
  both_core no_kept l h =
      let found = found_passes has assumptions l h in
      record { no_kept = no_kept; one = found.0; other = sym (has_negation l) ∙ found.1 }

  pub never_both : find has assumptions ≡ None → (l : Lit) → is_among assumptions l ≡ true
      → is_among assumptions (negation l) ≡ false
  never_both h l among = sym (has_negation l) ∙ none_passes has assumptions h l among

  pub no_both : find has assumptions ≡ None → HasBoth assumptions → ⊥
  no_both h both = false≢true (sym (never_both h both.literal both.one) ∙ both.other)

-- the reason of an entry of an atom
reason_entry : (entries : List Assigned) (a : ℕ) (id : ClauseId) → reason_of entries a ≡ Some id
    → (f : Assigned) × (entry_of entries a ≡ Some f) × (f.reason ≡ Some id)
reason_entry entries a id h = by_entry (entry_of entries a) refl h
  where
    by_entry : (o : Option Assigned) → entry_of entries a ≡ o → option_and_then (λ (e : Assigned). e.reason) o ≡ Some id
        → (f : Assigned) × (entry_of entries a ≡ Some f) × (f.reason ≡ Some id)
    by_entry None is none = absurd (Prim.cc (none))
    by_entry (Some f) is reason = (f, is, reason)

-- decisions are assumptions
assumed : (assumptions : List Lit) (es : List Assigned) → AreAssumed assumptions es → (e : Assigned) → Stands es e
    → e.reason ≡ None → is_among assumptions e.literal ≡ true
assumed assumptions [] h e there is = absurd (Prim.cc (there))
assumed assumptions (x ∷ xs) h e there is =
    elim (cond_cases (eqb x.literal.atom e.literal.atom) x e (entry_of xs e.literal.atom) there) [
      | inl here ↦ ap (λ (y : Assigned). is_among assumptions y.literal) (sym here.1)
          ∙ h.0 (ap (λ (y : Assigned). y.reason) here.1 ∙ is)
      | inr later ↦ assumed assumptions xs h.1 e later.1 is
    ]

-- a literal that was decided, and whose negation is an assumption
pub decided_false : (assumptions : List Lit) (es : List Assigned) (l : Lit) → AreDistinct es → AreAssumed assumptions es
    → is_false_under (held es) l ≡ true → reason_of es l.atom ≡ None → is_among assumptions (negation l) ≡ true
decided_false assumptions es l distinct h is_false none =
    let found = entry_of_true es (negation l) distinct is_false in
    let at : entry_of es l.atom ≡ Some found.entry =
    ap (λ (m : Lit). entry_of es m.atom) (sym found.literal) ∙ found.stands in
    ap (is_among assumptions) (sym found.literal) ∙ assumed assumptions es h found.entry found.stands
    (sym (ap (option_and_then (λ (e : Assigned). e.reason)) at) ∙ none)

-- the place of an entry
place_of : (es : List Assigned) (e : Assigned) → Stands es e → (n : ℕ) × (n < length es) × (get_or es n e ≡ e)
place_of [] e there = absurd (Prim.cc (there))
place_of (x ∷ xs) e there =
    elim (cond_cases (eqb x.literal.atom e.literal.atom) x e (entry_of xs e.literal.atom) there) [
      | inl here ↦ (0, omega arith, here.1)
      | inr later ↦
          let rest = place_of xs e later.1 in
          (suc rest.0, omega (arith, rest.1), rest.2)
    ]

true_on : (n : ℕ) (es : List Assigned) (l : Lit) → is_true_under (held (take n es)) l ≡ true
    → is_true_under (held es) l ≡ true
true_on zero es l h = absurd (false≢true h)
true_on (suc n) [] l h = h
true_on (suc n) (x ∷ xs) l h =
    elim (or_cases (is_same_literal x.literal l) (is_among (held (take n xs)) l) h) [
      | inl here ↦ or_left (is_same_literal x.literal l) (is_among (held xs) l) here
      | inr later ↦ or_right (is_same_literal x.literal l) (is_among (held xs) l) (true_on n xs l later)
    ]

-- what a clause has that is the reason of an entry
record IsReason (kept : Kept) (entries : List Assigned) (id : ClauseId) (e : Assigned) : Type 0 where
  clause : KeptClause
  there : kept_at kept id.0 ≡ Some clause
  among : is_among clause.literals e.literal ≡ true
  others : (m : Lit) → is_among clause.literals m ≡ true → (m ≡ e.literal) ⊎ (is_false_under (held entries) m ≡ true)

reason_is : (kept : Kept) (entries : List Assigned) → AreReasoned kept [] entries → (id : ClauseId) (e : Assigned)
    → Stands entries e → e.reason ≡ Some id → IsReason kept entries id e
reason_is kept entries reasoned id e there is =
    let place = place_of entries e there in
    let at : (e.reason ≡ None) ⊎ HasReason kept (take place.0 entries) e =
    subst (λ (f : Assigned). (f.reason ≡ None) ⊎ HasReason kept (take place.0 entries) f) place.2
    (reasoned_at kept [] entries place.0 e place.1 reasoned) in
    elim at [
      | inl none ↦ absurd (Prim.cc (is, none))
      | inr h ↦
          let same : h.id ≡ id = same_Some h.id id (sym h.reason ∙ is) in
          let outer = and_parts
          (is_among h.clause.literals e.literal && is_open_under (held (take place.0 entries)) e.literal)
          (list_all (is_or_false (held (take place.0 entries)) e.literal) h.clause.literals) h.forces in
          record {
            clause = h.clause;
            there = ap (λ (x : ClauseId). kept_at kept x.0) (sym same) ∙ h.there;
            among = (and_parts (is_among h.clause.literals e.literal)
                (is_open_under (held (take place.0 entries)) e.literal) outer.0).0;
            others = λ m among. elim
                (or_cases (is_same_literal m e.literal) (is_false_under (held (take place.0 entries)) m)
                (all_among (is_or_false (held (take place.0 entries)) e.literal) h.clause.literals m outer.1 among)) [
                  | inl same' ↦ inl (is_same_literal-true m e.literal same')
                  | inr is_false ↦ inr (true_on place.0 entries (negation m) is_false)
                ];
          }
    ]

-- the conflict is false, or forced a literal
pub false_or_reason : (kept : Kept) (entries : List Assigned) (assumptions : List Lit) (id : ClauseId)
    → IsConflict kept (held entries) id.0 ⊎ IsReasonOfFalse entries assumptions id → IsFalseOrReason kept entries id
false_or_reason kept entries assumptions id (inl conflict) = inl conflict
false_or_reason kept entries assumptions id (inr h) =
    let f = reason_entry entries h.assumption.atom id h.reason in
    inr (f.0, stands_from entries h.assumption.atom f.0 f.1, f.2)

module _ (kept : Kept) (entries : List Assigned) (distinct : AreDistinct entries)
    (reasoned : AreReasoned kept [] entries) (assumptions : List Lit) where
  -- two literals that one clause forced are one
  forced_once : (id : ClauseId) (e f : Assigned) → Stands entries e → e.reason ≡ Some id → Stands entries f
      → f.reason ≡ Some id → f.literal ≡ e.literal
  forced_once id e f at_e is_e at_f is_f =
      let re = reason_is kept entries reasoned id e at_e is_e in
      let rf = reason_is kept entries reasoned id f at_f is_f in
      let same : rf.clause ≡ re.clause = same_Some rf.clause re.clause (sym rf.there ∙ re.there) in
      elim (re.others f.literal (ap (λ (k : KeptClause). is_among k.literals f.literal) (sym same) ∙ rf.among)) [
        | inl is ↦ is
        | inr is_false ↦ absurd (not_both entries distinct f at_f is_false)
      ]

  -- the literal that the conflict forced is a negated assumption
  forced_negated : (id : ClauseId) → IsConflict kept (held entries) id.0 ⊎ IsReasonOfFalse entries assumptions id
      → (e : Assigned) → Stands entries e → e.reason ≡ Some id → is_among (map negation assumptions) e.literal ≡ true
  forced_negated id (inl conflict) e there is =
      let r = reason_is kept entries reasoned id e there is in
      let same : r.clause ≡ conflict.clause = same_Some r.clause conflict.clause (sym r.there ∙ conflict.there) in
      absurd (not_both entries distinct e there
      (all_among (is_false_under (held entries)) conflict.clause.literals e.literal conflict.is_false
      (ap (λ (k : KeptClause). is_among k.literals e.literal) (sym same) ∙ r.among)))
  forced_negated id (inr h) e there is =
      let f = reason_entry entries h.assumption.atom id h.reason in
      let at_f = stands_from entries h.assumption.atom f.0 f.1 in
      let found = entry_of_true entries (negation h.assumption) distinct h.is_false in
      let same : found.entry ≡ f.0 =
      stands_once entries f.0 found.entry at_f found.stands (ap (λ (l : Lit). l.atom) found.literal
      ∙ sym (entry_of-atom entries h.assumption.atom f.0 f.1)) in
      let is_negation : e.literal ≡ negation h.assumption = forced_once id f.0 e at_f f.2 there is
      ∙ ap (λ (x : Assigned). x.literal) (sym same) ∙ found.literal in
      ap (is_among (map negation assumptions)) is_negation ∙ among_negated assumptions (negation h.assumption)
      ∙ ap (is_among assumptions) (negation_twice h.assumption) ∙ h.given

  pub new_core : AreAssumed assumptions entries → HasNoKeptCore kept assumptions
      → ((l : Lit) → is_among assumptions l ≡ true → is_among assumptions (negation l) ≡ false) → (id : ClauseId)
      → IsConflict kept (held entries) id.0 ⊎ IsReasonOfFalse entries assumptions id
      → (lesson : Learned) → IsDecided kept entries id lesson → IsNewCore kept assumptions lesson
  new_core decisions no_kept apart id final lesson h =
      let p : Lit → Bool = is_among (map negation assumptions) in
      let all : list_all p h.explanation.clause ≡ true = h.decided p
      (λ e there is. among_negated assumptions (negation e.literal)
      ∙ ap (is_among assumptions) (negation_twice e.literal) ∙ assumed assumptions entries decisions e there is)
      (forced_negated id final) in
      let negated : are_negated assumptions lesson.clause ≡ true = all_from_among p lesson.clause (λ l among.
      all_among p h.explanation.clause l all
      (list_any-IsPermutation (λ m. is_same_literal m l) h.explanation.clause lesson.clause h.made.permutation
      ∙ among)) in
      record {
        no_kept = no_kept;
        not_both = apart;
        negated = negated;
        is_lesson = is_lesson kept h.explanation 0 lesson h.explained h.distinct h.named h.made
            (not_repeated kept lesson.clause (λ other k there.
            false_from_ne_true (are_among k.literals lesson.clause) (λ subset.
            false≢true (sym (no_kept other k there)
            ∙ all_from_among p k.literals
            (λ l among. all_among p lesson.clause l negated
            (all_among (is_among lesson.clause) k.literals l subset among))))));
      }

-- The walk down to decisions, where it begins.
use Rattle.std.proofs.Common.{◌≡◌, ℕ, ◌+◌, ◌-◌, ◌<◌, ◌≤◌, Bool, true, false, eqb, List, [], ◌∷◌, ◌++◌, length, get_or, take, Option, Some, None, refl, sym, ◌∙◌, ap, subst, inl, inr, arith}
use Rattle.std.specs.List.{list_all, position, position_from}
use Rattle.std.proofs.lemmas.Bool.{false≢true, or_left, eqb-true, eq-eqb}
use Rattle.std.proofs.lemmas.Option.{same_Some}
use Rattle.std.proofs.lemmas.List.{take_all}
use Rattle.std.proofs.lemmas.List.Folds.{list_all-append}
use Rattle.std.proofs.lemmas.Iterator.Adapters.{position_from-zero}
use Rattle.std.proofs.lemmas.List.Quantifiers.{position-Some}
use Rattle.sb_lit.specs.declared.clause.Lit.{Lit}
use Rattle.sb_lit.specs.declared.clause.ClauseId.{ClauseId}
use Rattle.sb_lit.specs.Clauses.{negation, is_among, is_false_under}
use Rattle.sb_lit.specs.Kept.{Kept, KeptClause, kept_at}
use Rattle.sb_trail.specs.declared.assigned.Assigned.{Assigned}
use Rattle.sb_trail.specs.Assignments.{Assignments, IsTrail, entry_of, held, AreDistinct}
use Rattle.sb_clauses.specs.Propagation.{IsConflict}
use Rattle.sb_analyze.specs.Reasons.{AreReasoned}
use Rattle.sb_analyze.specs.Explaining.{Explanation, begun, is_met, with_literals, with_clause, is_forced_by, with_forced, end_before, no_entry}
use Rattle.sb_analyze.specs.Learning.{literals_at, is_named}
use Rattle.sb_analyze.proofs.Named.{Named, literals_of, named_none, named_push, named_all}
use Rattle.sb_analyze.specs.Explained.{Stands, Suits, IsMarked, IsTraced, IsFalseOrReason}
use Rattle.sb_lit.proofs.CallerLemmas.{is_same_literal-apart, all_among, all_from_among, among_push_other, among_push_same}
use Rattle.sb_analyze.proofs.Literals.{AreDistinctLiterals-push}
use Rattle.sb_trail.proofs.CallerLemmas.{cond_cases, cond_none, AreDistinct-pop}
use Rattle.sb_analyze.proofs.Marks.{AreBefore, meet_all_marked, meet_all_extends, all_met, same_clause_at_zero}
use Rattle.sb_analyze.proofs.Chains.{covered, covered_literal, explained_start, Forces, forces_from, reason_before, false_before, false_on}
use Rattle.sb_analyze.proofs.Walks.{entry, front, distinct_more, stands_more, stands_here, reason_here}
use Rattle.sb_analyze.proofs.Starts.{start, marked_start, before_whole}

abbrev numbered : ℕ → ClauseId
numbered n = record { 0 = n }

forced_same : (id reason : ClauseId) → reason.0 ≡ id.0 → reason ≡ id
forced_same id reason e = ap numbered e

-- the test finds the reason
pub forced_true : (id : ClauseId) (o : Option ClauseId)
    → elim o as (λ _. Bool) [ None ↦ false | Some reason ↦ eqb reason.0 id.0 ] ≡ true → o ≡ Some id
forced_true id None h = absurd (false≢true h)
forced_true id (Some reason) h = ap (λ (x : ClauseId). Some x) (forced_same id reason (eqb-true reason.0 id.0 h))

pub forced_by : (id : ClauseId) (o : Option ClauseId) → o ≡ Some id
    → elim o as (λ _. Bool) [ None ↦ false | Some reason ↦ eqb reason.0 id.0 ] ≡ true
forced_by id None h = absurd (Prim.cc (h))
forced_by id (Some reason) h = eq-eqb reason.0 id.0 (ap (λ (x : ClauseId). x.0) (same_Some reason id h))

-- where no entry passes none that stands there does
none_from : (p : Assigned → Bool) (i : ℕ) (es : List Assigned) (e : Assigned) → position_from p i es ≡ None
    → Stands es e → p e ≡ false
none_from p i [] e h there = absurd (Prim.cc (there))
none_from p i (x ∷ xs) e h there =
    let parts = cond_none (p x) i (position_from p (i + 1) xs) h in
    elim (cond_cases (eqb x.literal.atom e.literal.atom) x e (entry_of xs e.literal.atom) there) [
      | inl here ↦ ap p (sym here.1) ∙ parts.0
      | inr later ↦ none_from p (i + 1) xs e parts.1 later.1
    ]

module _ (kept : Kept) (trail : Assignments) (is_trail : IsTrail trail) (reasoned : AreReasoned kept [] trail.literals)
    (id : ClauseId) where
  abbrev entries : List Assigned
  entries = trail.literals

  abbrev begin : Explanation
  begin = start 0 (id.0 ∷ [])

  -- a literal of the clause that is the first hint
  in_first : (clause : KeptClause) → kept_at kept id.0 ≡ Some clause → (l : Lit) → is_among clause.literals l ≡ true
      → is_named kept (id.0 ∷ []) l ≡ true
  in_first clause there l among =
      or_left (is_among (literals_at kept id.0) l) false
      (ap (λ (ls : List Lit). is_among ls l) (literals_of kept id.0 clause there) ∙ among)

  named_begun : (clause : KeptClause) → kept_at kept id.0 ≡ Some clause
      → Named kept entries (id.0 ∷ []) (with_literals entries begin clause.literals)
  named_begun clause there =
      named_all kept entries is_trail.distinct (id.0 ∷ []) clause.literals begin
      (named_none kept entries (id.0 ∷ [])) (in_first clause there)

  -- the walk begins before an entry that the clause forced
  module _ (place : ℕ) (some : 0 < place) (within : place ≤ length entries) where
    abbrev e : Assigned
    e = entry kept trail is_trail reasoned place no_entry some within 0

    abbrev rest : List Assigned
    rest = front kept trail is_trail reasoned place no_entry some within 0

    distinct : AreDistinct (rest ++ e ∷ [])
    distinct = distinct_more kept trail is_trail reasoned place no_entry some within 0

    stands : (f : Assigned) → Stands (rest ++ e ∷ []) f → Stands entries f
    stands = stands_more kept trail is_trail reasoned place no_entry some within 0

    before : AreDistinct rest
    before = (AreDistinct-pop rest e distinct).0

    missing : entry_of rest e.literal.atom ≡ None
    missing = (AreDistinct-pop rest e distinct).1

    apart : (f : Assigned) → Stands rest f → e.literal.atom ≡ f.literal.atom → ⊥
    apart f there same =
        let found : entry_of rest e.literal.atom ≡ Some f = ap (entry_of rest) same ∙ there in
        absurd (Prim.cc (missing, found))

    module _ (clause : KeptClause) (there : kept_at kept id.0 ≡ Some clause)
        (forced : Forces kept entries rest e is_trail.distinct distinct stands clause.literals) where
      abbrev t : Explanation
      t = with_literals entries begin clause.literals

      abbrev u : Explanation
      u = record t { clause = t.clause ++ e.literal ∷ [] }

      false_front : AreBefore entries rest clause.literals
      false_front = reason_before kept entries rest e is_trail.distinct distinct stands clause.literals forced

      marked_t : IsMarked rest t
      marked_t = meet_all_marked entries rest before clause.literals begin
          (marked_start 0 (id.0 ∷ []) rest before)
          false_front

      marked_u : IsMarked rest u
      marked_u = record {
        lower = λ f there'. among_push_other t.clause e.literal (negation f.literal)
            (is_same_literal-apart e.literal (negation f.literal) (apart f there')) ∙ marked_t.lower f there';
        upright = λ f there'. among_push_other t.clause e.literal f.literal
            (is_same_literal-apart e.literal f.literal (apart f there')) ∙ marked_t.upright f there';
        counted = marked_t.counted;
        distinct = AreDistinctLiterals-push t.clause e.literal marked_t.distinct
            (ap (λ (ls : List Lit). is_among ls e.literal) (same_clause_at_zero entries clause.literals begin refl));
      }

      clause_false : (literals : List Lit) → Suits rest u literals → (m : Lit) → is_among clause.literals m ≡ true
          → is_false_under literals m ≡ true
      clause_false literals suits m among =
          elim (forced.others m among) [
            | inl same ↦ ap (is_false_under literals) same
                ∙ all_among (is_false_under literals) u.clause e.literal suits.lower
                (among_push_same t.clause e.literal)
            | inr is_false ↦
                let f = false_before kept entries rest e is_trail.distinct distinct stands m is_false in
                let atom : m.atom ≡ f.entry.literal.atom = ap (λ (l : Lit). l.atom) f.literal in
                let met : is_met t.marks f.entry.literal.atom ≡ true = ap (is_met t.marks) (sym atom)
                ∙ all_met entries rest clause.literals begin false_front m among
                (false_on kept entries rest e is_trail.distinct distinct stands m f) in
                covered rest u literals marked_u suits f.entry f.stands met m f.literal
          ]

      traced_u : IsTraced kept entries u rest u
      traced_u =
          let extends = meet_all_extends entries rest clause.literals begin false_front in
          record {
            here = extends.level;
            base = record {
              marked = marked_u;
              explained = explained_start kept entries rest u id.0 clause there extends.hints
                  (λ literals suits. all_from_among (is_false_under literals) clause.literals
                  (clause_false literals suits));
            };
            named = subst (λ (ids : List ℕ). Named kept entries ids u) (sym extends.hints)
                (named_push kept entries (id.0 ∷ []) t.marks t.clause e.literal
                (named_begun clause there) (in_first clause there e.literal forced.among));
            decided = λ p h _. h;
          }

    traced_forced : e.reason ≡ Some id → (t : Explanation) → t ≡ with_clause kept entries (begun 0) id.0
        → IsTraced kept entries (record t { clause = t.clause ++ e.literal ∷ [] }) rest
        (record t { clause = t.clause ++ e.literal ∷ [] })
    traced_forced is t t_is =
        let r = reason_here kept trail is_trail reasoned place no_entry some within 0 id is in
        let forced = forces_from kept entries rest e is_trail.distinct distinct stands r.0.literals r.2 in
        let same : t ≡ with_literals entries begin r.0.literals =
        t_is ∙ ap (with_literals entries begin) (literals_of kept id.0 r.0 r.1) in
        subst (λ (x : Explanation). IsTraced kept entries (record x { clause = x.clause ++ e.literal ∷ [] }) rest
        (record x { clause = x.clause ++ e.literal ∷ [] })) (sym same) (traced_u r.0 r.1 forced)

  -- and at the end of the trail, where the clause is false
  traced_false : (conflict : IsConflict kept (held entries) id.0) → (t : Explanation)
      → t ≡ with_clause kept entries (begun 0) id.0 → IsTraced kept entries t entries t
  traced_false conflict t t_is =
      let ls = conflict.clause.literals in
      let whole = before_whole entries is_trail.distinct ls in
      let same : t ≡ with_literals entries begin ls =
      t_is ∙ ap (with_literals entries begin) (literals_of kept id.0 conflict.clause conflict.there) in
      let marked = meet_all_marked entries entries is_trail.distinct ls begin
      (marked_start 0 (id.0 ∷ []) entries is_trail.distinct) whole in
      let extends = meet_all_extends entries entries ls begin whole in
      subst (λ (x : Explanation). IsTraced kept entries x entries x) (sym same) (record {
        here = extends.level;
        base = record {
          marked = marked;
          explained = explained_start kept entries entries (with_literals entries begin ls) id.0 conflict.clause
              conflict.there extends.hints (λ literals suits.
              all_from_among (is_false_under literals) ls
              (λ m among. covered_literal entries entries begin ls whole marked literals suits m among
              (all_among (is_false_under (held entries)) ls m conflict.is_false among)));
        };
        named = subst (λ (ids : List ℕ). Named kept entries ids (with_literals entries begin ls)) (sym extends.hints)
            (named_begun conflict.clause conflict.there);
        decided = λ p h _. h;
      })

  -- the end of what is walked, and what is in the clause there
  pub record Begins (o : Option ℕ) (t : Explanation) : Type 0 where
    pub within : end_before entries o ≤ length entries
    pub traced : IsTraced kept entries (with_forced entries t o) (take (end_before entries o) entries)
        (with_forced entries t o)
    pub forced : (p : Lit → Bool) → ((f : Assigned) → Stands entries f → f.reason ≡ Some id → p f.literal ≡ true)
        → list_all p (with_forced entries t o).clause ≡ true

  empty : (t : Explanation) → t ≡ with_clause kept entries (begun 0) id.0 → t.clause ≡ []
  empty t t_is = ap (λ (x : Explanation). x.clause) t_is
      ∙ same_clause_at_zero entries (literals_at kept id.0) begin refl

  begins_at : (place : ℕ) → 0 < place → place ≤ length entries
      → is_forced_by id (get_or entries (place - 1) no_entry) ≡ true → (t : Explanation)
      → t ≡ with_clause kept entries (begun 0) id.0 → Begins (Some (place - 1)) t
  begins_at place some within test t t_is =
      let is = forced_true id (e place some within).reason test in
      record {
        within = omega arith;
        traced = traced_forced place some within is t t_is;
        forced = λ p h. list_all-append p t.clause ((e place some within).literal ∷ [])
            ∙ rw (
              empty t t_is,
              h (e place some within) (stands_here kept trail is_trail reasoned place no_entry some within 0) is,
            ) refl;
      }

  begins : IsFalseOrReason kept entries id → (o : Option ℕ) → position (is_forced_by id) entries ≡ o → (t : Explanation)
      → t ≡ with_clause kept entries (begun 0) id.0 → Begins o t
  begins conflict None none t t_is =
      let no : position_from (is_forced_by id) 0 entries ≡ None = sym (position_from-zero (is_forced_by id) entries)
      ∙ none in
      elim conflict [
        | inl is_false ↦ record {
          within = omega arith;
          traced = subst (λ (es : List Assigned). IsTraced kept entries t es t)
              (sym (take_all (length entries) entries (omega arith))) (traced_false is_false t t_is);
          forced = λ p h. ap (list_all p) (empty t t_is);
        }
        | inr reason ↦ absurd
            (false≢true (sym (none_from (is_forced_by id) 0 entries reason.0 no reason.1)
            ∙ forced_by id reason.0.reason reason.2))
      ]
  begins conflict (Some n) found t t_is =
      let at = position-Some (is_forced_by id) entries n no_entry found in
      let index : (n + 1) - 1 ≡ n = omega arith in
      subst (λ (k : ℕ). Begins (Some k) t) index
      (begins_at (n + 1) (omega arith) (omega (arith, at.0))
      (ap (λ (k : ℕ). is_forced_by id (get_or entries k no_entry)) index ∙ at.1) t t_is)

  pub begins_from : IsFalseOrReason kept entries id → (t : Explanation)
      → t ≡ with_clause kept entries (begun 0) id.0 → Begins (position (is_forced_by id) entries) t
  begins_from conflict t t_is = begins conflict (position (is_forced_by id) entries) refl t t_is

  -- the same of what the code has
  pub begins_traced : (t : Explanation) → Begins (position (is_forced_by id) entries) t → (es : List Assigned)
      → es ≡ entries → (u : Explanation) → u ≡ with_forced es t (position (is_forced_by id) es) → (end : ℕ)
      → end ≡ end_before es (position (is_forced_by id) es)
      → IsTraced kept entries u (take end es) u
  begins_traced t h es same u u_is end end_is =
      subst (λ (n : ℕ). IsTraced kept entries u (take n es) u) (sym end_is)
      (subst (λ (x : Explanation). IsTraced kept entries x (take (end_before es (position (is_forced_by id) es)) es) x)
      (sym u_is)
      (subst (λ (xs : List Assigned). IsTraced kept entries (with_forced xs t (position (is_forced_by id) xs))
      (take (end_before xs (position (is_forced_by id) xs)) xs) (with_forced xs t (position (is_forced_by id) xs)))
      (sym same) h.traced))

  pub begins_passes : (t : Explanation) → Begins (position (is_forced_by id) entries) t → (es : List Assigned)
      → es ≡ entries → (u : Explanation) → u ≡ with_forced es t (position (is_forced_by id) es)
      → (p : Lit → Bool) → ((f : Assigned) → Stands entries f → f.reason ≡ Some id → p f.literal ≡ true)
      → list_all p u.clause ≡ true
  begins_passes t h es same u u_is p passes =
      ap (λ (x : Explanation). list_all p x.clause)
      (u_is ∙ ap (λ (xs : List Assigned). with_forced xs t (position (is_forced_by id) xs)) same)
      ∙ h.forced p passes

-- Meeting literals.
use Rattle.std.proofs.Common.{◌≡◌, ℕ, ◌+◌, ◌<◌, ◌≤◌, Bool, true, false, not, cond, ◌&&◌, ◌||◌, ◌⊎◌, ltb, leb, List, [], ◌∷◌, ◌++◌, Some, None, refl, sym, ◌∙◌, ap, inl, inr, arith}
use Rattle.std.specs.List.{list_all}
use Rattle.std.proofs.lemmas.Bool.{false≢true, and_parts, and_left, and_right, or_left, or_right, or_cases, or_parts, cases_eq, cond_both, not-true, not-false, ltb-true, ltb-false, lt-ltb, le-ltb, le-leb, lt-leb, eq-eqb, ne_eqb}
use Rattle.std.proofs.lemmas.List.Folds.{list_all-append}
use Rattle.sb_lit.specs.declared.clause.Lit.{Lit}
use Rattle.sb_lit.specs.Clauses.{negation, is_same_literal, is_among, is_false_under}
use Rattle.sb_trail.specs.declared.assigned.Assigned.{Assigned}
use Rattle.sb_trail.specs.Assignments.{entry_of, held, AreDistinct}
use Rattle.sb_analyze.specs.Reasons.{level_in}
use Rattle.sb_analyze.specs.Explaining.{Explanation, is_met, also_met, is_pending, with_literal, with_literals}
use Rattle.sb_analyze.specs.Explained.{Stands, IsMarked, AreLower}
use Rattle.sb_lit.proofs.CallerLemmas.{is_same_literal-true, is_same_literal-of, is_same_literal-apart, is_same_literal-negation, among_push_other, among_push_same}
use Rattle.sb_analyze.proofs.Literals.{AreDistinctLiterals-push}
use Rattle.sb_analyze.proofs.Entries.{stands_once, count_agree, count_more}

-- a literal of the front that is false on the trail
pub record IsFalseBefore (entries front : List Assigned) (l : Lit) : Type 0 where
  pub entry : Assigned
  pub stands : Stands front entry
  pub literal : l ≡ negation entry.literal
  pub level : level_in entries l ≡ entry.level

-- the literals that are false stand in the front
abbrev pub AreBefore : List Assigned → List Assigned → List Lit → Type 0
AreBefore entries front ls = (l : Lit) → is_among ls l ≡ true → is_false_under (held entries) l ≡ true
    → IsFalseBefore entries front l

-- the literal into the clause
abbrev pub put_lower : Explanation → Lit → Explanation
put_lower s l = record s { marks = also_met s.marks l.atom; clause = s.clause ++ l ∷ [] }

-- the literal to those that are to be resolved
abbrev pub put_open : Explanation → Lit → Explanation
put_open s l = record s { marks = also_met s.marks l.atom; pending = s.pending + 1 }

-- what holds in each case holds of a literal that is met
pub by_cases : (P : Explanation → Type 0) (entries : List Assigned) (s : Explanation) (l : Lit)
    → ((is_met s.marks l.atom ≡ true) ⊎ (is_false_under (held entries) l ≡ false) → P s)
    → (is_met s.marks l.atom ≡ false → is_false_under (held entries) l ≡ true → level_in entries l < s.level
    → P (put_lower s l))
    → (is_met s.marks l.atom ≡ false → is_false_under (held entries) l ≡ true → s.level ≤ level_in entries l
    → P (put_open s l))
    → P (with_literal entries s l)
by_cases P entries s l stay lower higher =
    cond_both (is_met s.marks l.atom || not (is_false_under (held entries) l)) s
    (cond (ltb (level_in entries l) s.level) (put_lower s l) (put_open s l)) P
    (λ yes. elim (or_cases (is_met s.marks l.atom) (not (is_false_under (held entries) l)) yes) [
      | inl met ↦ stay (inl met)
      | inr not_false ↦ stay
          (inr (not-true (is_false_under (held entries) l) not_false))
    ]) (λ no.
    let parts = or_parts (is_met s.marks l.atom) (not (is_false_under (held entries) l)) no in
    let as_false : is_false_under (held entries) l ≡ true = not-false (is_false_under (held entries) l) parts.1 in
    cond_both (ltb (level_in entries l) s.level) (put_lower s l) (put_open s l) P
    (λ below. lower parts.0 as_false (ltb-true (level_in entries l) s.level below))
    (λ above. higher parts.0 as_false (ltb-false (level_in entries l) s.level above)))

met_same : (marks : ℕ → Bool) (a : ℕ) → is_met (also_met marks a) a ≡ true
met_same marks a = rw (eq-eqb a a refl) refl

pub met_other : (marks : ℕ → Bool) (a b : ℕ) → (b ≡ a → ⊥) → is_met (also_met marks a) b ≡ is_met marks b
met_other marks a b other = rw (ne_eqb a b (λ same. other (sym same))) refl

met_more : (marks : ℕ → Bool) (a b : ℕ) → is_met marks b ≡ true → is_met (also_met marks a) b ≡ true
met_more marks a b met =
    elim (cases_eq b a) [
      | inl same ↦ ap (is_met (also_met marks a)) same ∙ met_same marks a
      | inr other ↦ met_other marks a b other ∙ met
    ]

module _ (entries front : List Assigned) (distinct : AreDistinct front) where
  -- the entry of the atom of a literal that is false before
  is_its_entry : (l : Lit) (f : IsFalseBefore entries front l) (e : Assigned) → Stands front e → e.literal.atom ≡ l.atom
      → e ≡ f.entry
  is_its_entry l f e there same = stands_once front f.entry e f.stands there (same ∙ ap (λ (m : Lit). m.atom) f.literal)

  not_in_clause : (s : Explanation) → IsMarked front s → (l : Lit) → IsFalseBefore entries front l
      → is_met s.marks l.atom ≡ false → is_among s.clause l ≡ false
  not_in_clause s h l f unmet =
      let atom : f.entry.literal.atom ≡ l.atom = sym (ap (λ (m : Lit). m.atom) f.literal) in
      let unmet' : is_met s.marks f.entry.literal.atom ≡ false = ap (is_met s.marks) atom ∙ unmet in
      ap (is_among s.clause) f.literal ∙ h.lower f.entry f.stands
      ∙ and_left (is_met s.marks f.entry.literal.atom) (ltb f.entry.level s.level) unmet'

  lower_marked : (s : Explanation) → IsMarked front s → (l : Lit) → IsFalseBefore entries front l
      → is_met s.marks l.atom ≡ false → level_in entries l < s.level → IsMarked front (put_lower s l)
  lower_marked s h l f unmet below =
      let low : f.entry.level < s.level = omega (arith, below, f.level) in
      let not_in : is_among s.clause l ≡ false = not_in_clause s h l f unmet in
      record {
        lower = λ e there. elim (cases_eq e.literal.atom l.atom) [
          | inl same ↦
              let is_e : e ≡ f.entry = is_its_entry l f e there same in
              let is_l : l ≡ negation e.literal = f.literal ∙ ap (λ (x : Assigned). negation x.literal) (sym is_e) in
              let level : e.level ≡ f.entry.level = ap (λ (x : Assigned). x.level) is_e in
              let met : is_met (also_met s.marks l.atom) e.literal.atom ≡ true =
              ap (is_met (also_met s.marks l.atom)) same ∙ met_same s.marks l.atom in
              ap (is_among (s.clause ++ l ∷ [])) (sym is_l) ∙ among_push_same s.clause l
              ∙ sym (rw (met, lt-ltb e.level s.level (omega (arith, level, low))) refl)
          | inr other ↦
              among_push_other s.clause l (negation e.literal)
              (is_same_literal-apart l (negation e.literal) (λ same. other (sym same))) ∙ h.lower e there
              ∙ ap (λ b. b && ltb e.level s.level) (sym (met_other s.marks l.atom e.literal.atom other))
        ];
        upright = λ e there.
            let apart : is_same_literal l e.literal ≡ false = elim (cases_eq e.literal.atom l.atom) [
              | inl same ↦
                  let is_l : l ≡ negation e.literal =
                  f.literal ∙ ap (λ (x : Assigned). negation x.literal) (sym (is_its_entry l f e there same)) in
                  ap (λ (m : Lit). is_same_literal m e.literal) is_l ∙ is_same_literal-negation e.literal
              | inr other ↦ is_same_literal-apart l e.literal (λ same. other (sym same))
            ] in
            among_push_other s.clause l e.literal apart ∙ h.upright e there;
        counted =
            let count = count_agree (is_pending s.level s.marks) (is_pending s.level (also_met s.marks l.atom)) front
            distinct (λ e there. elim (cases_eq e.literal.atom l.atom) [
              | inl same ↦
                  let level : e.level ≡ f.entry.level = ap (λ (x : Assigned). x.level) (is_its_entry l f e there same)
                  in
                  let is_low : leb s.level e.level ≡ false = lt-leb s.level e.level (omega (arith, level, low)) in
                  and_left (leb s.level e.level) (is_met s.marks e.literal.atom) is_low
                  ∙ sym (and_left (leb s.level e.level) (is_met (also_met s.marks l.atom) e.literal.atom) is_low)
              | inr other ↦ ap (λ b. leb s.level e.level && b) (sym (met_other s.marks l.atom e.literal.atom other))
            ]) in
            omega (arith, h.counted, count);
        distinct = AreDistinctLiterals-push s.clause l h.distinct not_in;
      }

  open_marked : (s : Explanation) → IsMarked front s → (l : Lit) → IsFalseBefore entries front l
      → is_met s.marks l.atom ≡ false → s.level ≤ level_in entries l → IsMarked front (put_open s l)
  open_marked s h l f unmet above =
      let high : s.level ≤ f.entry.level = omega (arith, above, f.level) in
      let atom : f.entry.literal.atom ≡ l.atom = sym (ap (λ (m : Lit). m.atom) f.literal) in
      record {
        lower = λ e there. elim (cases_eq e.literal.atom l.atom) [
          | inl same ↦
              let level : e.level ≡ f.entry.level = ap (λ (x : Assigned). x.level) (is_its_entry l f e there same) in
              let is_high : ltb e.level s.level ≡ false = le-ltb e.level s.level (omega (arith, level, high)) in
              h.lower e there ∙ and_right (is_met s.marks e.literal.atom) (ltb e.level s.level) is_high
              ∙ sym (and_right (is_met (also_met s.marks l.atom) e.literal.atom) (ltb e.level s.level) is_high)
          | inr other ↦ h.lower e there
              ∙ ap (λ b. b && ltb e.level s.level) (sym (met_other s.marks l.atom e.literal.atom other))
        ];
        upright = h.upright;
        counted =
            let met : is_met (also_met s.marks l.atom) f.entry.literal.atom ≡ true =
            ap (is_met (also_met s.marks l.atom)) atom ∙ met_same s.marks l.atom in
            let unmet' : is_met s.marks f.entry.literal.atom ≡ false = ap (is_met s.marks) atom ∙ unmet in
            let count = count_more (is_pending s.level s.marks) (is_pending s.level (also_met s.marks l.atom)) front
            f.entry distinct f.stands
            (and_right (leb s.level f.entry.level) (is_met s.marks f.entry.literal.atom) unmet')
            (rw (le-leb s.level f.entry.level high, met) refl)
            (λ e there other. ap (λ b. leb s.level e.level && b)
            (sym (met_other s.marks l.atom e.literal.atom (λ same. other (same ∙ sym atom))))) in
            omega (arith, h.counted, count);
        distinct = h.distinct;
      }

  pub meet_marked : (s : Explanation) → IsMarked front s → (l : Lit)
      → (is_false_under (held entries) l ≡ true → IsFalseBefore entries front l)
      → IsMarked front (with_literal entries s l)
  meet_marked s h l f =
      by_cases (IsMarked front) entries s l (λ _. h)
      (λ unmet is_false below. lower_marked s h l (f is_false) unmet below)
      (λ unmet is_false above. open_marked s h l (f is_false) unmet above)

  pub meet_all_marked : (ls : List Lit) (s : Explanation) → IsMarked front s → AreBefore entries front ls
      → IsMarked front (with_literals entries s ls)
  meet_all_marked [] s h f = h
  meet_all_marked (l ∷ ls) s h f =
      meet_all_marked ls (with_literal entries s l)
      (meet_marked s h l (f l (or_left (is_same_literal l l) (is_among ls l) (is_same_literal-of l l refl))))
      (λ m among. f m (or_right (is_same_literal l m) (is_among ls m) among))

-- what meeting literals keeps
pub record Extends (front : List Assigned) (s t : Explanation) : Type 0 where
  pub level : t.level ≡ s.level
  pub hints : t.hints ≡ s.hints
  pub met : (a : ℕ) → is_met s.marks a ≡ true → is_met t.marks a ≡ true
  pub clause : (p : Lit → Bool) → list_all p t.clause ≡ true → list_all p s.clause ≡ true
  pub outside : (l : Lit) → entry_of front l.atom ≡ None → is_among t.clause l ≡ is_among s.clause l
  pub pending : s.pending ≤ t.pending

Extends-refl : (front : List Assigned) (s : Explanation) → Extends front s s
Extends-refl front s =
    record {
      level = refl;
      hints = refl;
      met = λ a h. h;
      clause = λ p h. h;
      outside = λ l h. refl;
      pending =
          omega arith;
    }

Extends-trans : (front : List Assigned) (s t u : Explanation) → Extends front s t → Extends front t u
    → Extends front s u
Extends-trans front s t u h k = record {
  level = k.level ∙ h.level;
  hints = k.hints ∙ h.hints;
  met = λ a is. k.met a (h.met a is);
  clause = λ p is. h.clause p (k.clause p is);
  outside = λ l none. k.outside l none ∙ h.outside l none;
  pending = omega (arith, h.pending, k.pending);
}

module _ (entries front : List Assigned) where
  meet_extends : (s : Explanation) (l : Lit) → (is_false_under (held entries) l ≡ true → IsFalseBefore entries front l)
      → Extends front s (with_literal entries s l)
  meet_extends s l f =
      by_cases (Extends front s) entries s l (λ _. Extends-refl front s)
      (λ unmet is_false below. record {
        level = refl;
        hints = refl;
        met = λ a h. met_more s.marks l.atom a h;
        clause = λ p h. (and_parts (list_all p s.clause) (list_all p (l ∷ []))
            (sym (list_all-append p s.clause (l ∷ [])) ∙ h)).0;
        outside = λ m none. among_push_other s.clause l m (is_same_literal-apart l m (λ same.
            let found = f is_false in
            let atom : found.entry.literal.atom ≡ m.atom = sym (ap (λ (x : Lit). x.atom) found.literal) ∙ same in
            let there : entry_of front m.atom ≡ Some found.entry = ap (entry_of front) (sym atom) ∙ found.stands in
            absurd (Prim.cc (none, there))));
        pending = omega arith;
      })
      (λ unmet is_false above. record {
        level = refl;
        hints = refl;
        met = λ a h. met_more s.marks l.atom a h;
        clause = λ p h. h;
        outside = λ m none. refl;
        pending = omega arith;
      })

  pub meet_all_extends : (ls : List Lit) (s : Explanation) → AreBefore entries front ls
      → Extends front s (with_literals entries s ls)
  meet_all_extends [] s f = Extends-refl front s
  meet_all_extends (l ∷ ls) s f =
      Extends-trans front s (with_literal entries s l) (with_literals entries (with_literal entries s l) ls)
      (meet_extends s l (f l (or_left (is_same_literal l l) (is_among ls l) (is_same_literal-of l l refl))))
      (meet_all_extends ls (with_literal entries s l)
      (λ m among. f m (or_right (is_same_literal l m) (is_among ls m) among)))

  -- each literal that is false was met
  met_after : (s : Explanation) (l : Lit) → is_false_under (held entries) l ≡ true
      → is_met (with_literal entries s l).marks l.atom ≡ true
  met_after s l is_false =
      by_cases (λ t. is_met t.marks l.atom ≡ true) entries s l
      (λ h. elim h [ inl met ↦ met | inr not_false ↦ absurd (false≢true (sym not_false ∙ is_false)) ])
      (λ h k b. met_same s.marks l.atom)
      (λ h k b. met_same s.marks l.atom)

  pub all_met : (ls : List Lit) (s : Explanation) → AreBefore entries front ls → (l : Lit) → is_among ls l ≡ true
      → is_false_under (held entries) l ≡ true → is_met (with_literals entries s ls).marks l.atom ≡ true
  all_met [] s f l among is_false = absurd (false≢true among)
  all_met (m ∷ ms) s f l among is_false =
      let rest : AreBefore entries front ms = λ x there. f x (or_right (is_same_literal m x) (is_among ms x) there) in
      elim (or_cases (is_same_literal m l) (is_among ms l) among) [
        | inl here ↦
            let is_m : m ≡ l = is_same_literal-true m l here in
            let met : is_met (with_literal entries s m).marks l.atom ≡ true =
            ap (λ (x : Lit). is_met (with_literal entries s m).marks x.atom) (sym is_m)
            ∙ met_after s m (ap (is_false_under (held entries)) is_m ∙ is_false) in
            (meet_all_extends ms (with_literal entries s m) rest).met l.atom met
        | inr later ↦ all_met ms (with_literal entries s m) rest l later is_false
      ]

  -- the clause stays false on the trail, and of lower levels
  meet_lower : (s : Explanation) (l : Lit) → AreLower entries s → AreLower entries (with_literal entries s l)
  meet_lower s l h =
      by_cases (AreLower entries) entries s l (λ _. h)
      (λ unmet is_false below. (
        list_all-append (is_false_under (held entries)) s.clause (l ∷ []) ∙ rw (h.0, is_false) refl,
        list_all-append (λ m. ltb (level_in entries m) s.level) s.clause (l ∷ [])
            ∙ rw (h.1, lt-ltb (level_in entries l) s.level below) refl,
      ))
      (λ unmet is_false above. h)

  pub meet_all_lower : (ls : List Lit) (s : Explanation) → AreLower entries s
      → AreLower entries (with_literals entries s ls)
  meet_all_lower [] s h = h
  meet_all_lower (l ∷ ls) s h = meet_all_lower ls (with_literal entries s l) (meet_lower s l h)

-- where all levels are resolved, no literal goes into the clause
same_clause_one : (entries : List Assigned) (s : Explanation) (l : Lit) → s.level ≡ 0
    → ((with_literal entries s l).clause ≡ s.clause) × ((with_literal entries s l).level ≡ 0)
same_clause_one entries s l all =
    by_cases (λ t. (t.clause ≡ s.clause) × (t.level ≡ 0)) entries s l (λ _. (refl, all))
    (λ _ _ below. absurd (omega (arith, all, below))) (λ _ _ _. (refl, all))

pub same_clause_at_zero : (entries : List Assigned) (ls : List Lit) (s : Explanation) → s.level ≡ 0
    → (with_literals entries s ls).clause ≡ s.clause
same_clause_at_zero entries [] s all = refl
same_clause_at_zero entries (l ∷ ls) s all =
    let one = same_clause_one entries s l all in
    same_clause_at_zero entries ls (with_literal entries s l) one.1 ∙ one.0

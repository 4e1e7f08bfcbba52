-- A literal that is left out of a clause, since the reason of its negation forces that where the others are false.
use Rattle.std.proofs.Common.{◌≡◌, ℕ, ◌+◌, ◌<◌, ◌≤◌, Bool, true, false, not, cond, ◌&&◌, ◌||◌, ◌⊎◌, ltb, List, [], ◌∷◌, ◌++◌, map, reverse, Option, Some, None, refl, sym, ◌∙◌, ap, inl, inr, arith}
use Rattle.std.specs.List.{list_all, filter, count_by}
use Rattle.std.proofs.lemmas.Bool.{false≢true, and_parts, or_left, or_right, or_cases, cases_Bool, eq-eqb, ltb-true, false_from_ne_true}
use Rattle.std.proofs.lemmas.List.{reverse-append}
use Rattle.std.proofs.lemmas.List.Sums.{sum_by-append}
use Rattle.sb_lit.specs.declared.clause.Lit.{Lit}
use Rattle.sb_lit.specs.declared.clause.ClauseId.{ClauseId}
use Rattle.sb_lit.specs.Clauses.{negation, is_same_literal, is_among, is_false_under, is_open_under}
use Rattle.sb_lit.specs.Kept.{Kept, KeptClause, kept_at}
use Rattle.sb_lit.specs.Hints.{course, ends_false, forces, finding}
use Rattle.sb_trail.specs.declared.assigned.Assigned.{Assigned}
use Rattle.sb_trail.specs.Assignments.{held, IsConsistent}
use Rattle.sb_lit.proofs.CallerLemmas.{literal_of_parts, is_same_literal-true, is_same_literal-self, is_same_literal-of, is_same_literal-apart, negation_twice, all_among, all_from_among, among_push}
use Rattle.sb_analyze.specs.Reasons.{level_in}
use Rattle.sb_analyze.specs.Learning.{is_named, literals_at}
use Rattle.sb_analyze.specs.Explaining.{Explanation}
use Rattle.sb_analyze.specs.Explained.{Suits, AreDistinctLiterals, IsFirstUip}
use Rattle.sb_analyze.specs.Minimising.{is_other, is_implied, is_implied_by, standing, IsMinimising}
use Rattle.sb_analyze.specs.Assumed.{are_equal}
use Rattle.sb_analyze.proofs.Literals.{are_equal-same}
use Rattle.sb_analyze.proofs.Findings.{finding_forces, is_or_false}
use Rattle.sb_analyze.proofs.Chains.{forced_first, hinted_more}

-- what passes a test
pub among_passes : (p : Lit → Bool) (ls : List Lit) (m : Lit) → is_among (filter p ls) m ≡ true
    → (p m ≡ true) × (is_among ls m ≡ true)
among_passes p [] m h = absurd (false≢true h)
among_passes p (x ∷ xs) m h =
    elim (cases_Bool (p x)) [
      | inl on' ↦
          let split : is_among (x ∷ filter p xs) m ≡ true = rw on' at h in
          elim (or_cases (is_same_literal x m) (is_among (filter p xs) m) split) [
            | inl here ↦ (
              ap p (sym (is_same_literal-true x m here)) ∙ on',
              or_left (is_same_literal x m) (is_among xs m) here,
            )
            | inr later ↦
                let rest = among_passes p xs m later in
                (rest.0, or_right (is_same_literal x m) (is_among xs m) rest.1)
          ]
      | inr off' ↦
          let rest = among_passes p xs m (rw off' at h) in
          (rest.0, or_right (is_same_literal x m) (is_among xs m) rest.1)
    ]

pub passes_among : (p : Lit → Bool) (ls : List Lit) (m : Lit) → p m ≡ true → is_among ls m ≡ true
    → is_among (filter p ls) m ≡ true
passes_among p [] m passes h = absurd (false≢true h)
passes_among p (x ∷ xs) m passes h =
    elim (cases_Bool (p x)) [
      | inl on' ↦ rw on' (elim (or_cases (is_same_literal x m) (is_among xs m) h) [
        | inl here ↦ or_left (is_same_literal x m) (is_among (filter p xs) m) here
        | inr later ↦ or_right (is_same_literal x m) (is_among (filter p xs) m) (passes_among p xs m passes later)
      ])
      | inr off' ↦ rw off' (elim (or_cases (is_same_literal x m) (is_among xs m) h) [
        | inl here ↦ absurd (false≢true (sym off' ∙ ap p (is_same_literal-true x m here) ∙ passes))
        | inr later ↦ passes_among p xs m passes later
      ])
    ]

pub all_pass : (p : Lit → Bool) (ls : List Lit) → ((m : Lit) → is_among ls m ≡ true → p m ≡ true) → filter p ls ≡ ls
all_pass p [] h = refl
all_pass p (x ∷ xs) h =
    rw (h x (or_left (is_same_literal x x) (is_among xs x) (is_same_literal-self x)))
    (ap (λ ys. x ∷ ys) (all_pass p xs (λ m among. h m (or_right (is_same_literal x m) (is_among xs m) among))))

count_fewer : (f p q : Lit → Bool) (ls : List Lit) → ((m : Lit) → q m ≡ true → p m ≡ true)
    → count_by f (filter q ls) ≤ count_by f (filter p ls)
count_fewer f p q [] weaker = omega arith
count_fewer f p q (x ∷ xs) weaker =
    let rest = count_fewer f p q xs weaker in
    let of_q : count_by f (x ∷ filter q xs) ≡ count_by f (x ∷ []) + count_by f (filter q xs) =
    sum_by-append (λ (y : Lit). cond (f y) 1 0) (x ∷ []) (filter q xs) in
    let of_p : count_by f (x ∷ filter p xs) ≡ count_by f (x ∷ []) + count_by f (filter p xs) =
    sum_by-append (λ (y : Lit). cond (f y) 1 0) (x ∷ []) (filter p xs) in
    elim (cases_Bool (q x)) [
      | inl on' ↦
          let both : count_by f (x ∷ filter q xs) ≤ count_by f (x ∷ filter p xs) = omega (arith, rest, of_q, of_p) in
          rw (on', weaker x on') both
      | inr off' ↦ elim (cases_Bool (p x)) [
        | inl here ↦
            let more : count_by f (filter q xs) ≤ count_by f (x ∷ filter p xs) = omega (arith, rest, of_p) in
            rw (off', here) more
        | inr gone ↦ rw (off', gone) rest
      ]
    ]

distinct_fewer : (p q : Lit → Bool) (ls : List Lit) (n : Lit) → ((m : Lit) → q m ≡ true → p m ≡ true)
    → AreDistinctLiterals (filter p ls ++ n ∷ []) → AreDistinctLiterals (filter q ls ++ n ∷ [])
distinct_fewer p q ls n weaker h l =
    omega (
      arith,
      sum_by-append (λ (x : Lit). cond (is_same_literal x l) 1 0) (filter q ls) (n ∷ []),
      sum_by-append (λ (x : Lit). cond (is_same_literal x l) 1 0) (filter p ls) (n ∷ []),
      h l,
      count_fewer (λ x. is_same_literal x l) p q ls weaker,
    )

other_sign : (a b : Bool) → cond a b (not b) ≡ false → b ≡ not a
other_sign true true h = absurd (false≢true (sym h))
other_sign true false h = refl
other_sign false true h = refl
other_sign false false h = absurd (false≢true (sym h))

open_apart : (literals : List Lit) (l m : Lit) → (l.atom ≡ m.atom → ⊥) → is_open_under literals m ≡ true
    → is_open_under (l ∷ literals) m ≡ true
open_apart literals l m other h = rw (is_same_literal-apart l m other, is_same_literal-apart l (negation m) other) h

-- two literals of an atom
same_atom : (l m : Lit) → l.atom ≡ m.atom → (m ≡ l) ⊎ (m ≡ negation l)
same_atom l m e =
    elim (cases_Bool (is_same_literal l m)) [
      | inl same ↦ inl (sym (is_same_literal-true l m same))
      | inr other ↦
          let signs : cond l.positive m.positive (not m.positive) ≡ false =
          rw (eq-eqb l.atom m.atom e) at other in
          inr (literal_of_parts m.atom l.atom m.positive (not l.positive) (sym e)
          (other_sign l.positive m.positive signs))
    ]

module _ (kept : Kept) (entries : List Assigned) (consistent : IsConsistent (held entries)) (level : ℕ) (left : Lit)
    (s : Explanation) (stands now : Lit → Bool) (h : IsMinimising kept entries level left s stands) (l : Lit) (id : ℕ)
    (clause : KeptClause) (there : kept_at kept id ≡ Some clause)
    (implied : is_implied stands l clause.literals ≡ true)
    (removed : (m : Lit) → now m ≡ (stands m && not (is_same_literal m l))) where
  abbrev before : List Lit
  before = filter stands s.clause

  abbrev after : List Lit
  after = filter now s.clause

  parts : (stands l ≡ true) × (is_among clause.literals (negation l) ≡ true)
      × (list_all (is_other stands l) clause.literals ≡ true)
  parts =
      let outer = and_parts (stands l) (is_among clause.literals (negation l)
      && list_all (is_other stands l) clause.literals) implied in
      let inner = and_parts (is_among clause.literals (negation l)) (list_all (is_other stands l) clause.literals)
      outer.1 in
      (outer.0, inner.0, inner.1)

  weaker : (m : Lit) → now m ≡ true → stands m ≡ true
  weaker m is = (and_parts (stands m) (not (is_same_literal m l)) (sym (removed m) ∙ is)).0

  gone : now l ≡ false
  gone = removed l ∙ rw (parts.0, is_same_literal-self l) refl

  -- the left out literal was in the clause
  was : is_among before l ≡ true
  was = passes_among stands s.clause l parts.0 (h.within l parts.0)

  is_false : is_false_under (held entries) l ≡ true
  is_false = all_among (is_false_under (held entries)) before l h.uip.lower.0 was

  fewer : (m : Lit) → is_among after m ≡ true → is_among before m ≡ true
  fewer m among =
      let both = among_passes now s.clause m among in
      passes_among stands s.clause m (weaker m both.0) both.1

  stays : (m : Lit) → is_among before m ≡ true → (is_among after m ≡ true) ⊎ (m ≡ l)
  stays m among =
      let both = among_passes stands s.clause m among in
      elim (cases_Bool (is_same_literal m l)) [
        | inl same ↦ inr (is_same_literal-true m l same)
        | inr other ↦ inl (passes_among now s.clause m (removed m ∙ rw (both.0, other) refl) both.1)
      ]

  -- it is another literal than the one that is left, and the negation of none
  level_l : level_in entries l < level
  level_l = omega (
    arith,
    h.uip.here,
    ltb-true (level_in entries l) s.level
        (all_among (λ m. ltb (level_in entries m) s.level) before l h.uip.lower.1 was),
  )

  apart_left : (m : Lit) → m.atom ≡ l.atom → m ≡ negation left → ⊥
  apart_left m atom is =
      let atoms : l.atom ≡ left.atom = sym atom ∙ ap (λ (x : Lit). x.atom) is in
      let levels : level_in entries l ≡ level_in entries left =
      ap (λ a. level_in entries (record { atom = a; positive = true })) atoms in
      omega (arith, level_l, levels, h.uip.at)

  last_apart : (m : Lit) → m.atom ≡ l.atom → (is_same_literal (negation left) m || false) ≡ false
  last_apart m atom = false_from_ne_true (is_same_literal (negation left) m || false) (λ same.
      elim (or_cases (is_same_literal (negation left) m) false same) [
        | inl here ↦ apart_left m atom (sym (is_same_literal-true (negation left) m here))
        | inr wrong ↦ false≢true wrong
      ])

  not_after : is_among (after ++ negation left ∷ []) l ≡ false
  not_after =
      among_push after (negation left) l
      ∙ rw (
        false_from_ne_true (is_among after l) (λ among.
            false≢true (sym gone ∙ (among_passes now s.clause l among).0)),
        last_apart l refl,
      ) refl

  negation_not_after : is_among (after ++ negation left ∷ []) (negation l) ≡ false
  negation_not_after =
      among_push after (negation left) (negation l)
      ∙ rw (
        false_from_ne_true (is_among after (negation l)) (λ among.
            let is_false' : is_false_under (held entries) (negation l) ≡ true =
            all_among (is_false_under (held entries)) before (negation l) h.uip.lower.0 (fewer (negation l) among) in
            false≢true (sym (consistent (negation l) is_false) ∙ is_false')),
        last_apart (negation l) refl,
      ) refl

  abbrev all_before : List Lit
  all_before = before ++ negation left ∷ []

  abbrev all_after : List Lit
  all_after = after ++ negation left ∷ []

  -- a literal of the clause before is one of the clause after, or the left out one
  cases_before : (m : Lit) → is_among all_before m ≡ true → (is_among all_after m ≡ true) ⊎ (m ≡ l)
  cases_before m among =
      elim (or_cases (is_among before m) (is_same_literal (negation left) m || false)
      (sym (among_push before (negation left) m) ∙ among)) [
        | inl here ↦ elim (stays m here) [
          | inl still ↦ inl (among_push after (negation left) m
              ∙ or_left (is_among after m) (is_same_literal (negation left) m || false) still)
          | inr is ↦ inr is
        ]
        | inr last ↦ inl (among_push after (negation left) m
            ∙ or_right (is_among after m) (is_same_literal (negation left) m || false) last)
      ]

  after_before : (m : Lit) → is_among all_after m ≡ true → is_among all_before m ≡ true
  after_before m among =
      elim (or_cases (is_among after m) (is_same_literal (negation left) m || false)
      (sym (among_push after (negation left) m) ∙ among)) [
        | inl here ↦ among_push before (negation left) m
            ∙ or_left (is_among before m) (is_same_literal (negation left) m || false) (fewer m here)
        | inr last ↦ among_push before (negation left) m
            ∙ or_right (is_among before m) (is_same_literal (negation left) m || false) last
      ]

  abbrev t : Explanation
  t = record (standing s now) { hints = id ∷ s.hints }

  module _ (literals : List Lit) (suits : Suits [] (record t { clause = all_after; pending = 0 }) literals) where
    open_l : is_open_under literals (negation l) ≡ true
    open_l = suits.others (negation l) negation_not_after
        (ap (is_among all_after) (negation_twice l) ∙ not_after) refl

    forced : finding literals clause.literals ≡ forces (negation l)
    forced = finding_forces literals clause.literals (negation l) parts.1 open_l
        (all_from_among (is_or_false literals (negation l)) clause.literals (λ m among.
        elim (or_cases (is_same_literal m (negation l)) (stands m && not (is_same_literal m l))
        (all_among (is_other stands l) clause.literals m parts.2 among)) [
          | inl same ↦ or_left (is_same_literal m (negation l)) (is_false_under literals m) same
          | inr other ↦
              let stands' : stands m ≡ true = (and_parts (stands m) (not (is_same_literal m l)) other).0 in
              let in_after : is_among after m ≡ true =
              passes_among now s.clause m (removed m ∙ other) (h.within m stands') in
              or_right (is_same_literal m (negation l)) (is_false_under literals m)
              (all_among (is_false_under literals) all_after m suits.lower
              (among_push after (negation left) m
              ∙ or_left (is_among after m) (is_same_literal (negation left) m || false) in_after))
        ]))

    suits_before : Suits [] (record (standing s stands) { clause = all_before; pending = 0 }) (negation l ∷ literals)
    suits_before = record {
      lower = all_from_among (is_false_under (negation l ∷ literals)) all_before (λ m among.
          elim (cases_before m among) [
            | inl still ↦ or_right (is_same_literal (negation l) (negation m)) (is_false_under literals m)
                (all_among (is_false_under literals) all_after m suits.lower still)
            | inr is ↦ or_left (is_same_literal (negation l) (negation m)) (is_false_under literals m)
                (is_same_literal-of (negation l) (negation m) (ap negation (sym is)))
          ]);
      higher = λ e at. absurd (Prim.cc (at));
      others = λ m out out' _.
          open_apart literals (negation l) m (λ same. elim (same_atom l m same) [
            | inl is ↦ false≢true (sym out ∙ ap (is_among all_before) is ∙ among_before)
            | inr is ↦ false≢true (sym out' ∙ ap (is_among all_before) (ap negation is ∙ negation_twice l)
                ∙ among_before)
          ]) (suits.others m (false_from_ne_true (is_among all_after m) (λ among.
          false≢true (sym out ∙ after_before m among)))
          (false_from_ne_true (is_among all_after (negation m)) (λ among.
          false≢true (sym out' ∙ after_before (negation m) among))) refl);
    }
      where
        among_before : is_among all_before l ≡ true
        among_before = among_push before (negation left) l
            ∙ or_left (is_among before l) (is_same_literal (negation left) l || false) was

    ends_after : course literals (clause ∷ h.uip.explained.clauses) ≡ ends_false
    ends_after = forced_first literals clause h.uip.explained.clauses (negation l) forced
        ∙ h.uip.explained.ends (negation l ∷ literals) suits_before

  abbrev u : Explanation
  u = record s { hints = id ∷ s.hints }

  pub left_out : IsMinimising kept entries level left u now
  left_out = record {
    uip = record {
      here = h.uip.here;
      explained = record {
        clauses = clause ∷ h.uip.explained.clauses;
        named = hinted_more kept id s.hints clause h.uip.explained.clauses there h.uip.explained.named;
        ends = ends_after;
      };
      distinct = distinct_fewer stands now s.clause (negation left) weaker h.uip.distinct;
      named = all_from_among (is_named kept (id ∷ s.hints)) all_after (λ m among.
          or_right (is_among (literals_at kept id) m) (is_named kept s.hints m)
          (all_among (is_named kept s.hints) all_before m h.uip.named (after_before m among)));
      lower = (
        all_from_among (is_false_under (held entries)) after (λ m among.
            all_among (is_false_under (held entries)) before m h.uip.lower.0 (fewer m among)),
        all_from_among (λ m. ltb (level_in entries m) s.level) after (λ m among.
            all_among (λ x. ltb (level_in entries x) s.level) before m h.uip.lower.1 (fewer m among)),
      );
      is_true = h.uip.is_true;
      at = h.uip.at;
    };
    within = λ m is. h.within m (weaker m is);
  }

-- nothing is left out yet
pub minimising_start : (kept : Kept) (entries : List Assigned) (level : ℕ) (left : Lit) (s : Explanation)
    (stands : Lit → Bool) → IsFirstUip kept entries level s left → ((m : Lit) → stands m ≡ is_among s.clause m)
    → IsMinimising kept entries level left s stands
minimising_start kept entries level left s stands uip same = record {
  uip = rw (all_pass stands s.clause (λ m among. same m ∙ among)) uip;
  within = λ m is. sym (same m) ∙ is;
}

-- a literal less in a set
same_swap : (l m : Lit) → is_same_literal l m ≡ is_same_literal m l
same_swap l m =
    elim (cases_Bool (is_same_literal m l)) [
      | inl same ↦ is_same_literal-of l m (sym (is_same_literal-true m l same)) ∙ sym same
      | inr other ↦ false_from_ne_true (is_same_literal l m) (λ same.
          false≢true (sym other ∙ is_same_literal-of m l (sym (is_same_literal-true l m same)))) ∙ sym other
    ]

without : (b c : Bool) → cond b false c ≡ (c && not b)
without true true = refl
without true false = refl
without false true = refl
without false false = refl

pub removed_is : (l m : Lit) (b : Bool) → cond (are_equal l m) false b ≡ (b && not (is_same_literal m l))
removed_is l m b = without (are_equal l m) b ∙ ap (λ x. b && not x) (are_equal-same l m ∙ same_swap l m)

-- the same where the clause of the number is not at hand
pub implied_left_out : (kept : Kept) (entries : List Assigned) → IsConsistent (held entries) → (level : ℕ) (left : Lit)
    (s : Explanation) (stands now : Lit → Bool) → IsMinimising kept entries level left s stands → (l : Lit) (id : ℕ)
    → is_implied_by stands l (kept_at kept id) ≡ true
    → ((m : Lit) → now m ≡ (stands m && not (is_same_literal m l)))
    → IsMinimising kept entries level left (record s { hints = id ∷ s.hints }) now
implied_left_out kept entries consistent level left s stands now h l id implied removed =
    go (kept_at kept id) refl implied
  where
    go : (o : Option KeptClause) → kept_at kept id ≡ o → is_implied_by stands l o ≡ true
        → IsMinimising kept entries level left (record s { hints = id ∷ s.hints }) now
    go None is implied' = absurd (false≢true implied')
    go (Some clause) is implied' =
        left_out kept entries consistent level left s stands now h l id clause is implied' removed

-- one hint more
pub hints_more : (ids : List ClauseId) (id : ClauseId)
    → map (λ (i : ClauseId). i.0) (reverse (ids ++ id ∷ [])) ≡ id.0 ∷ map (λ (i : ClauseId). i.0) (reverse ids)
hints_more ids id = ap (map (λ (i : ClauseId). i.0)) (reverse-append ids (id ∷ []))

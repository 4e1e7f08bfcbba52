-- The lowest level on which a clause is false or leaves one literal.
use Rattle.sb_search.proofs.Words.{◌≡◌, ℕ, ◌&&◌, ◌||◌, ◌+◌, ◌<◌, ◌≤◌, Bool, true, false, eqb, leb, length, List, [], ◌∷◌, Option, Some, None, refl, sym, ◌∙◌, ap, subst, inl, inr, arith, unwrap_or, if◌then◌else◌, list_all, false≢true, cases_Bool, and_parts, and_from, or_cases, or_left, or_right, leb-true, le-leb, false_from_ne_true, all_weaker, Lit, negation, is_same_literal, is_among, is_true_under, is_false_under, is_false_clause, leaves_only, all_among, is_same_literal-true, ClauseId, Assigned, IsTrail, Assignments, AreDistinct, AreLevelled, held, current_level, up_to, up_to-up_to, false_from, IsSecond, IsLowest, IsHighest, cases_lt, eq-eqb, ne_eqb, is_open_under, value_under, is_same_literal-of, open-not_true, IsConsistent, entry_of, level_after, level_behind, cond_none, level_in, true_up_to_low, not_false_with, IsDue}
use Rattle.sb_search.proofs.Truths.{true_up_to}

-- the value of a literal
pub value_true : (literals : List Lit) (l : Lit) → unwrap_or (value_under literals l) false ≡ is_true_under literals l
value_true literals l = step (is_true_under literals l) (is_false_under literals l)
  where
    step : (t f : Bool) → unwrap_or (if t then Some true else if f then Some false else None) false ≡ t
    step true f = refl
    step false true = refl
    step false false = refl

-- the level from which on a literal is false, by a test of its negation
pub from_level : (es : List Assigned) (l m : Lit) (n : ℕ) (test : Bool) → m ≡ negation l
    → test ≡ is_true_under (held es) m → test ≡ true → n ≡ level_in es l → n ≡ false_from es l
from_level es l m n test is_negation tested holds is =
    let is_false : is_false_under (held es) l ≡ true =
    ap (is_true_under (held es)) (sym is_negation) ∙ sym tested ∙ holds in
    let same : false_from es l ≡ level_in es l = rw is_false refl in
    is ∙ sym same

pub from_end : (es : List Assigned) (l m : Lit) (n : ℕ) (test : Bool) → m ≡ negation l
    → test ≡ is_true_under (held es) m → test ≡ false → n ≡ length es → n ≡ false_from es l
from_end es l m n test is_negation tested fails is =
    let stays : is_false_under (held es) l ≡ false =
    ap (is_true_under (held es)) (sym is_negation) ∙ sym tested ∙ fails in
    let same : false_from es l ≡ length es = rw stays refl in
    is ∙ sym same

-- there are no more levels than entries
one_level : (n : ℕ) (reason : Option ClauseId) → level_behind n reason ≤ n + 1
one_level n None = omega arith
one_level n (Some id) = omega arith

few_levels : (n : ℕ) (es : List Assigned) → AreLevelled n es → level_after n es ≤ n + length es
few_levels n [] h = omega arith
few_levels n (e ∷ es) h = omega (arith, one_level n e.reason, h.0, few_levels e.level es h.1)

-- no literal is true of an atom that has no entry
none_true : (es : List Assigned) (a : ℕ) (l : Lit) → entry_of es a ≡ None → is_true_under (held es) l ≡ true
    → l.atom ≡ a → ⊥
none_true [] a l none is_true same = false≢true is_true
none_true (x ∷ xs) a l none is_true same =
    let parts = cond_none (eqb x.literal.atom a) x (entry_of xs a) none in
    elim (or_cases (is_same_literal x.literal l) (is_among (held xs) l) is_true) [
      | inl here ↦
          false≢true (sym parts.0
          ∙ eq-eqb x.literal.atom a (ap (λ (m : Lit). m.atom) (is_same_literal-true x.literal l here) ∙ same))
      | inr later ↦ none_true xs a l parts.1 later same
    ]

-- a literal that is true and of a level up to this one is true there
true_low : (n : ℕ) (es : List Assigned) (l : Lit) → AreDistinct es → is_true_under (held es) l ≡ true
    → level_in es l ≤ n → is_true_under (held (up_to n es)) l ≡ true
true_low n [] l distinct is_true low = absurd (false≢true is_true)
true_low n (x ∷ xs) l distinct is_true low =
    elim (or_cases (is_same_literal x.literal l) (is_among (held xs) l) is_true) [
      | inl here ↦
          let same : x.literal.atom ≡ l.atom = ap (λ (m : Lit). m.atom) (is_same_literal-true x.literal l here) in
          let level : level_in (x ∷ xs) l ≡ x.level = rw (eq-eqb x.literal.atom l.atom same) refl in
          rw (le-leb x.level n (omega (arith, low, level)))
          (or_left (is_same_literal x.literal l) (is_among (held (up_to n xs)) l) here)
      | inr later ↦
          let other = ne_eqb x.literal.atom l.atom (λ same. none_true xs x.literal.atom l distinct.0 later (sym same)) in
          let level : level_in (x ∷ xs) l ≡ level_in xs l = rw other refl in
          let rest = true_low n xs l distinct.1 later (omega (arith, low, level)) in
          elim (cases_Bool (leb x.level n)) [
            | inl stays ↦ rw stays (or_right (is_same_literal x.literal l) (is_among (held (up_to n xs)) l) rest)
            | inr gone ↦ rw gone rest
          ]
    ]

-- and no other one is
pub true_there : (n : ℕ) (es : List Assigned) (l : Lit) → AreDistinct es
    → (is_true_under (held es) l && leb (level_in es l) n) ≡ is_true_under (held (up_to n es)) l
true_there n es l distinct =
    elim (cases_Bool (is_true_under (held (up_to n es)) l)) [
      | inl on ↦ and_from (is_true_under (held es) l) (leb (level_in es l) n) (true_up_to n es l on)
          (le-leb (level_in es l) n (true_up_to_low n es l l distinct on refl)) ∙ sym on
      | inr off ↦ false_from_ne_true (is_true_under (held es) l && leb (level_in es l) n) (λ both.
          let parts = and_parts (is_true_under (held es) l) (leb (level_in es l) n) both in
          false≢true (sym off ∙ true_low n es l distinct parts.0 (leb-true (level_in es l) n parts.1))) ∙ sym off
    ]

-- what is true up to a level is true up to a higher one
true_higher : (low high : ℕ) (es : List Assigned) (l : Lit) → low ≤ high
    → is_true_under (held (up_to low es)) l ≡ true → is_true_under (held (up_to high es)) l ≡ true
true_higher low high es l le h =
    true_up_to low (up_to high es) l
    (subst (λ (xs : List Assigned). is_true_under (held xs) l ≡ true) (sym (up_to-up_to low high es le)) h)

-- below the level from which on it is false a literal is not,
not_false_low : (n : ℕ) (es : List Assigned) (a : Lit) → AreDistinct es → n < false_from es a
    → is_false_under (held (up_to n es)) a ≡ false
not_false_low n es a distinct above =
    false_from_ne_true (is_false_under (held (up_to n es)) a) (λ is_false.
    let same : false_from es a ≡ level_in es a = rw (true_up_to n es (negation a) is_false) refl in
    absurd (omega (arith, true_up_to_low n es (negation a) a distinct is_false refl, above, same)))

-- nor where it is true,
not_false_true : (n : ℕ) (es : List Assigned) (a : Lit) → IsConsistent (held es)
    → is_true_under (held (up_to n es)) a ≡ true → is_false_under (held (up_to n es)) a ≡ false
not_false_true n es a consistent h =
    false_from_ne_true (is_false_under (held (up_to n es)) a) (λ is_false.
    false≢true (sym (consistent a (true_up_to n es a h)) ∙ true_up_to n es (negation a) is_false))

-- and from that level on it is
false_high : (level : ℕ) (es : List Assigned) (l : Lit) → AreDistinct es → AreLevelled 0 es
    → level < current_level es → false_from es l ≤ level → is_false_under (held (up_to level es)) l ≡ true
false_high level es l distinct levelled below le =
    elim (cases_Bool (is_false_under (held es) l)) [
      | inl is_false ↦
          let same : false_from es l ≡ level_in es l = rw is_false refl in
          let low : level_in es l ≤ level = omega (arith, same, le) in
          true_low level es (negation l) distinct is_false low
      | inr stays ↦
          let same : false_from es l ≡ length es = rw stays refl in
          absurd (omega (arith, same, le, below, few_levels 0 es levelled))
    ]

-- a literal that is not false is the one that a clause leaves, so a clause with two of them leaves none
left_is : (literals clause : List Lit) (a l : Lit) → is_among clause a ≡ true → is_false_under literals a ≡ false
    → leaves_only literals clause l ≡ true → a ≡ l
left_is literals clause a l among stays leaves =
    let others = (and_parts (is_among clause l && is_open_under literals l)
    (list_all (λ m. is_same_literal m l || is_false_under literals m) clause) leaves).1 in
    let at : (is_same_literal a l || is_false_under literals a) ≡ true =
    all_among (λ m. is_same_literal m l || is_false_under literals m) clause a others among in
    elim (cases_Bool (is_same_literal a l)) [
      | inl same ↦ is_same_literal-true a l same
      | inr other ↦ absurd (false≢true (sym (rw (other, stays) refl) ∙ at))
    ]

not_due_two : (literals clause : List Lit) (a b : Lit) → is_among clause a ≡ true → is_among clause b ≡ true
    → is_same_literal a b ≡ false → is_false_under literals a ≡ false → is_false_under literals b ≡ false
    → IsDue literals clause → ⊥
not_due_two literals clause a b here there differ a_stays b_stays due =
    elim due [
      | inl is_false ↦ false≢true (sym (not_false_with literals clause a here a_stays) ∙ is_false)
      | inr leaves ↦
          false≢true (sym differ
          ∙ is_same_literal-of a b
          (left_is literals clause a leaves.0 here a_stays leaves.1
          ∙ sym (left_is literals clause b leaves.0 there b_stays leaves.1)))
    ]

-- nor does one with a literal that is true
not_due_true : (literals clause : List Lit) (a : Lit) → is_among clause a ≡ true → is_true_under literals a ≡ true
    → is_false_under literals a ≡ false → IsDue literals clause → ⊥
not_due_true literals clause a among holds stays due =
    elim due [
      | inl is_false ↦ false≢true (sym (not_false_with literals clause a among stays) ∙ is_false)
      | inr leaves ↦
          let first = (and_parts (is_among clause leaves.0 && is_open_under literals leaves.0)
          (list_all (λ m. is_same_literal m leaves.0 || is_false_under literals m) clause) leaves.1).0 in
          let has_none = (and_parts (is_among clause leaves.0) (is_open_under literals leaves.0) first).1 in
          false≢true (sym (open-not_true literals leaves.0 has_none)
          ∙ subst (λ (m : Lit). is_true_under literals m ≡ true)
          (left_is literals clause a leaves.0 among stays leaves.1) holds)
    ]

-- below the level from which on all literals but one are false
not_due_below : (es : List Assigned) (clause : List Lit) (last : Lit) (level n : ℕ) → AreDistinct es
    → IsSecond es clause last level → n < level → IsDue (held (up_to n es)) clause → ⊥
not_due_below es clause last level n distinct second low =
    let two = second.second (omega (arith, low)) in
    not_due_two (held (up_to n es)) clause two.0 last two.1 second.there two.2
    (not_false_low n es two.0 distinct (omega (arith, low, two.3)))
    (not_false_low n es last distinct (omega (arith, low, two.4)))

-- where that one is true on that level,
pub lowest_true : (trail : Assignments) (clause : List Lit) (last : Lit) (level : ℕ) → IsTrail trail
    → IsConsistent (held trail.literals) → IsSecond trail.literals clause last level
    → is_true_under (held (up_to level trail.literals)) last ≡ true
    → IsLowest trail.literals clause (current_level trail.literals)
lowest_true trail clause last level is_trail consistent second holds = record {
  none_below = λ n low. elim (cases_lt n level) [
    | inl under ↦ not_due_below trail.literals clause last level n is_trail.distinct second under
    | inr over ↦
        let there = true_higher level n trail.literals last over holds in
        not_due_true (held (up_to n trail.literals)) clause last second.there there
        (not_false_true n trail.literals last consistent there)
  ];
  due = λ low. absurd (omega (arith, low));
}

others_false : (trail : Assignments) (clause : List Lit) (last : Lit) (level : ℕ) → IsTrail trail
    → IsSecond trail.literals clause last level → level < current_level trail.literals
    → list_all (λ l. is_same_literal l last || is_false_under (held (up_to level trail.literals)) l) clause ≡ true
others_false trail clause last level is_trail second below =
    all_weaker (λ l. is_same_literal l last || leb (false_from trail.literals l) level)
    (λ l. is_same_literal l last || is_false_under (held (up_to level trail.literals)) l) one clause second.others
  where
    one : (l : Lit) → (is_same_literal l last || leb (false_from trail.literals l) level) ≡ true
        → (is_same_literal l last || is_false_under (held (up_to level trail.literals)) l) ≡ true
    one l h =
        elim (or_cases (is_same_literal l last) (leb (false_from trail.literals l) level) h) [
          | inl is ↦ or_left (is_same_literal l last) (is_false_under (held (up_to level trail.literals)) l) is
          | inr low ↦
              or_right (is_same_literal l last) (is_false_under (held (up_to level trail.literals)) l)
              (false_high level trail.literals l is_trail.distinct is_trail.levelled below
              (leb-true (false_from trail.literals l) level low))
        ]

all_false : (literals clause : List Lit) (last : Lit) → is_false_under literals last ≡ true
    → list_all (λ l. is_same_literal l last || is_false_under literals l) clause ≡ true
    → is_false_clause literals clause ≡ true
all_false literals clause last is_false others =
    all_weaker (λ l. is_same_literal l last || is_false_under literals l) (is_false_under literals)
    (λ l h. elim (or_cases (is_same_literal l last) (is_false_under literals l) h) [
      | inl same ↦ ap (is_false_under literals) (is_same_literal-true l last same) ∙ is_false
      | inr other ↦ other
    ]) clause others

-- and where it is not
pub lowest_open : (trail : Assignments) (clause : List Lit) (last : Lit) (level : ℕ) → IsTrail trail
    → IsSecond trail.literals clause last level → is_true_under (held (up_to level trail.literals)) last ≡ false
    → IsLowest trail.literals clause level
lowest_open trail clause last level is_trail second not_true = record {
  none_below = λ n low. not_due_below trail.literals clause last level n is_trail.distinct second low;
  due = λ below.
      let literals = held (up_to level trail.literals) in
      let others = others_false trail clause last level is_trail second below in
      elim (cases_Bool (is_false_under literals last)) [
        | inl is_false ↦ inl (all_false literals clause last is_false others)
        | inr stays ↦ inr (
          last,
          and_from (is_among clause last && is_open_under literals last)
              (list_all (λ m. is_same_literal m last || is_false_under literals m) clause)
              (and_from (is_among clause last) (is_open_under literals last) second.there
              (rw (not_true, stays) refl)) others,
        )
      ];
}

-- a clause of no literals
pub lowest_none : (es : List Assigned) (clause : List Lit) → IsHighest es clause None None → IsLowest es clause 0
lowest_none es [] h = record { none_below = λ n low. absurd (omega (arith, low)); due = λ low. inl refl }
lowest_none es (l ∷ ls) h = absurd (false≢true h)

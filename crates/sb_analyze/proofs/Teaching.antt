-- A false clause has two literals of the current level, where propagation came to its end on the levels below.
use Rattle.std.proofs.Common.{◌≡◌, ℕ, ◌-◌, ◌<◌, ◌≤◌, ◌&&◌, ◌||◌, Bool, true, false, not, eqb, List, [], ◌∷◌, refl, sym, ◌∙◌, ap, inl, inr, arith}
use Rattle.std.specs.List.{list_all, list_any}
use Rattle.std.proofs.lemmas.Bool.{false≢true, cases_Bool, and_parts, and_from, or_left, or_right, or_cases, eqb-true, false_from_ne_true, not-true, eq-eqb}
use Rattle.sb_lit.specs.declared.clause.Lit.{Lit}
use Rattle.sb_lit.specs.Clauses.{negation, is_same_literal, is_among, is_true_under, is_false_under, is_open_under}
use Rattle.sb_lit.specs.Kept.{Kept}
use Rattle.sb_trail.specs.declared.assigned.Assigned.{Assigned}
use Rattle.sb_trail.specs.Assignments.{Assignments, IsTrail, held, current_level, up_to, AreDistinct}
use Rattle.sb_clauses.specs.Propagation.{IsSettled, IsConflict}
use Rattle.sb_analyze.specs.Reasons.{level_in, highest}
use Rattle.sb_analyze.specs.Learning.{HasTwoOf, IsSettledBelow}
use Rattle.sb_lit.proofs.CallerLemmas.{is_same_literal-true, is_same_literal-self, is_same_literal-of, all_among, all_from_among}
use Rattle.sb_analyze.proofs.Entries.{entry_of_true, level_in_stands, level_below}
use Rattle.sb_analyze.proofs.Lessons.{true_up_to_low, low_true_up_to}
use Rattle.sb_analyze.proofs.Starts.{highest_above}

record IsFound (p : Lit → Bool) (ls : List Lit) : Type 0 where
  literal : Lit
  among : is_among ls literal ≡ true
  passes : p literal ≡ true

found_from : (p : Lit → Bool) (ls : List Lit) → list_any p ls ≡ true → IsFound p ls
found_from p [] h = absurd (false≢true h)
found_from p (l ∷ ls) h =
    elim (cases_Bool (p l)) [
      | inl here ↦ record {
        literal = l;
        among = or_left (is_same_literal l l) (is_among ls l) (is_same_literal-self l);
        passes = here;
      }
      | inr later ↦
          let rest = found_from p ls (rw later at h) in
          record {
            literal = rest.literal;
            among = or_right (is_same_literal l rest.literal) (is_among ls rest.literal) rest.among;
            passes = rest.passes;
          }
    ]

any_among : (p : Lit → Bool) (ls : List Lit) (l : Lit) → p l ≡ true → is_among ls l ≡ true → list_any p ls ≡ true
any_among p [] l h among = absurd (false≢true among)
any_among p (m ∷ ms) l h among =
    elim (or_cases (is_same_literal m l) (is_among ms l) among) [
      | inl here ↦ or_left (p m) (list_any p ms) (ap p (is_same_literal-true m l here) ∙ h)
      | inr later ↦ or_right (p m) (list_any p ms) (any_among p ms l h later)
    ]

none_among : (p : Lit → Bool) (ls : List Lit) (l : Lit) → list_any p ls ≡ false → is_among ls l ≡ true
    → p l ≡ false
none_among p ls l none among =
    false_from_ne_true (p l) (λ h. false≢true (sym none ∙ any_among p ls l h among))

-- the levels of false literals
level_at_most : (trail : Assignments) → IsTrail trail → (l : Lit) → is_false_under (held trail.literals) l ≡ true
    → level_in trail.literals l ≤ current_level trail.literals
level_at_most trail is_trail l is_false =
    let f = entry_of_true trail.literals (negation l) is_trail.distinct is_false in
    omega (
      arith,
      level_below 0 trail.literals f.entry is_trail.levelled f.stands,
      level_in_stands trail.literals f.entry l f.stands (sym (ap (λ (x : Lit). x.atom) f.literal)),
    )

not_top : (es : List Assigned) (l : Lit) (top : ℕ) → eqb (level_in es l) top ≡ false → level_in es l ≤ top
    → level_in es l ≤ top - 1
not_top es l top other low =
    omega (arith, low, λ (same : level_in es l ≡ top). false≢true (sym other ∙ eq-eqb (level_in es l) top same))

highest_at_most : (es : List Assigned) (ls : List Lit) (n : ℕ)
    → ((l : Lit) → is_among ls l ≡ true → level_in es l ≤ n) → highest es ls ≤ n
highest_at_most es [] n h = omega arith
highest_at_most es (l ∷ ls) n h =
    omega (
      arith,
      h l (or_left (is_same_literal l l) (is_among ls l) (is_same_literal-self l)),
      highest_at_most es ls n (λ m among. h m (or_right (is_same_literal l m) (is_among ls m) among)),
    )

stays_open : (es : List Assigned) (n : ℕ) (l : Lit) → AreDistinct es → n < level_in es l
    → is_open_under (held (up_to n es)) l ≡ true
stays_open es n l distinct above =
    let not_true : is_true_under (held (up_to n es)) l ≡ false =
    false_from_ne_true (is_true_under (held (up_to n es)) l) (λ t.
    absurd (omega (arith, true_up_to_low n es l l distinct t refl, above))) in
    let not_false : is_false_under (held (up_to n es)) l ≡ false =
    false_from_ne_true (is_false_under (held (up_to n es)) l) (λ t.
    absurd (omega (arith, true_up_to_low n es (negation l) l distinct t refl, above))) in
    rw (not_true, not_false) refl

module _ (kept : Kept) (trail : Assignments) (is_trail : IsTrail trail)
    (below : IsSettledBelow kept trail.literals) (some : 0 < current_level trail.literals) (id : ℕ)
    (conflict : IsConflict kept (held trail.literals) id) where
  abbrev es : List Assigned
  es = trail.literals

  abbrev ls : List Lit
  ls = conflict.clause.literals

  abbrev top : ℕ
  top = current_level trail.literals

  abbrev is_top : Lit → Bool
  is_top l = eqb (level_in es l) top

  settled : IsSettled kept (held (up_to (top - 1) es))
  settled = below (top - 1) (omega (arith, some))

  falls : (l : Lit) → is_among ls l ≡ true → is_top l ≡ false → is_false_under (held (up_to (top - 1) es)) l ≡ true
  falls l among other =
      let is_false : is_false_under (held es) l ≡ true =
      all_among (is_false_under (held es)) ls l conflict.is_false among in
      low_true_up_to (top - 1) es (negation l) is_trail.distinct is_false
      (not_top es l top other (level_at_most trail is_trail l is_false))

  two_with : (one : IsFound is_top ls) → HasTwoOf es ls top
  two_with one =
      elim (cases_Bool (list_any (λ m. is_top m && not (is_same_literal one.literal m)) ls)) [
        | inl some ↦
            let other = found_from (λ m. is_top m && not (is_same_literal one.literal m)) ls some in
            let parts = and_parts (is_top other.literal) (not (is_same_literal one.literal other.literal))
            other.passes in
            record {
              one = one.literal;
              other = other.literal;
              one_there = one.among;
              other_there = other.among;
              differ = not-true (is_same_literal one.literal other.literal) parts.1;
              one_level = eqb-true (level_in es one.literal) top one.passes;
              other_level = eqb-true (level_in es other.literal) top parts.0;
            }
        | inr none ↦
            let stays : is_open_under (held (up_to (top - 1) es)) one.literal ≡ true =
            stays_open es (top - 1) one.literal is_trail.distinct
            (omega (arith, some, eqb-true (level_in es one.literal) top one.passes)) in
            let others : list_all (λ m. is_same_literal m one.literal
            || is_false_under (held (up_to (top - 1) es)) m) ls ≡ true =
            all_from_among (λ m. is_same_literal m one.literal || is_false_under (held (up_to (top - 1) es)) m) ls
            (λ m among. elim (cases_Bool (is_same_literal one.literal m)) [
              | inl same ↦ or_left (is_same_literal m one.literal) (is_false_under (held (up_to (top - 1) es)) m)
                  (is_same_literal-of m one.literal (sym (is_same_literal-true one.literal m same)))
              | inr differs ↦ or_right (is_same_literal m one.literal)
                  (is_false_under (held (up_to (top - 1) es)) m)
                  (falls m among (false_from_ne_true (is_top m) (λ at. false≢true
                  (sym (none_among (λ x. is_top x && not (is_same_literal one.literal x)) ls m none among)
                  ∙ rw (at, differs) refl))))
            ]) in
            absurd (false≢true
            (sym (settled.none_forces id conflict.clause conflict.there one.literal)
            ∙ and_from (is_among ls one.literal && is_open_under (held (up_to (top - 1) es)) one.literal)
            (list_all (λ m. is_same_literal m one.literal || is_false_under (held (up_to (top - 1) es)) m) ls)
            (and_from (is_among ls one.literal) (is_open_under (held (up_to (top - 1) es)) one.literal)
            one.among stays) others))
      ]

  pub has_two_of : HasTwoOf es ls top
  has_two_of =
      elim (cases_Bool (list_any is_top ls)) [
        | inl some ↦ two_with (found_from is_top ls some)
        | inr none ↦ absurd (false≢true
            (sym (settled.none_false id conflict.clause conflict.there)
            ∙ all_from_among (is_false_under (held (up_to (top - 1) es))) ls (λ l among.
            falls l among (none_among is_top ls l none among))))
      ]

  pub is_highest : highest es ls ≡ top
  is_highest =
      let two = has_two_of in
      omega (
        arith,
        highest_at_most es ls top (λ l among.
            level_at_most trail is_trail l (all_among (is_false_under (held es)) ls l conflict.is_false among)),
        highest_above es ls two.one two.one_there,
        two.one_level,
      )

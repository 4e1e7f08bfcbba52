-- An analysis where it begins.
use Rattle.std.proofs.Common.{◌≡◌, ℕ, ◌<◌, ◌≤◌, true, false, leb, List, [], ◌∷◌, Some, refl, sym, ◌∙◌, ap, subst, inl, inr, arith}
use Rattle.std.specs.List.{count_by}
use Rattle.std.specs.Option.{option_map}
use Rattle.std.proofs.lemmas.Option.{same_Some}
use Rattle.std.proofs.lemmas.Bool.{false≢true, and_parts, and_right, or_left, or_right, or_cases, cases_eq, cases_lt, le-leb}
use Rattle.std.proofs.lemmas.List.Sums.{sum_by-cons}
use Rattle.sb_lit.specs.declared.clause.Lit.{Lit}
use Rattle.sb_lit.specs.Clauses.{negation, is_same_literal, is_among, is_false_under}
use Rattle.sb_lit.specs.Kept.{Kept, KeptClause, kept_at}
use Rattle.sb_trail.specs.declared.assigned.Assigned.{Assigned}
use Rattle.sb_trail.specs.Assignments.{Assignments, IsTrail, held, AreDistinct}
use Rattle.sb_analyze.specs.Reasons.{level_in, highest}
use Rattle.sb_analyze.specs.Learning.{IsTeaching}
use Rattle.sb_analyze.specs.Explaining.{Explanation, begun, is_met, also_met, is_pending, with_literal, with_literals, with_clause}
use Rattle.sb_analyze.specs.Explained.{Stands, IsMarked, IsWalked}
use Rattle.sb_lit.proofs.CallerLemmas.{is_same_literal-true, is_same_literal-of, negation_moved, all_among, all_from_among}
use Rattle.sb_analyze.proofs.Entries.{entry_of_true, level_in_stands, count_agree, count_none}
use Rattle.sb_analyze.proofs.Marks.{AreBefore, by_cases, met_other, meet_all_marked, meet_all_extends, meet_all_lower, all_met}
use Rattle.sb_analyze.proofs.Chains.{explained_start, covered_literal}
use Rattle.sb_analyze.proofs.Named.{literals_of, named_none, named_clause}

-- no literal is of a higher level than the highest
pub highest_above : (entries : List Assigned) (ls : List Lit) (l : Lit) → is_among ls l ≡ true
    → level_in entries l ≤ highest entries ls
highest_above entries [] l among = absurd (false≢true among)
highest_above entries (m ∷ ms) l among =
    elim (or_cases (is_same_literal m l) (is_among ms l) among) [
      | inl here ↦ omega (arith, ap (level_in entries) (is_same_literal-true m l here))
      | inr later ↦ omega (arith, highest_above entries ms l later)
    ]

-- what holds of the atoms that were met before, and of those of the literals, holds of all that were met
pub met_from : (P : ℕ → Type 0) (entries : List Assigned) (ls : List Lit) (s : Explanation)
    → ((l : Lit) → is_among ls l ≡ true → P l.atom) → ((a : ℕ) → is_met s.marks a ≡ true → P a) → (a : ℕ)
    → is_met (with_literals entries s ls).marks a ≡ true → P a
met_from P entries [] s here before a met = before a met
met_from P entries (l ∷ ls) s here before a met =
    met_from P entries ls (with_literal entries s l)
    (λ m among. here m (or_right (is_same_literal l m) (is_among ls m) among)) after a met
  where
    head : P l.atom
    head = here l (or_left (is_same_literal l l) (is_among ls l) (is_same_literal-of l l refl))

    written : (b : ℕ) → is_met (also_met s.marks l.atom) b ≡ true → P b
    written b met' =
        elim (cases_eq b l.atom) [
          | inl same ↦ subst P (sym same) head
          | inr other ↦ before b (sym (met_other s.marks l.atom b other) ∙ met')
        ]

    after : (b : ℕ) → is_met (with_literal entries s l).marks b ≡ true → P b
    after = by_cases (λ t. (b : ℕ) → is_met t.marks b ≡ true → P b) entries s l (λ _. before) (λ _ _ _. written)
        (λ _ _ _. written)

-- the literals that are false on the trail stand on it
pub before_whole : (entries : List Assigned) → AreDistinct entries → (ls : List Lit) → AreBefore entries entries ls
before_whole entries distinct ls m among is_false =
    let found = entry_of_true entries (negation m) distinct is_false in
    record {
      entry = found.entry;
      stands = found.stands;
      literal = sym (negation_moved found.entry.literal m found.literal);
      level = level_in_stands entries found.entry m found.stands (sym (ap (λ (l : Lit). l.atom) found.literal));
    }

count_zero : (es : List Assigned) → count_by (λ (e : Assigned). false) es ≡ 0
count_zero [] = refl
count_zero (e ∷ es) = omega (arith, sum_by-cons (λ (x : Assigned). 0) e es, count_zero es)

-- nothing is met yet, and there are hints
abbrev pub start : ℕ → List ℕ → Explanation
start level ids = record (begun level) { hints = ids }

module _ (level : ℕ) (ids : List ℕ) where
  pub marked_start : (front : List Assigned) → AreDistinct front → IsMarked front (start level ids)
  marked_start front distinct = record {
    lower = λ e there. refl;
    upright = λ e there. refl;
    counted =
        let count = count_agree (λ e. false) (is_pending level (start level ids).marks) front distinct
        (λ e there. sym (and_right (leb level e.level) false refl)) in
        omega (arith, count, count_zero front);
    distinct = λ l. omega arith;
  }

module _ (kept : Kept) (trail : Assignments) (is_trail : IsTrail trail) (id : ℕ) (clause : KeptClause)
    (teaching : IsTeaching kept trail.literals id clause) where
  abbrev level : ℕ
  level = highest trail.literals clause.literals

  abbrev s : Explanation
  s = start level (id ∷ [])

  abbrev t : Explanation
  t = with_literals trail.literals s clause.literals

  before : AreBefore trail.literals trail.literals clause.literals
  before = before_whole trail.literals is_trail.distinct clause.literals

  is_false : (l : Lit) → is_among clause.literals l ≡ true → is_false_under (held trail.literals) l ≡ true
  is_false l among = all_among (is_false_under (held trail.literals)) clause.literals l teaching.is_false among

  marked : IsMarked trail.literals t
  marked = meet_all_marked trail.literals trail.literals is_trail.distinct clause.literals s
      (marked_start level (id ∷ []) trail.literals is_trail.distinct) before

  level_t : t.level ≡ level
  level_t = (meet_all_extends trail.literals trail.literals clause.literals s before).level

  -- no literal that was met is of a higher level
  flat : (a : ℕ) → is_met t.marks a ≡ true → (e : Assigned) → Stands trail.literals e → e.literal.atom ≡ a
      → e.level ≤ level
  flat = met_from (λ a. (e : Assigned) → Stands trail.literals e → e.literal.atom ≡ a → e.level ≤ level) trail.literals
      clause.literals s
      (λ l among e there same.
      omega (
        arith,
        highest_above trail.literals clause.literals l among,
        level_in_stands trail.literals e l there (sym same),
      ))
      (λ a met e there same. absurd (false≢true met))

  more : 0 < t.pending
  more =
      let one = teaching.two.one in
      let wrong = is_false one teaching.two.one_there in
      let f = before one teaching.two.one_there wrong in
      let atom : one.atom ≡ f.entry.literal.atom = ap (λ (l : Lit). l.atom) f.literal in
      let met : is_met t.marks f.entry.literal.atom ≡ true = ap (is_met t.marks) (sym atom)
      ∙ all_met trail.literals trail.literals clause.literals s before one teaching.two.one_there wrong in
      let high : leb t.level f.entry.level ≡ true =
      le-leb t.level f.entry.level (omega (arith, level_t, f.level, teaching.two.one_level)) in
      elim (cases_lt 0 t.pending) [
        | inl some ↦ some
        | inr none ↦ absurd (false≢true
            (sym (count_none (is_pending t.level t.marks) trail.literals f.entry (omega (arith, marked.counted, none))
            f.stands) ∙ rw (high, met) refl))
      ]

  pub walked_start : (u : Explanation) → u ≡ with_clause kept trail.literals (begun level) id
      → IsWalked kept trail.literals level trail.literals u
  walked_start u is =
      let same : u ≡ t = is ∙ ap (with_literals trail.literals s) (literals_of kept id clause teaching.there) in
      subst (λ (x : Explanation). IsWalked kept trail.literals level trail.literals x) (sym same) (record {
        here = level_t;
        base = record {
          marked = marked;
          explained = explained_start kept trail.literals trail.literals t id clause teaching.there
              (meet_all_extends trail.literals trail.literals clause.literals s before).hints (λ literals suits.
              all_from_among (is_false_under literals) clause.literals
              (λ m among. covered_literal trail.literals trail.literals s clause.literals before marked literals
              suits m among (is_false m among)));
        };
        lower = meet_all_lower trail.literals trail.literals clause.literals s (refl, refl);
        named = named_clause kept trail.literals is_trail.distinct (begun level) id clause.literals
            (literals_of kept id clause teaching.there) (named_none kept trail.literals []) t refl;
        flat = λ e there pending.
            omega (
              arith,
              level_t,
              flat e.literal.atom ((and_parts (leb t.level e.level) (is_met t.marks e.literal.atom) pending).1) e there
                  refl,
            );
        more = more;
      })

-- the kept clause of a number is one
pub same_clause : (kept : Kept) (id : ℕ) (k l : KeptClause) → kept_at kept id ≡ Some k → kept_at kept id ≡ Some l
    → k ≡ l
same_clause kept id k l hk hl = same_Some k l (sym hk ∙ hl)

-- the walk begins with a clause that teaches
pub walked_begin : (kept : Kept) (trail : Assignments) → IsTrail trail → (id : ℕ) (clause : KeptClause)
    → IsTeaching kept trail.literals id clause → (ls : List Lit) (n : ℕ) (a u : Explanation)
    → Some ls ≡ option_map (λ (k : KeptClause). k.literals) (kept_at kept id) → n ≡ highest trail.literals ls
    → a ≡ begun n → u ≡ with_clause kept trail.literals a id
    → IsWalked kept trail.literals (highest trail.literals clause.literals) trail.literals u
walked_begin kept trail is_trail id clause teaching ls n a u found level_is a_is u_is =
    let same : ls ≡ clause.literals =
    same_Some ls clause.literals (found ∙ ap (option_map (λ (k : KeptClause). k.literals)) teaching.there) in
    let begun_is : a ≡ begun (highest trail.literals clause.literals) =
    a_is ∙ ap begun (level_is ∙ ap (highest trail.literals) same) in
    walked_start kept trail is_trail id clause teaching u
    (u_is ∙ ap (λ (x : Explanation). with_clause kept trail.literals x id) begun_is)

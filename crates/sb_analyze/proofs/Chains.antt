-- The hints end in a false clause, from the conflict back to the literals that are left.
use Rattle.std.proofs.Common.{◌≡◌, ℕ, ◌+◌, ◌-◌, ◌<◌, ◌≤◌, true, false, ◌&&◌, ◌⊎◌, ltb, leb, List, [], ◌∷◌, ◌++◌, Option, Some, None, refl, sym, ◌∙◌, ap, inl, inr, arith}
use Rattle.std.specs.List.{list_all, count_by}
use Rattle.std.specs.Option.{option_map}
use Rattle.std.proofs.lemmas.Bool.{false≢true, and_parts, and_from, and_left, or_left, or_right, or_cases, cases_lt, lt-ltb, le-ltb, le-leb, lt-leb, leb-true, and_right}
use Rattle.std.proofs.lemmas.List.Folds.{list_all-append}
use Rattle.std.proofs.lemmas.List.Sums.{sum_by_push}
use Rattle.sb_lit.specs.declared.clause.Lit.{Lit}
use Rattle.sb_lit.specs.Clauses.{negation, is_same_literal, is_among, is_true_under, is_false_under, is_open_under, is_false_clause, leaves_only}
use Rattle.sb_lit.specs.Kept.{Kept, KeptClause, kept_at}
use Rattle.sb_lit.specs.Hints.{hinted, course, ends_false, has_idle_hint, falsified, forces, idle, finding, Finding, Course}
use Rattle.sb_trail.specs.declared.assigned.Assigned.{Assigned}
use Rattle.sb_trail.specs.Assignments.{entry_of, held, AreDistinct}
use Rattle.sb_analyze.specs.Explaining.{Explanation, is_met, is_pending, with_literals}
use Rattle.sb_analyze.specs.Explained.{Stands, Suits, IsExplained, IsMarked, IsExplaining, AreDistinctLiterals, IsWalked, IsFirstUip}
use Rattle.sb_lit.proofs.CallerLemmas.{is_same_literal-true, is_same_literal-of, is_same_literal-apart, is_same_literal-negation, negation_twice, negation_moved, all_among, all_from_among, among_push_other}
use Rattle.sb_analyze.proofs.Literals.{AreDistinctLiterals-push}
use Rattle.sb_analyze.proofs.Findings.{finding_false, finding_forces, is_or_false}
use Rattle.sb_trail.proofs.CallerLemmas.{entry_of-push_none, AreDistinct-pop}
use Rattle.sb_analyze.proofs.Entries.{stands_true, stands_once, entry_of_true, stands_push, stands_last, stands_cases, level_in_stands, count_none, one_if}
use Rattle.sb_analyze.proofs.Named.{literals_of, all_named, named_clause}
use Rattle.sb_analyze.proofs.Marks.{IsFalseBefore, AreBefore, Extends, meet_all_marked, meet_all_extends, meet_all_lower, all_met}

-- a literal that is false before and was met is false under literals that suit
pub covered : (front : List Assigned) (s : Explanation) (literals : List Lit) → IsMarked front s
    → Suits front s literals → (e : Assigned) → Stands front e → is_met s.marks e.literal.atom ≡ true → (m : Lit)
    → m ≡ negation e.literal → is_false_under literals m ≡ true
covered front s literals marked suits e there met m is =
    elim (cases_lt e.level s.level) [
      | inl below ↦
          let among : is_among s.clause (negation e.literal) ≡ true =
          marked.lower e there ∙ rw (met, lt-ltb e.level s.level below) refl in
          ap (is_false_under literals) is
          ∙ all_among (is_false_under literals) s.clause (negation e.literal) suits.lower among
      | inr above ↦
          let pending : is_pending s.level s.marks e ≡ true = rw (le-leb s.level e.level above, met) refl in
          ap (is_among literals) (negation_moved m e.literal is) ∙ suits.higher e there pending
    ]

false_last : (literals : List Lit) (clause : KeptClause) → finding literals clause.literals ≡ falsified
    → course literals (clause ∷ []) ≡ ends_false
false_last literals clause h =
    ap (λ (f : Finding). elim f as (λ _. Course)
    [ falsified ↦ ends_false | forces l ↦ course (l ∷ literals) [] | idle ↦ has_idle_hint ]) h

pub forced_first : (literals : List Lit) (clause : KeptClause) (clauses : List KeptClause) (l : Lit)
    → finding literals clause.literals ≡ forces l → course literals (clause ∷ clauses) ≡ course (l ∷ literals) clauses
forced_first literals clause clauses l h =
    ap (λ (f : Finding). elim f as (λ _. Course) [
      | falsified ↦ elim clauses as (λ _. Course) [ [] ↦ ends_false | _ ∷ _ ↦ has_idle_hint ]
      | forces m ↦ course (m ∷ literals) clauses
      | idle ↦ has_idle_hint
    ]) h

pub hinted_more : (kept : Kept) (id : ℕ) (ids : List ℕ) (clause : KeptClause) (clauses : List KeptClause)
    → kept_at kept id ≡ Some clause → hinted kept ids ≡ Some clauses → hinted kept (id ∷ ids) ≡ Some (clause ∷ clauses)
hinted_more kept id ids clause clauses there named =
    ap (λ (o : Option KeptClause). elim o as (λ _. Option (List KeptClause))
    [ None ↦ None | Some c ↦ option_map (λ cs. c ∷ cs) (hinted kept ids) ]) there
    ∙ ap (option_map (λ cs. clause ∷ cs)) named

-- a clause whose literals are all false, or were met, is false under literals that suit
pub explained_start : (kept : Kept) (entries front : List Assigned) (s : Explanation) (id : ℕ) (clause : KeptClause)
    → kept_at kept id ≡ Some clause → s.hints ≡ id ∷ []
    → ((literals : List Lit) → Suits front s literals → is_false_clause literals clause.literals ≡ true)
    → IsExplained kept front s
explained_start kept entries front s id clause there hints all = record {
  clauses = clause ∷ [];
  named = ap (hinted kept) hints ∙ hinted_more kept id [] clause [] there refl;
  ends = λ literals suits. false_last literals clause (finding_false literals clause.literals (all literals suits));
}

-- the literals of a clause that was met
pub covered_literal : (entries front : List Assigned) (s : Explanation) (ls : List Lit) → AreBefore entries front ls
    → IsMarked front (with_literals entries s ls) → (literals : List Lit)
    → Suits front (with_literals entries s ls) literals
    → (m : Lit) → is_among ls m ≡ true → is_false_under (held entries) m ≡ true → is_false_under literals m ≡ true
covered_literal entries front s ls before marked literals suits m among is_false =
    let f = before m among is_false in
    let atom : m.atom ≡ f.entry.literal.atom = ap (λ (l : Lit). l.atom) f.literal in
    let met : is_met (with_literals entries s ls).marks f.entry.literal.atom ≡ true =
    ap (is_met (with_literals entries s ls).marks) (sym atom) ∙ all_met entries front ls s before m among is_false
    in
    covered front (with_literals entries s ls) literals marked suits f.entry f.stands met m f.literal

-- a literal is not both true and false on a trail
pub not_both : (entries : List Assigned) → AreDistinct entries → (e : Assigned) → Stands entries e
    → is_false_under (held entries) e.literal ≡ true → ⊥
not_both entries distinct e there is_false =
    let found = entry_of_true entries (negation e.literal) distinct is_false in
    let atom : found.entry.literal.atom ≡ e.literal.atom = ap (λ (l : Lit). l.atom) found.literal in
    let same : found.entry ≡ e = stands_once entries e found.entry there found.stands atom in
    let is : negation e.literal ≡ e.literal = sym found.literal ∙ ap (λ (x : Assigned). x.literal) same in
    false≢true (sym (is_same_literal-negation e.literal) ∙ is_same_literal-of (negation e.literal) e.literal is)

-- where nothing is to be resolved the walk may end
pub explaining_end : (kept : Kept) (front : List Assigned) (s : Explanation) → IsExplaining kept front s
    → s.pending ≡ 0 → IsExplaining kept [] s
explaining_end kept front s h none_left = record {
  marked = record {
    lower = λ f there. absurd (Prim.cc (there));
    upright = λ f there. absurd (Prim.cc (there));
    counted = none_left;
    distinct = h.marked.distinct;
  };
  explained = record {
    clauses = h.explained.clauses;
    named = h.explained.named;
    ends = λ literals suits. h.explained.ends literals (record {
      lower = suits.lower;
      higher = λ f there pending. absurd
          (false≢true (sym (count_none (is_pending s.level s.marks) front f (omega (arith, h.marked.counted, none_left))
          there) ∙ pending));
      others = λ l one other _. suits.others l one other refl;
    });
  };
}

module _ (kept : Kept) (entries front : List Assigned) (e : Assigned) (distinct : AreDistinct entries)
    (distinct' : AreDistinct (front ++ e ∷ [])) (within : (f : Assigned) → Stands (front ++ e ∷ []) f
    → Stands entries f) where
  before' : AreDistinct front
  before' = (AreDistinct-pop front e distinct').0

  none : entry_of front e.literal.atom ≡ None
  none = (AreDistinct-pop front e distinct').1

  here : Stands (front ++ e ∷ []) e
  here = stands_last front e none

  earlier : (f : Assigned) → Stands front f → f.literal.atom ≡ e.literal.atom → ⊥
  earlier f there same =
      let found : entry_of front e.literal.atom ≡ Some f = ap (entry_of front) (sym same) ∙ there in
      absurd (Prim.cc (none, found))

  -- a literal that is false in front
  pub false_before : (m : Lit) → is_false_under (held front) m ≡ true → IsFalseBefore entries front m
  false_before m is_false =
      let found = entry_of_true front (negation m) before' is_false in
      record {
        entry = found.entry;
        stands = found.stands;
        literal = sym (negation_moved found.entry.literal m found.literal);
        level = level_in_stands entries found.entry m
            (within found.entry (stands_push front e found.entry found.stands))
            (sym (ap (λ (l : Lit). l.atom) found.literal));
      }

  -- what is known of a clause that forces the entry's literal
  pub record Forces (ls : List Lit) : Type 0 where
    pub among : is_among ls e.literal ≡ true
    pub others : (m : Lit) → is_among ls m ≡ true → (m ≡ e.literal) ⊎ (is_false_under (held front) m ≡ true)

  pub forces_from : (ls : List Lit) → leaves_only (held front) ls e.literal ≡ true → Forces ls
  forces_from ls h =
      let outer = and_parts (is_among ls e.literal && is_open_under (held front) e.literal)
      (list_all (is_or_false (held front) e.literal) ls) h in
      record {
        among = (and_parts (is_among ls e.literal) (is_open_under (held front) e.literal) outer.0).0;
        others = λ m among. elim
            (or_cases (is_same_literal m e.literal) (is_false_under (held front) m)
            (all_among (is_or_false (held front) e.literal) ls m outer.1 among)) [
              | inl same ↦ inl (is_same_literal-true m e.literal same)
              | inr is_false ↦ inr is_false
            ];
      }

  -- the others are false in front
  pub reason_before : (ls : List Lit) → Forces ls → AreBefore entries front ls
  reason_before ls h m among is_false =
      elim (h.others m among) [
        | inl same ↦ absurd (not_both entries distinct e (within e here) (ap (is_false_under (held entries)) (sym same)
            ∙ is_false))
        | inr earlier' ↦ false_before m earlier'
      ]

  -- one entry less to look at
  shrink_lower : (s : Explanation) → IsMarked (front ++ e ∷ []) s → (n : ℕ)
      → n ≡ count_by (is_pending s.level s.marks) front → IsMarked front (record s { pending = n })
  shrink_lower s h n count = record {
    lower = λ f there. h.lower f (stands_push front e f there);
    upright = λ f there. h.upright f (stands_push front e f there);
    counted = count;
    distinct = h.distinct;
  }

  count_push : (s : Explanation)
      → count_by (is_pending s.level s.marks) (front ++ e ∷ [])
      ≡ count_by (is_pending s.level s.marks) front + one_if (is_pending s.level s.marks e)
  count_push s = sum_by_push (λ f. one_if (is_pending s.level s.marks f)) front e

  -- an entry that is not to be resolved
  pub explaining_skip : (s : Explanation) → IsExplaining kept (front ++ e ∷ []) s → is_pending s.level s.marks e ≡ false
      → IsExplaining kept front s
  explaining_skip s h off = record {
    marked =
        let n : one_if (is_pending s.level s.marks e) ≡ 0 = ap one_if off in
        shrink_lower s h.marked s.pending (omega (arith, h.marked.counted, count_push s, n));
    explained = record {
      clauses = h.explained.clauses;
      named = h.explained.named;
      ends = λ literals suits. h.explained.ends literals (record {
        lower = suits.lower;
        higher = λ f there pending. elim (stands_cases front e f there) [
          | inl earlier' ↦ suits.higher f earlier' pending
          | inr same ↦ absurd (false≢true (sym off ∙ ap (is_pending s.level s.marks) (sym same) ∙ pending))
        ];
        others = λ l one other missing. suits.others l one other (entry_of-push_none front e l.atom missing).0;
      });
    };
  }

  pub walked_skip : (level : ℕ) (s : Explanation) → IsWalked kept entries level (front ++ e ∷ []) s
      → is_pending s.level s.marks e ≡ false → IsWalked kept entries level front s
  walked_skip level s h off = record {
    here = h.here;
    base = explaining_skip s h.base off;
    lower = h.lower;
    named = h.named;
    flat = λ f there. h.flat f (stands_push front e f there);
    more = h.more;
  }

  -- the explanation when the entry is resolved
  abbrev pub resolved : Explanation → ℕ → List Lit → Explanation
  resolved s id ls = with_literals entries (record s { hints = id ∷ s.hints }) ls

  -- a literal that is false in front is false on the trail
  pub false_on : (m : Lit) (f : IsFalseBefore entries front m) → is_false_under (held entries) m ≡ true
  false_on m f =
      ap (is_among (held entries)) (negation_moved m f.entry.literal f.literal)
      ∙ stands_true entries f.entry (within f.entry (stands_push front e f.entry f.stands))

  before_more : (ls : List Lit) → AreBefore entries front ls → AreBefore entries (front ++ e ∷ []) ls
  before_more ls h m among is_false =
      let f = h m among is_false in
      record { entry = f.entry; stands = stands_push front e f.entry f.stands; literal = f.literal; level = f.level }

  false_weaker : (literals ls : List Lit) (l : Lit) → is_false_clause literals ls ≡ true
      → is_false_clause (l ∷ literals) ls ≡ true
  false_weaker literals [] l h = refl
  false_weaker literals (m ∷ ms) l h =
      let parts = and_parts (is_false_under literals m) (is_false_clause literals ms) h in
      and_from (is_false_under (l ∷ literals) m) (is_false_clause (l ∷ literals) ms)
      (or_right (is_same_literal l (negation m)) (is_false_under literals m) parts.0)
      (false_weaker literals ms l parts.1)

  open_other : (literals : List Lit) (l m : Lit) → (l.atom ≡ m.atom → ⊥) → is_open_under literals m ≡ true
      → is_open_under (l ∷ literals) m ≡ true
  open_other literals l m other h = rw (is_same_literal-apart l m other, is_same_literal-apart l (negation m) other) h

  module _ (s : Explanation) (h : IsExplaining kept (front ++ e ∷ []) s) (on : is_pending s.level s.marks e ≡ true)
    where
      high : leb s.level e.level ≡ true
      high = (and_parts (leb s.level e.level) (is_met s.marks e.literal.atom) on).0

      met : is_met s.marks e.literal.atom ≡ true
      met = (and_parts (leb s.level e.level) (is_met s.marks e.literal.atom) on).1

      module _ (id : ℕ) (clause : KeptClause) (there : kept_at kept id ≡ Some clause) (forced : Forces clause.literals)
        where
          abbrev t : Explanation
          t = resolved s id clause.literals

          marked_t : IsMarked (front ++ e ∷ []) t
          marked_t = meet_all_marked entries (front ++ e ∷ []) distinct' clause.literals
              (record s { hints = id ∷ s.hints })
              (record {
                lower = h.marked.lower;
                upright = h.marked.upright;
                counted = h.marked.counted;
                distinct =
                    h.marked.distinct;
              }) (before_more clause.literals (reason_before clause.literals forced))

          pub extends_t : Extends (front ++ e ∷ []) (record s { hints = id ∷ s.hints }) t
          extends_t = meet_all_extends entries (front ++ e ∷ []) clause.literals (record s { hints = id ∷ s.hints })
              (before_more clause.literals (reason_before clause.literals forced))

          high_t : leb t.level e.level ≡ true
          high_t = ap (λ n. leb n e.level) extends_t.level ∙ high

          on_t : is_pending t.level t.marks e ≡ true
          on_t = and_from (leb t.level e.level) (is_met t.marks e.literal.atom) high_t
              (extends_t.met e.literal.atom met)

          abbrev u : Explanation
          u = record t { pending = t.pending - 1 }

          marked_u : IsMarked front u
          marked_u =
              let n : one_if (is_pending t.level t.marks e) ≡ 1 = ap one_if on_t in
              shrink_lower t marked_t (t.pending - 1) (omega (arith, marked_t.counted, count_push t, n))

          module _ (literals : List Lit) (suits : Suits front u literals) where
            unset : is_open_under literals e.literal ≡ true
            unset =
                let low : ltb e.level t.level ≡ false = le-ltb e.level t.level (leb-true t.level e.level high_t) in
                suits.others e.literal (marked_t.upright e here)
                (marked_t.lower e here ∙ and_right (is_met t.marks e.literal.atom) (ltb e.level t.level) low) none

            other_false : (m : Lit) → is_among clause.literals m ≡ true → is_or_false literals e.literal m ≡ true
            other_false m among =
                elim (forced.others m among) [
                  | inl same ↦ or_left (is_same_literal m e.literal) (is_false_under literals m)
                      (is_same_literal-of m e.literal same)
                  | inr is_false ↦
                      let f = false_before m is_false in
                      let atom : m.atom ≡ f.entry.literal.atom = ap (λ (l : Lit). l.atom) f.literal in
                      let met' : is_met t.marks f.entry.literal.atom ≡ true = ap (is_met t.marks) (sym atom)
                      ∙ all_met entries front clause.literals (record s { hints = id ∷ s.hints })
                      (reason_before clause.literals forced) m among (false_on m f) in
                      or_right (is_same_literal m e.literal) (is_false_under literals m)
                      (covered front u literals marked_u suits f.entry f.stands met' m f.literal)
                ]

            suits_before : Suits (front ++ e ∷ []) s (e.literal ∷ literals)
            suits_before = record {
              lower = false_weaker literals s.clause e.literal (extends_t.clause (is_false_under literals) suits.lower);
              higher = λ f there' pending. elim (stands_cases front e f there') [
                | inl earlier' ↦
                    let parts = and_parts (leb s.level f.level) (is_met s.marks f.literal.atom) pending in
                    or_right (is_same_literal e.literal f.literal) (is_true_under literals f.literal)
                    (suits.higher f earlier'
                    (and_from (leb t.level f.level) (is_met t.marks f.literal.atom)
                    (ap (λ n. leb n f.level) extends_t.level ∙ parts.0) (extends_t.met f.literal.atom parts.1)))
                | inr same ↦
                    or_left (is_same_literal e.literal f.literal) (is_true_under literals f.literal)
                    (is_same_literal-of e.literal f.literal (ap (λ (x : Assigned). x.literal) (sym same)))
              ];
              others = λ l one other missing.
                  let parts = entry_of-push_none front e l.atom missing in
                  open_other literals e.literal l parts.1
                  (suits.others l (extends_t.outside l missing ∙ one) (extends_t.outside (negation l) missing ∙ other)
                  parts.0);
            }

            ends_u : course literals (clause ∷ h.explained.clauses) ≡ ends_false
            ends_u =
                forced_first literals clause h.explained.clauses e.literal
                (finding_forces literals clause.literals e.literal forced.among unset
                (all_from_among (is_or_false literals e.literal) clause.literals other_false))
                ∙ h.explained.ends (e.literal ∷ literals) suits_before

          -- an entry that is resolved with its reason
          pub explaining_resolve : IsExplaining kept front u
          explaining_resolve = record {
            marked = marked_u;
            explained = record {
              clauses = clause ∷ h.explained.clauses;
              named = ap (hinted kept) extends_t.hints
                  ∙ hinted_more kept id s.hints clause h.explained.clauses there h.explained.named;
              ends = ends_u;
            };
          }

      not_low : ltb e.level s.level ≡ false
      not_low = le-ltb e.level s.level (leb-true s.level e.level high)

      pub left_distinct : AreDistinctLiterals (s.clause ++ negation e.literal ∷ [])
      left_distinct = AreDistinctLiterals-push s.clause (negation e.literal) h.marked.distinct
          (h.marked.lower e here ∙ and_right (is_met s.marks e.literal.atom) (ltb e.level s.level) not_low)

      count_front : s.pending ≡ count_by (is_pending s.level s.marks) front + 1
      count_front =
          let n : one_if (is_pending s.level s.marks e) ≡ 1 = ap one_if on in
          omega (arith, h.marked.counted, count_push s, n)

      pub some_pending : 1 ≤ s.pending
      some_pending = omega (arith, count_front)

      -- the entry's literal stays to the end
      abbrev pub kept_back : Explanation
      kept_back = record s { clause = s.clause ++ negation e.literal ∷ []; pending = s.pending - 1 }

      -- literals that suit when the literal stays suit before
      suits_left : (literals : List Lit) → is_false_clause literals (s.clause ++ negation e.literal ∷ []) ≡ true
          → ((f : Assigned) → Stands front f → is_pending s.level s.marks f ≡ true
          → is_true_under literals f.literal ≡ true)
          → ((l : Lit) → is_among (s.clause ++ negation e.literal ∷ []) l ≡ false
          → is_among (s.clause ++ negation e.literal ∷ []) (negation l) ≡ false → entry_of front l.atom ≡ None
          → is_open_under literals l ≡ true)
          → Suits (front ++ e ∷ []) s literals
      suits_left literals is_false higher others =
          let parts = and_parts (is_false_clause literals s.clause) (is_false_clause literals (negation e.literal ∷ []))
          (sym (list_all-append (is_false_under literals) s.clause (negation e.literal ∷ [])) ∙ is_false) in
          let last = and_parts (is_false_under literals (negation e.literal)) true parts.1 in
          record {
            lower = parts.0;
            higher = λ f there pending. elim (stands_cases front e f there) [
              | inl earlier' ↦ higher f earlier' pending
              | inr same ↦ ap (is_among literals) (ap (λ (x : Assigned). x.literal) same
                  ∙ sym (negation_twice e.literal))
                  ∙ last.0
            ];
            others = λ l one other missing.
                let before = entry_of-push_none front e l.atom missing in
                others l
                (among_push_other s.clause (negation e.literal) l
                (is_same_literal-apart (negation e.literal) l before.1)
                ∙ one)
                (among_push_other s.clause (negation e.literal) (negation l)
                (is_same_literal-apart (negation e.literal) (negation l) before.1) ∙ other)
                before.0;
          }

      pub explaining_stay : IsExplaining kept front kept_back
      explaining_stay = record {
        marked = record {
          lower = λ f there.
              among_push_other s.clause (negation e.literal) (negation f.literal)
              (is_same_literal-apart (negation e.literal) (negation f.literal) (λ same. earlier f there (sym same)))
              ∙ h.marked.lower f (stands_push front e f there);
          upright = λ f there.
              among_push_other s.clause (negation e.literal) f.literal
              (is_same_literal-apart (negation e.literal) f.literal (λ same. earlier f there (sym same)))
              ∙ h.marked.upright f (stands_push front e f there);
          counted = omega (arith, count_front);
          distinct = left_distinct;
        };
        explained = record {
          clauses = h.explained.clauses;
          named = h.explained.named;
          ends = λ literals suits.
              h.explained.ends literals (suits_left literals suits.lower suits.higher suits.others);
        };
      }

      -- where nothing in front is to be resolved, only the entry's literal is left
      pub explained_left : ((f : Assigned) → Stands front f → is_pending s.level s.marks f ≡ false)
          → IsExplained kept [] (record s { clause = s.clause ++ negation e.literal ∷ []; pending = 0 })
      explained_left alone = record {
        clauses = h.explained.clauses;
        named = h.explained.named;
        ends = λ literals suits.
            h.explained.ends literals
            (suits_left literals suits.lower (λ f there pending. absurd (false≢true (sym (alone f there) ∙ pending)))
            (λ l one other _. suits.others l one other refl));
      }

      pub alone_by_count : s.pending ≡ 1 → (f : Assigned) → Stands front f → is_pending s.level s.marks f ≡ false
      alone_by_count one f there =
          count_none (is_pending s.level s.marks) front f (omega (arith, count_front, one)) there

  module _ (level : ℕ) (s : Explanation) (h : IsWalked kept entries level (front ++ e ∷ []) s)
      (on : is_pending s.level s.marks e ≡ true) where
    pub walked_resolve : (id : ℕ) (clause : KeptClause) (there : kept_at kept id ≡ Some clause)
        (forced : Forces clause.literals) → (s.pending ≡ 1 → ⊥) → ((f : Assigned) → Stands front f → f.level ≤ e.level)
        → IsWalked kept entries level front
        (record (resolved s id clause.literals) { pending = (resolved s id clause.literals).pending - 1 })
    walked_resolve id clause there forced more levels =
        let extends = extends_t s h.base on id clause there forced in
        record {
          here = extends.level ∙ h.here;
          base = explaining_resolve s h.base on id clause there forced;
          lower = meet_all_lower entries front clause.literals (record s { hints = id ∷ s.hints }) h.lower;
          named = named_clause kept entries distinct s id clause.literals (literals_of kept id clause there) h.named
              (resolved s id clause.literals) refl;
          flat = λ f there' _. omega (arith, levels f there', h.flat e here on, extends.level);
          more = omega (arith, h.more, extends.pending, more);
        }

    pub alone_by_level : ((f : Assigned) → Stands front f → f.level < e.level) → (f : Assigned) → Stands front f
        → is_pending s.level s.marks f ≡ false
    alone_by_level levels f there =
        and_left (leb s.level f.level) (is_met s.marks f.literal.atom)
        (lt-leb s.level f.level (omega (arith, levels f there, h.flat e here on)))

    -- the entry is the one that is left
    pub walked_left : ((f : Assigned) → Stands front f → is_pending s.level s.marks f ≡ false)
        → IsFirstUip kept entries level s e.literal
    walked_left alone = record {
      here = h.here;
      explained = explained_left s h.base on alone;
      distinct = left_distinct s h.base on;
      named = all_named kept s.hints s.clause (negation e.literal) h.named.clause_named
          (h.named.met e (within e here) (met s h.base on));
      lower = h.lower;
      is_true = stands_true entries e (within e here);
      at = level_in_stands entries e e.literal (within e here) refl
          ∙ omega (arith, h.here, h.flat e here on, leb-true s.level e.level (high s h.base on));
    }

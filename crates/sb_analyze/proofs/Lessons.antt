-- What an analysis comes to.
use Rattle.std.proofs.Common.{◌≡◌, ℕ, suc, ◌-◌, ◌<◌, ◌≤◌, true, false, cond, ◌&&◌, ◌||◌, ◌⊎◌, eqb, ltb, leb, List, [], ◌∷◌, ◌++◌, map, max, Option, Some, None, Result, Ok, Err, refl, sym, ◌∙◌, ap, subst, inl, inr, arith}
use Rattle.std.specs.List.{list_all}
use Rattle.std.specs.Option.{option_map, unwrap_or}
use Rattle.std.proofs.lemmas.Option.{same_Some}
use Rattle.std.specs.List.Sorted.{IsPermutation}
use Rattle.std.proofs.lemmas.Bool.{false≢true, and_parts, and_from, or_left, or_right, or_cases, or_from, cases_Bool, cases_lt, le-leb, leb-true, ltb-true, false_from_ne_true}
use Rattle.std.proofs.lemmas.List.Sorted.{list_any-IsPermutation}
use Rattle.sb_lit.specs.declared.clause.Lit.{Lit}
use Rattle.sb_lit.specs.Clauses.{negation, is_same_literal, are_ascending, is_among, are_among, is_true_under, is_false_under, is_open_under, is_false_clause, leaves_only}
use Rattle.sb_lit.specs.Kept.{Kept, KeptClause, kept_at}
use Rattle.sb_lit.specs.Hints.{Unlearned, unknown_hint, repeated_clause, hinted, is_repeated, course, ends_false, level_by, learned, greatest_level}
use Rattle.sb_trail.specs.declared.assigned.Assigned.{Assigned}
use Rattle.sb_trail.specs.Assignments.{entry_of, held, up_to, AreDistinct}
use Rattle.sb_analyze.specs.Reasons.{level_in, highest}
use Rattle.sb_analyze.specs.Learning.{IsTeaching, is_named, IsLesson, IsAsserting}
use Rattle.sb_analyze.specs.declared.learned.Learned.{Learned}
use Rattle.sb_analyze.specs.Explaining.{Explanation}
use Rattle.sb_analyze.specs.Explained.{Stands, Suits, IsExplained, AreDistinctLiterals, IsFirstUip, greatest_at, IsMadeOf}
use Rattle.sb_lit.proofs.CallerLemmas.{is_same_literal-true, is_same_literal-self, is_same_literal-of, negation_twice, all_among, all_from_among, among_push, among_push_same, among_negated}
use Rattle.sb_analyze.proofs.Findings.{is_or_false}
use Rattle.sb_trail.proofs.CallerLemmas.{cond_cases}
use Rattle.sb_analyze.proofs.Entries.{entry_of_true, stands_head, stands_tail, level_in_stands}
use Rattle.sb_analyze.proofs.Starts.{highest_above}

-- a clause that the hints explain, in order and new, is accepted
suits_end : (s : Explanation) (clause : List Lit) → IsPermutation s.clause clause → Suits [] s (map negation clause)
suits_end s clause perm =
    let same : (l : Lit) → is_among s.clause l ≡ is_among clause l =
    λ l. list_any-IsPermutation (λ m. is_same_literal m l) s.clause clause perm in
    record {
      lower = all_from_among (is_false_under (map negation clause)) s.clause (λ l among.
          among_negated clause (negation l) ∙ ap (is_among clause) (negation_twice l) ∙ sym (same l) ∙ among);
      higher = λ e there pending. absurd (Prim.cc (there));
      others = λ l one other _.
          let not_true : is_true_under (map negation clause) l ≡ false =
          among_negated clause l ∙ sym (same (negation l)) ∙ other in
          let not_false : is_false_under (map negation clause) l ≡ false = among_negated clause (negation l)
          ∙ ap (is_among clause) (negation_twice l) ∙ sym (same l) ∙ one in
          rw (not_true, not_false) refl;
    }

accepted_by : (kept : Kept) (clause : List Lit) (ids : List ℕ) (clauses : List KeptClause)
    → hinted kept ids ≡ Some clauses → is_repeated kept clause ≡ false
    → course (map negation clause) clauses ≡ ends_false → are_ascending clause ≡ true
    → learned kept clause ids ≡ Ok (greatest_level clauses)
accepted_by kept clause ids clauses named new ends ascending =
    ap (λ (o : Option (List KeptClause)). elim o as (λ _. Result ℕ Unlearned) [
      | None ↦ Err unknown_hint
      | Some hints ↦ cond (is_repeated kept clause) (Err repeated_clause)
          (level_by (course (map negation clause) hints) clause hints)
    ]) named ∙ rw (new, ends, ascending) refl

-- the greatest level of the clauses that hints name
greatest_is : (kept : Kept) (ids : List ℕ) (clauses : List KeptClause) → hinted kept ids ≡ Some clauses
    → greatest_at kept ids ≡ greatest_level clauses
greatest_is kept [] clauses h = ap greatest_level (same_Some [] clauses h)
greatest_is kept (id ∷ ids) clauses h = by_first (kept_at kept id) (hinted kept ids) refl (greatest_is kept ids) h
  where
    by_first : (o : Option KeptClause) (rest : Option (List KeptClause)) → hinted kept ids ≡ rest
        → ((cs : List KeptClause) → hinted kept ids ≡ Some cs → greatest_at kept ids ≡ greatest_level cs)
        → elim o as (λ _. Option (List KeptClause)) [ None ↦ None | Some c ↦ option_map (λ cs. c ∷ cs) rest ]
        ≡ Some clauses
        → max (unwrap_or (option_map (λ (c : KeptClause). c.level) o) 0) (greatest_at kept ids)
        ≡ greatest_level clauses
    by_first None rest is again none = absurd (Prim.cc (none))
    by_first (Some c) None is again none = absurd (Prim.cc (none))
    by_first (Some c) (Some cs) is again some =
        ap (max c.level) (again cs is) ∙ ap greatest_level (same_Some (c ∷ cs) clauses some)

pub is_lesson : (kept : Kept) (s : Explanation) (n : ℕ) (lesson : Learned) → IsExplained kept [] s
    → AreDistinctLiterals s.clause → list_all (is_named kept s.hints) s.clause ≡ true → IsMadeOf kept s n lesson
    → is_repeated kept lesson.clause ≡ false → IsLesson kept lesson.clause lesson.hints lesson.level
is_lesson kept s n lesson h distinct named made new =
    let hinted_is : hinted kept lesson.hints ≡ Some h.clauses = ap (hinted kept) made.hints ∙ h.named in
    record {
      accepted = accepted_by kept lesson.clause lesson.hints h.clauses hinted_is new
          (h.ends (map negation lesson.clause) (suits_end s lesson.clause made.permutation)) (made.ascending distinct)
          ∙ ap (λ (level : ℕ). Ok level) (sym (made.scope ∙ greatest_is kept lesson.hints h.clauses hinted_is));
      named = all_from_among (is_named kept lesson.hints) lesson.clause (λ l among.
          ap (λ (ids : List ℕ). is_named kept ids l) made.hints
          ∙ all_among (is_named kept s.hints) s.clause l named
          (list_any-IsPermutation (λ m. is_same_literal m l) s.clause lesson.clause made.permutation ∙ among));
    }

-- no kept clause is a subset
pub not_repeated : (kept : Kept) (clause : List Lit)
    → ((id : ℕ) (k : KeptClause) → kept_at kept id ≡ Some k → are_among k.literals clause ≡ false)
    → is_repeated kept clause ≡ false
not_repeated [] clause h = refl
not_repeated (None ∷ kept) clause h = not_repeated kept clause (λ id k there. h (suc id) k there)
not_repeated (Some k ∷ kept) clause h =
    or_from (are_among k.literals clause) (is_repeated kept clause) (h 0 k refl)
    (not_repeated kept clause (λ id k' there. h (suc id) k' there))

-- the entries of levels up to one
pub record IsUpTo (n : ℕ) (es : List Assigned) (l : Lit) : Type 0 where
  pub entry : Assigned
  pub stands : Stands es entry
  pub literal : entry.literal ≡ l
  pub level : entry.level ≤ n

pub up_to_entry : (n : ℕ) (es : List Assigned) (l : Lit) → AreDistinct es → is_true_under (held (up_to n es)) l ≡ true
    → IsUpTo n es l
up_to_entry n [] l h is_true = absurd (false≢true is_true)
up_to_entry n (x ∷ xs) l h is_true =
    elim (cases_Bool (leb x.level n)) [
      | inl low ↦
          let split : is_true_under (held (x ∷ up_to n xs)) l ≡ true = rw low at is_true in
          elim (or_cases (is_same_literal x.literal l) (is_among (held (up_to n xs)) l) split) [
            | inl here ↦ record {
              entry = x;
              stands = stands_head x xs;
              literal =
                  is_same_literal-true x.literal l here;
              level = leb-true x.level n low;
            }
            | inr later ↦
                let f = up_to_entry n xs l h.1 later in
                record {
                  entry = f.entry;
                  stands = stands_tail x xs f.entry h f.stands;
                  literal = f.literal;
                  level =
                      f.level;
                }
          ]
      | inr high ↦
          let later : is_true_under (held (up_to n xs)) l ≡ true = rw high at is_true in
          let f = up_to_entry n xs l h.1 later in
          record { entry = f.entry; stands = stands_tail x xs f.entry h f.stands; literal = f.literal; level = f.level }
    ]

pub up_to_true : (n : ℕ) (es : List Assigned) (e : Assigned) → Stands es e → e.level ≤ n
    → is_true_under (held (up_to n es)) e.literal ≡ true
up_to_true n [] e there low = absurd (Prim.cc (there))
up_to_true n (x ∷ xs) e there low =
    elim (cond_cases (eqb x.literal.atom e.literal.atom) x e (entry_of xs e.literal.atom) there) [
      | inl here ↦
          let kept' : leb x.level n ≡ true = ap (λ (y : Assigned). leb y.level n) here.1 ∙ le-leb e.level n low in
          rw kept' (or_left (is_same_literal x.literal e.literal) (is_among (held (up_to n xs)) e.literal)
          (is_same_literal-of x.literal e.literal (ap (λ (y : Assigned). y.literal) here.1)))
      | inr later ↦
          let rest = up_to_true n xs e later.1 low in
          elim (cases_Bool (leb x.level n)) [
            | inl kept' ↦ rw kept'
                (or_right (is_same_literal x.literal e.literal) (is_among (held (up_to n xs)) e.literal) rest)
            | inr gone ↦ rw gone rest
          ]
    ]

-- a literal that is true up to a level is of a level up to it,
pub true_up_to_low : (n : ℕ) (es : List Assigned) (l m : Lit) → AreDistinct es
    → is_true_under (held (up_to n es)) l ≡ true → m.atom ≡ l.atom → level_in es m ≤ n
true_up_to_low n es l m h is_true atom =
    let f = up_to_entry n es l h is_true in
    omega (arith, f.level, level_in_stands es f.entry m f.stands (atom ∙ sym (ap (λ (x : Lit). x.atom) f.literal)))

-- and one that is true and of a level up to it is true there
pub low_true_up_to : (n : ℕ) (es : List Assigned) (l : Lit) → AreDistinct es → is_true_under (held es) l ≡ true
    → level_in es l ≤ n → is_true_under (held (up_to n es)) l ≡ true
low_true_up_to n es l h is_true low =
    let f = entry_of_true es l h is_true in
    let atom : l.atom ≡ f.entry.literal.atom = sym (ap (λ (x : Lit). x.atom) f.literal) in
    ap (is_true_under (held (up_to n es))) (sym f.literal)
    ∙ up_to_true n es f.entry f.stands (omega (arith, low, level_in_stands es f.entry l f.stands atom))

-- the highest level of literals of lower levels
highest_below : (entries : List Assigned) (ls : List Lit) (n : ℕ) → 0 < n
    → list_all (λ l. ltb (level_in entries l) n) ls ≡ true → highest entries ls < n
highest_below entries [] n some h = some
highest_below entries (l ∷ ls) n some h =
    let parts = and_parts (ltb (level_in entries l) n) (list_all (λ m. ltb (level_in entries m) n) ls) h in
    omega (arith, ltb-true (level_in entries l) n parts.0, highest_below entries ls n some parts.1)

record IsHighest (entries : List Assigned) (ls : List Lit) : Type 0 where
  literal : Lit
  among : is_among ls literal ≡ true
  level : level_in entries literal ≡ highest entries ls

highest_attained : (entries : List Assigned) (ls : List Lit) → 0 < highest entries ls → IsHighest entries ls
highest_attained entries [] some = absurd (omega arith)
highest_attained entries (l ∷ ls) some =
    elim (cases_lt (level_in entries l) (highest entries ls)) [
      | inl below ↦
          let rest = highest_attained entries ls (omega (arith, below)) in
          record {
            literal = rest.literal;
            among =
                or_right (is_same_literal l rest.literal) (is_among ls rest.literal) rest.among;
            level =
                omega (arith, rest.level, below);
          }
      | inr above ↦ record {
        literal = l;
        among =
            or_left (is_same_literal l l) (is_among ls l) (is_same_literal-self l);
        level = omega (arith, above);
      }
    ]

module _ (kept : Kept) (entries : List Assigned) (distinct : AreDistinct entries) (id : ℕ) (conflict : KeptClause)
    (teaching : IsTeaching kept entries id conflict)
    (s : Explanation) (left : Lit) (is_left : IsFirstUip kept entries (highest entries conflict.literals) s left)
    (t : Explanation) (t_clause : t.clause ≡ s.clause ++ negation left ∷ []) (t_hints : t.hints ≡ s.hints)
    (lesson : Learned) (made : IsMadeOf kept t (highest entries s.clause) lesson) where
  abbrev level : ℕ
  level = highest entries conflict.literals

  abbrev ls : List Lit
  ls = lesson.clause

  abbrev all : List Lit
  all = s.clause ++ negation left ∷ []

  permuted : IsPermutation all ls
  permuted = subst (λ (xs : List Lit). IsPermutation xs ls) t_clause made.permutation

  same : (l : Lit) → is_among all l ≡ is_among ls l
  same l = list_any-IsPermutation (λ m. is_same_literal m l) all ls permuted

  -- a literal of the clause is a lower one or the one that is left
  cases : (l : Lit) → is_among ls l ≡ true → (is_among s.clause l ≡ true) ⊎ (l ≡ negation left)
  cases l among =
      elim (or_cases (is_among s.clause l) (is_same_literal (negation left) l || false)
      (sym (among_push s.clause (negation left) l) ∙ same l ∙ among)) [
        | inl lower ↦ inl lower
        | inr last ↦ elim (or_cases (is_same_literal (negation left) l) false last) [
          | inl here ↦ inr (sym (is_same_literal-true (negation left) l here))
          | inr wrong ↦ absurd (false≢true wrong)
        ]
      ]

  left_among : is_among ls (negation left) ≡ true
  left_among = sym (same (negation left)) ∙ among_push_same s.clause (negation left)

  left_level : level_in entries (negation left) ≡ level
  left_level = is_left.at

  lower_false : (l : Lit) → is_among s.clause l ≡ true → is_false_under (held entries) l ≡ true
  lower_false l among = all_among (is_false_under (held entries)) s.clause l is_left.lower.0 among

  lower_level : (l : Lit) → is_among s.clause l ≡ true → level_in entries l < level
  lower_level l among =
      omega (
        arith,
        is_left.here,
        ltb-true (level_in entries l) s.level
            (all_among (λ m. ltb (level_in entries m) s.level) s.clause l is_left.lower.1 among),
      )

  ls_false : is_false_clause (held entries) ls ≡ true
  ls_false = all_from_among (is_false_under (held entries)) ls (λ l among. elim (cases l among) [
    | inl lower ↦ lower_false l lower
    | inr last ↦ ap (is_false_under (held entries)) last ∙ ap (is_among (held entries)) (negation_twice left)
        ∙ is_left.is_true
  ])

  -- up to a level below, the literal that is left has no value,
  left_open : (n : ℕ) → n < level → is_open_under (held (up_to n entries)) (negation left) ≡ true
  left_open n below =
      let not_true : is_true_under (held (up_to n entries)) (negation left) ≡ false =
      false_from_ne_true (is_true_under (held (up_to n entries)) (negation left))
      (λ h. omega
      (arith, below, left_level, true_up_to_low n entries (negation left) (negation left) distinct h refl)) in
      let not_false : is_false_under (held (up_to n entries)) (negation left) ≡ false =
      false_from_ne_true (is_false_under (held (up_to n entries)) (negation left))
      (λ h. omega (
        arith,
        below,
        left_level,
        true_up_to_low n entries (negation (negation left)) (negation left) distinct h refl,
      )) in
      rw (not_true, not_false) refl

  -- and one of a level up to it is false
  lower_up_to : (n : ℕ) (l : Lit) → is_among s.clause l ≡ true → level_in entries l ≤ n
      → is_false_under (held (up_to n entries)) l ≡ true
  lower_up_to n l among low = low_true_up_to n entries (negation l) distinct (lower_false l among) low

  leaves_from : (n : ℕ) → n < level → (ms : List Lit) → is_among ms (negation left) ≡ true
      → ((l : Lit) → is_among ms l ≡ true → is_or_false (held (up_to n entries)) (negation left) l ≡ true)
      → leaves_only (held (up_to n entries)) ms (negation left) ≡ true
  leaves_from n below ms among others =
      and_from (is_among ms (negation left) && is_open_under (held (up_to n entries)) (negation left))
      (list_all (is_or_false (held (up_to n entries)) (negation left)) ms)
      (and_from (is_among ms (negation left)) (is_open_under (held (up_to n entries)) (negation left)) among
      (left_open n below))
      (all_from_among (is_or_false (held (up_to n entries)) (negation left)) ms others)

  -- no kept clause has literals of the clause alone
  new : (other : ℕ) (k : KeptClause) → kept_at kept other ≡ Some k → are_among k.literals ls ≡ false
  new other k there = false_from_ne_true (are_among k.literals ls) (λ subset.
      let below : level - 1 < level = omega (arith, teaching.above) in
      let or_false : (l : Lit) → is_among k.literals l ≡ true
      → (l ≡ negation left) ⊎ (is_false_under (held (up_to (level - 1) entries)) l ≡ true) = λ l among.
      elim (cases l (all_among (is_among ls) k.literals l subset among)) [
        | inl lower ↦ inr (lower_up_to (level - 1) l lower (omega (arith, lower_level l lower)))
        | inr last ↦ inl last
      ] in
      elim (cases_Bool (is_among k.literals (negation left))) [
        | inl has ↦ false≢true (sym (teaching.settled.none_forces other k there (negation left))
            ∙ leaves_from (level - 1) below k.literals has (λ l among. elim (or_false l among) [
              | inl last ↦ or_left (is_same_literal l (negation left))
                  (is_false_under (held (up_to (level - 1) entries)) l)
                  (is_same_literal-of l (negation left) last)
              | inr is_false ↦ or_right (is_same_literal l (negation left))
                  (is_false_under (held (up_to (level - 1) entries)) l) is_false
            ]))
        | inr lacks ↦ false≢true (sym (teaching.settled.none_false other k there)
            ∙ all_from_among (is_false_under (held (up_to (level - 1) entries))) k.literals
            (λ l among. elim (or_false l among) [
              | inl last ↦ absurd (false≢true (sym lacks ∙ ap (is_among k.literals) (sym last) ∙ among))
              | inr is_false ↦ is_false
            ]))
      ])

  pub lesson_from : IsAsserting kept entries level lesson
  lesson_from =
      let back = made.level in
      let below : highest entries s.clause < level =
      highest_below entries s.clause level teaching.above
      (subst (λ (n : ℕ). list_all (λ l. ltb (level_in entries l) n) s.clause ≡ true) is_left.here is_left.lower.1)
      in
      rw back (record {
        is_lesson = is_lesson kept (record s { clause = all; pending = 0 }) (highest entries s.clause) lesson
            is_left.explained is_left.distinct is_left.named (record {
              permutation = permuted;
              ascending = λ distinct'. made.ascending (subst AreDistinctLiterals (sym t_clause) distinct');
              hints = made.hints ∙ t_hints;
              scope = made.scope;
              level = made.level;
            }) (not_repeated kept ls new);
        is_false = ls_false;
        asserted = negation left;
        asserted_level = left_level;
        others = all_from_among
            (λ l. is_same_literal l (negation left) || leb (level_in entries l) (highest entries s.clause)) ls
            (λ l among. elim (cases l among) [
              | inl lower ↦ or_right (is_same_literal l (negation left))
                  (leb (level_in entries l) (highest entries s.clause))
                  (le-leb (level_in entries l) (highest entries s.clause) (highest_above entries s.clause l lower))
              | inr last ↦ or_left (is_same_literal l (negation left))
                  (leb (level_in entries l) (highest entries s.clause))
                  (is_same_literal-of l (negation left) last)
            ]);
        below = below;
        leaves = leaves_from (highest entries s.clause) below ls left_among (λ l among. elim (cases l among) [
          | inl lower ↦ or_right (is_same_literal l (negation left))
              (is_false_under (held (up_to (highest entries s.clause) entries)) l)
              (lower_up_to (highest entries s.clause) l lower (highest_above entries s.clause l lower))
          | inr last ↦ or_left (is_same_literal l (negation left))
              (is_false_under (held (up_to (highest entries s.clause) entries)) l)
              (is_same_literal-of l (negation left) last)
        ]);
        lowest = λ n under. false_from_ne_true (leaves_only (held (up_to n entries)) ls (negation left)) (λ h.
            let top = highest_attained entries s.clause (omega (arith, under)) in
            let parts = and_parts
            (is_among ls (negation left) && is_open_under (held (up_to n entries)) (negation left))
            (list_all (is_or_false (held (up_to n entries)) (negation left)) ls) h in
            let in_ls : is_among ls top.literal ≡ true =
            sym (same top.literal) ∙ among_push s.clause (negation left) top.literal
            ∙ or_left (is_among s.clause top.literal) (is_same_literal (negation left) top.literal || false)
            top.among in
            elim (or_cases (is_same_literal top.literal (negation left))
            (is_false_under (held (up_to n entries)) top.literal)
            (all_among (is_or_false (held (up_to n entries)) (negation left)) ls top.literal parts.1 in_ls)) [
              | inl last ↦ omega (
                arith,
                below,
                top.level,
                left_level,
                ap (level_in entries) (is_same_literal-true top.literal (negation left) last),
              )
              | inr is_false ↦ omega (
                arith,
                under,
                top.level,
                true_up_to_low n entries (negation top.literal) top.literal distinct is_false refl,
              )
            ]);
      })

-- Hints that are followed one by one.
use Rattle.std.proofs.Common.{◌≡◌, ℕ, Bool, true, false, not, cond, ◌&&◌, ◌||◌, List, [], ◌∷◌, map, filter, fold, Option, Some, None, Result, Ok, Err, refl, sym, ◌∙◌, ap, inl, inr}
use Rattle.std.specs.Prelude.{is_some, option_map, unwrap_or}
use Rattle.std.specs.List.{list_all}
use Rattle.std.proofs.lemmas.Bool.{cases_Bool}
use Rattle.sb_lit.specs.declared.clause.Lit.{Lit}
use Rattle.sb_lit.specs.Clauses.{negation, is_same_literal, is_among, is_false_under, are_ascending}
use Rattle.sb_lit.specs.Kept.{KeptClause, Kept, kept_at}
use Rattle.sb_lit.specs.Hints.{hinted, is_repeated, Finding, falsified, forces, idle, finding, Course, ends_false, stays_open, has_idle_hint, course, greatest_level, Unlearned, unknown_hint, repeated_clause, not_by_hints, level_by, learned}
use Rattle.sb_lit.proofs.CallerLemmas.{is_same_literal-beq}
use Rattle.sb_hints.specs.Listing.{are_equal}
use Rattle.sb_hints.specs.Following.{IsSetOf, clause_of, clause_at, clauses_at, is_known, rises_to, with_literal, course_after, GoesOn}

-- what the literals of a clause give
module _ (held : List Lit) (has : Lit → Bool) (set : IsSetOf held has) where
  from_idle : (ls : List Lit) → fold (with_literal has) idle ls ≡ idle
  from_idle [] = refl
  from_idle (l ∷ ls) =
      elim (cases_Bool (has (negation l))) [
        | inl is ↦ rw is (from_idle ls)
        | inr is ↦ rw is (from_idle ls)
      ]

  abbrev open_ones : List Lit → List Lit
  open_ones ls = filter (λ l. not (is_false_under held l)) ls

  from_forced : (m : Lit) (ls : List Lit) → fold (with_literal has) (forces m) ls
      ≡ cond (list_all (is_same_literal m) (open_ones ls)) (forces m) idle
  from_forced m [] = refl
  from_forced m (l ∷ ls) = go (from_forced m ls) (has (negation l)) refl (is_same_literal m l) refl
    where
      go : fold (with_literal has) (forces m) ls
          ≡ cond (list_all (is_same_literal m) (open_ones ls)) (forces m) idle
          → (b : Bool) → has (negation l) ≡ b → (s : Bool) → is_same_literal m l ≡ s
          → fold (with_literal has) (forces m) (l ∷ ls)
          ≡ cond (list_all (is_same_literal m) (open_ones (l ∷ ls))) (forces m) idle
      go rest true is s same = rw (is, sym (set.same (negation l)) ∙ is) rest
      go rest false is true same = rw (is, sym (set.same (negation l)) ∙ is, same) rest
      go rest false is false same = rw (is, sym (set.same (negation l)) ∙ is, same) (from_idle ls)

  pub from_false : (ls : List Lit) → fold (with_literal has) falsified ls ≡ finding held ls
  from_false [] = refl
  from_false (l ∷ ls) = go (from_false ls) (has (negation l)) refl (has l) refl
    where
      go : fold (with_literal has) falsified ls ≡ finding held ls
          → (b : Bool) → has (negation l) ≡ b → (s : Bool) → has l ≡ s
          → fold (with_literal has) falsified (l ∷ ls) ≡ finding held (l ∷ ls)
      go rest true is s is_held = rw (is, sym (set.same (negation l)) ∙ is) rest
      go rest false is true is_held =
          let none : is_among held (negation l) ≡ false = sym (set.same (negation l)) ∙ is in
          let there : is_among held l ≡ true = sym (set.same l) ∙ is_held in
          rw (is, is_held, none) (rw there (from_idle ls))
      go rest false is false is_held =
          let none : is_among held (negation l) ≡ false = sym (set.same (negation l)) ∙ is in
          let there : is_among held l ≡ false = sym (set.same l) ∙ is_held in
          rw (is, is_held, none) (rw (there, none) (from_forced l ls))

-- one hint more
abbrev decided : List Lit → List KeptClause → Finding → Course
decided held clauses found =
    elim found [
      | falsified ↦ elim clauses [ [] ↦ ends_false | _ ∷ _ ↦ has_idle_hint ]
      | forces l ↦ course (l ∷ held) clauses
      | idle ↦ has_idle_hint
    ]

behind_false : (held : List Lit) (clauses : List KeptClause)
    → decided held clauses falsified ≡ course_after ends_false held clauses
behind_false held [] = refl
behind_false held (clause ∷ clauses) = refl

pub open_forces : (held literals : List Lit) (l : Lit) (has : Lit → Bool)
    → ((m : Lit) → has m ≡ is_among (l ∷ held) m) → forces l ≡ finding held literals
    → GoesOn stays_open held literals stays_open has
open_forces held literals l has set is = record {
  later = l ∷ held;
  set = record { same = set };
  same = λ level clauses. ap (decided held clauses) (sym is);
}

-- a set with one literal more
pub put_literal : (old new : Lit → Bool) (held : List Lit) (l m : Lit) → IsSetOf held old
    → new m ≡ cond (are_equal l m) true (old m) → new m ≡ is_among (l ∷ held) m
put_literal old new held l m set put =
    put ∙ ap (λ b. cond b true (old m)) (is_same_literal-beq l m)
    ∙ ap (λ b. cond (is_same_literal l m) true b) (set.same m) ∙ either (is_same_literal l m) (is_among held m)
  where
    either : (b c : Bool) → cond b true c ≡ (b || c)
    either true c = refl
    either false c = refl

-- hints so far, and those that are left
pub record IsFollowed (kept : Kept) (first later : Lit → Bool) (state : Course) (left ids : List ℕ) : Type 0 where
  pub go_on : (ls : List Lit) → IsSetOf ls first → (ms : List Lit) × IsSetOf ms later
      × (course_after state ms (clauses_at kept left) ≡ course ls (clauses_at kept ids))

pub follow_start : (kept : Kept) (has : Lit → Bool) (ids : List ℕ) → IsFollowed kept has has stays_open ids ids
follow_start kept has ids = record { go_on = λ ls set. (ls, set, refl) }

pub follow_next : (kept : Kept) (first old new : Lit → Bool) (before after : Course) (id : ℕ) (left ids : List ℕ)
    (literals : List Lit) → IsFollowed kept first old before (id ∷ left) ids → literals ≡ (clause_at kept id).literals
    → ((ls : List Lit) → IsSetOf ls old → GoesOn before ls literals after new)
    → IsFollowed kept first new after left ids
follow_next kept first old new before after id left ids literals h same step = record {
  go_on = λ ls set.
      let was = h.go_on ls set in
      let next = rw same at (step was.0 was.1) in
      (next.later, next.set, sym (next.same (clause_at kept id).level (clauses_at kept left)) ∙ was.2);
}

after_all : (state : Course) (held : List Lit) → course_after state held [] ≡ state
after_all stays_open held = refl
after_all ends_false held = refl
after_all has_idle_hint held = refl

pub followed : (kept : Kept) (first later : Lit → Bool) (state : Course) (ids : List ℕ) (ls : List Lit)
    → IsFollowed kept first later state [] ids → IsSetOf ls first → state ≡ course ls (clauses_at kept ids)
followed kept first later state ids ls h set =
    let was = h.go_on ls set in sym (after_all state was.0) ∙ was.2

-- literals that ascend
abbrev pub rises_all : Option Lit → List Lit → Bool
rises_all None ls = are_ascending ls
rises_all (Some l) ls = are_ascending (l ∷ ls)

pub rises_more : (before : Option Lit) (m : Lit) (ms : List Lit)
    → rises_all before (m ∷ ms) ≡ (rises_to before m && rises_all (Some m) ms)
rises_more None m ms = refl
rises_more (Some l) m ms = refl

pub rises_end : (before : Option Lit) → rises_all before [] ≡ true
rises_end None = refl
rises_end (Some l) = refl

-- levels
pub level_of : (o : Option KeptClause) → unwrap_or (option_map (λ (c : KeptClause). c.level) o) 0 ≡ (clause_of o).level
level_of None = refl
level_of (Some c) = refl

-- the definition, by what is tested
hinted-known : (kept : Kept) (ids : List ℕ)
    → hinted kept ids ≡ cond (list_all (is_known kept) ids) (Some (clauses_at kept ids)) None
hinted-known kept [] = refl
hinted-known kept (id ∷ ids) =
    more (kept_at kept id) (hinted kept ids) (list_all (is_known kept) ids) (clauses_at kept ids)
    (hinted-known kept ids)
  where
    more : (o : Option KeptClause) (rest : Option (List KeptClause)) (b : Bool) (cs : List KeptClause)
        → rest ≡ cond b (Some cs) None
        → (elim o [ None ↦ None | Some clause ↦ option_map (λ clauses. clause ∷ clauses) rest ])
        ≡ cond (is_some o && b) (Some (clause_of o ∷ cs)) None
    more None rest b cs h = refl
    more (Some c) rest true cs h = ap (option_map (λ clauses. c ∷ clauses)) h
    more (Some c) rest false cs h = ap (option_map (λ clauses. c ∷ clauses)) h

module _ (kept : Kept) (clause : List Lit) (ids : List ℕ) where
  abbrev judged : Option (List KeptClause) → Result ℕ Unlearned
  judged hints =
      elim hints [
        | None ↦ Err unknown_hint
        | Some hints ↦ cond (is_repeated kept clause) (Err repeated_clause)
            (level_by (course (map negation clause) hints) clause hints)
      ]

  pub learned-unknown : list_all (is_known kept) ids ≡ false → learned kept clause ids ≡ Err unknown_hint
  learned-unknown none =
      ap judged (hinted-known kept ids ∙ ap (λ b. cond b (Some (clauses_at kept ids)) None) none)

  pub learned-known : list_all (is_known kept) ids ≡ true → learned kept clause ids
      ≡ cond (is_repeated kept clause) (Err repeated_clause)
      (level_by (course (map negation clause) (clauses_at kept ids)) clause (clauses_at kept ids))
  learned-known all =
      ap judged (hinted-known kept ids ∙ ap (λ b. cond b (Some (clauses_at kept ids)) None) all)

  module _ (all : list_all (is_known kept) ids ≡ true) where
    pub learned-repeated : true ≡ is_repeated kept clause → learned kept clause ids ≡ Err repeated_clause
    learned-repeated is =
        learned-known all
        ∙ ap (λ b. cond b (Err repeated_clause)
        (level_by (course (map negation clause) (clauses_at kept ids)) clause (clauses_at kept ids))) (sym is)

    pub learned-course : false ≡ is_repeated kept clause → (state : Course)
        → state ≡ course (map negation clause) (clauses_at kept ids)
        → learned kept clause ids ≡ level_by state clause (clauses_at kept ids)
    learned-course is state same =
        learned-known all
        ∙ ap (λ b. cond b (Err repeated_clause)
        (level_by (course (map negation clause) (clauses_at kept ids)) clause (clauses_at kept ids))) (sym is)
        ∙ ap (λ c. level_by c clause (clauses_at kept ids)) (sym same)

    pub learned-level : false ≡ is_repeated kept clause
        → ends_false ≡ course (map negation clause) (clauses_at kept ids) → true ≡ are_ascending clause → (level : ℕ)
        → level ≡ greatest_level (clauses_at kept ids) → learned kept clause ids ≡ Ok level
    learned-level is same ascending level greatest =
        learned-course is ends_false same
        ∙ ap (λ b. cond b (Ok (greatest_level (clauses_at kept ids))) (Err not_by_hints)) (sym ascending)
        ∙ ap (λ n. Ok n) (sym greatest)

    pub learned-unsorted : false ≡ is_repeated kept clause
        → ends_false ≡ course (map negation clause) (clauses_at kept ids) → false ≡ are_ascending clause
        → learned kept clause ids ≡ Err not_by_hints
    learned-unsorted is same ascending =
        learned-course is ends_false same
        ∙ ap (λ b. cond b (Ok (greatest_level (clauses_at kept ids))) (Err not_by_hints)) (sym ascending)

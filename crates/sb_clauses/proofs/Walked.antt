-- A whole walk over the clauses that watch a literal.
use Rattle.std.proofs.Common.{◌≡◌, ◌≢◌, ℕ, ◌<◌, ◌≤◌, true, false, ltb, List, [], ◌∷◌, length, set, Option, Some, None, refl, sym, ◌∙◌, ap, inl, inr, arith}
use Rattle.std.specs.Option.{MatchOption}
use Rattle.std.proofs.lemmas.Bool.{cases_eq, cases_Bool, false≢true, false_from_ne_true, ltb-true}
use Rattle.std.proofs.lemmas.List.{length-set, get_or-set_same, get_or-set_other}
use Rattle.std.proofs.lemmas.List.Sums.{sum_by-set}
use Rattle.sb_lit.specs.declared.clause.Lit.{Lit}
use Rattle.sb_lit.specs.Clauses.{negation, is_among}
use Rattle.sb_lit.specs.Kept.{Kept}
use Rattle.sb_trail.specs.Assignments.{Assignments, held}
use Rattle.sb_clauses.specs.WatchLists.{WatchLists, times_in, times, IsPoured}
use Rattle.sb_clauses.specs.Propagation.{has_room_for}
use Rattle.sb_clauses.specs.Watching.{list_of, is_short, home, stands, IsPlaced, HasClause, watched_at, IsSide}
use Rattle.sb_clauses.specs.Walking.{Walk, AreFalseOf, IsWalking, IsAway, IsMoved, Advances, AreHeld}
use Rattle.sb_clauses.specs.Settling.{Grown}
use Rattle.sb_lit.proofs.CallerLemmas.{all_among}
use Rattle.sb_clauses.proofs.Growing.{GrowsBy-then}
use Rattle.sb_clauses.proofs.Moving.{list_at}
use Rattle.sb_clauses.proofs.Walking.{grown_by, list_of-positive, stands_self, stands_other}

pub among_before : (old now : List Lit) (l : Lit) → Grown old now → is_among now l ≡ false → is_among old l ≡ false
among_before old now l grown h = false_from_ne_true (is_among old l) (λ is. false≢true (sym h ∙ grown l is))

away_before : (old now : List Lit) (a b other : Lit) → Grown old now → IsAway now a b other
    → IsAway old a b other
away_before old now a b other grown k = record {
  left = among_before old now a grown k.left;
  came = among_before old now (negation b) grown k.came;
  old_long = k.old_long;
  now_long = k.now_long;
}

moved_then : (old now : List Lit) (a b d other : Lit) → Grown old now → IsMoved old a b other
    → IsMoved now b d other → IsMoved old a d other
moved_then old now a b d other grown (inl same) (inl e) = inl (e ∙ same)
moved_then old now a b d other grown (inl same) (inr k) = inr (away_before old now a d other grown (rw same at k))
moved_then old now a b d other grown (inr h) (inl e) = inr (rw e h)
moved_then old now a b d other grown (inr h) (inr k) =
    inr (record {
      left = h.left;
      came = among_before old now (negation d) grown k.came;
      old_long =
          h.old_long;
      now_long = k.now_long;
    })

pub advances_then : (kept : Kept) (other own0 own1 own2 : List ℕ) (all0 all1 all2 : WatchLists)
    (trail0 trail1 trail2 : Assignments)
    → Advances (record { kept = kept; own = own0; other = other; all = all0; trail = trail0 })
    (record { kept = kept; own = own1; other = other; all = all1; trail = trail1 })
    → Advances (record { kept = kept; own = own1; other = other; all = all1; trail = trail1 })
    (record { kept = kept; own = own2; other = other; all = all2; trail = trail2 })
    → Advances (record { kept = kept; own = own0; other = other; all = all0; trail = trail0 })
    (record { kept = kept; own = own2; other = other; all = all2; trail = trail2 })
advances_then kept other own0 own1 own2 all0 all1 all2 trail0 trail1 trail2 h k = record {
  grows = GrowsBy-then kept trail0 trail1 trail2 h.grows k.grows;
  len = k.len ∙ h.len;
  moved = λ id c has. moved_then (held trail0.literals) (held trail1.literals) (watched_at own0 id) (watched_at own1 id)
      (watched_at own2 id) (watched_at other id) (grown_by kept trail0 trail1 h.grows) (h.moved id c has)
      (k.moved id c has);
}

-- a home is a list that is there, and not the scratch list
pub home_positive : (own other : Lit) → 0 < home own other
home_positive own other = elim (cases_Bool (is_short own other)) [
  | inl is ↦ rw is (omega arith)
  | inr is ↦ rw is (omega (arith, list_of-positive own))
]

home_short : (lists : ℕ) (c : List Lit) (own other : Lit) → IsPlaced lists c own other → is_short own other ≡ true
    → home own other < lists
home_short lists c own other h is = rw is h.begun

pub home_inside : (lists : ℕ) (c : List Lit) (own other : Lit) → IsPlaced lists c own other → home own other < lists
home_inside lists [] own other h = home_short lists [] own other h (rw ((h.bare refl).0, (h.bare refl).1) refl)
home_inside lists (x ∷ xs) own other h = elim (cases_Bool (is_short own other)) [
  | inl is ↦ home_short lists (x ∷ xs) own other h is
  | inr is ↦ rw is (ltb-true (list_of own) lists
      (all_among (λ l. ltb (list_of l) lists) (x ∷ xs) own h.listed (h.inside (omega arith)).0))
]

pub walk_begins : (list : ℕ) (w : Walk) → IsSide w.kept w.own w.other w.all
    → has_room_for w.trail.reserved w.kept ≡ true → AreFalseOf list (held w.trail.literals) → 0 < list
    → list < length w.all.lists → IsWalking list w
walk_begins list w h room are_false begun inside =
    let scratch : (id : ℕ) (c : List Lit) → HasClause w.kept id c → times_in id (list_at w.all.lists 0) ≡ 0 =
    λ id c has.
    h.listed id c has 0 ∙ stands_other (home (watched_at w.own id) (watched_at w.other id)) 0
    (λ e. omega (arith, home_positive (watched_at w.own id) (watched_at w.other id), e)) in
    record {
      begun = begun;
      inside = inside;
      own_places = h.own_places;
      other_places = h.other_places;
      nodes = h.nodes;
      placed = h.placed;
      elsewhere = λ id c has l a b. h.listed id c has l;
      here = λ id c has. omega (arith, scratch id c has, h.listed id c has list);
      holds = λ id c has many. absurd (omega (arith, scratch id c has, many));
      fresh = h.fresh;
      are_false = are_false;
      room = room;
    }

pub walk_holds : (list : ℕ) (w : Walk) → IsWalking list w → list_at w.all.lists list ≡ [] → AreHeld list w
walk_holds list w h empty id c has is =
    h.holds id c has (omega (
      arith,
      h.here id c has,
      ap (times_in id) empty,
      ap (λ n. stands n list) is,
      stands_self list,
    ))

-- no clause stands past the lists
pub walk_past : (list : ℕ) (w : Walk) → IsSide w.kept w.own w.other w.all → length w.all.lists ≤ list → AreHeld list w
walk_past list w h past id c has is =
    absurd (omega (
      arith,
      home_inside (length w.all.lists) c (watched_at w.own id) (watched_at w.other id) (h.placed id c has),
      is,
    ))

-- what an answer says where there is none may be less
pub match_weaker : {X : Type 0} (r : Option X) (A B : Type 0) (P : X → Type 0) → (A → B) → MatchOption r A P
    → MatchOption r B P
match_weaker None A B P weaker h = weaker h
match_weaker (Some x) A B P weaker h = h

abbrev pub put_back : List (List ℕ) → ℕ → List (List ℕ)
put_back lists list = set (set lists list (list_at lists 0)) 0 []

-- the lists when the clauses that were looked at are back
pub walk_ends : (list : ℕ) (w : Walk) (all : WatchLists) → IsWalking list w → IsPoured list 0 w.all all
    → IsSide w.kept w.own w.other (record all { lists = put_back all.lists list })
walk_ends list w all h poured =
    let scratch_apart : 0 ≢ list = λ e. omega (arith, h.begun, e) in
    let set_len : length (set all.lists list (list_at all.lists 0)) ≡ length all.lists =
    length-set all.lists list (list_at all.lists 0) in
    let whole_len : length (put_back all.lists list) ≡ length w.all.lists =
    length-set (set all.lists list (list_at all.lists 0)) 0 [] ∙ set_len ∙ poured.len in
    let at_scratch : list_at (put_back all.lists list) 0 ≡ [] =
    get_or-set_same (set all.lists list (list_at all.lists 0)) 0 [] []
    (omega (arith, set_len, poured.len, h.inside)) in
    let at_list : list_at (put_back all.lists list) list ≡ list_at all.lists 0 =
    get_or-set_other (set all.lists list (list_at all.lists 0)) 0 list [] [] (λ e. scratch_apart (sym e))
    ∙ get_or-set_same all.lists list (list_at all.lists 0) [] (omega (arith, poured.len, h.inside)) in
    let at_other : (l : ℕ) → l ≢ 0 → l ≢ list → list_at (put_back all.lists list) l ≡ list_at w.all.lists l = λ l a b.
    get_or-set_other (set all.lists list (list_at all.lists 0)) 0 l [] [] a
    ∙ get_or-set_other all.lists list l (list_at all.lists 0) [] b ∙ poured.others l b a in
    let moved : list_at (set all.lists list (list_at all.lists 0)) 0 ≡ list_at all.lists 0 =
    get_or-set_other all.lists list 0 (list_at all.lists 0) [] scratch_apart in
    let same_times : (q : ℕ) → times q (put_back all.lists list) ≡ times q w.all.lists = λ q.
    omega (
      arith,
      sum_by-set (times_in q) all.lists list (list_at all.lists 0) [] (omega (arith, poured.len, h.inside)),
      sum_by-set (times_in q) (set all.lists list (list_at all.lists 0)) 0 [] []
          (omega (arith, set_len, poured.len, h.inside)),
      ap (times_in q) moved,
      ap (times_in q) poured.empty,
      poured.same_times q,
    ) in
    record {
      own_places = h.own_places;
      other_places = h.other_places;
      nodes = omega (arith, poured.nodes, h.nodes);
      placed = λ id c has. rw whole_len (h.placed id c has);
      listed = λ id c has l. elim (cases_eq l 0) [
        | inl at_0 ↦ rw (at_0, at_scratch)
            (sym (stands_other (home (watched_at w.own id) (watched_at w.other id)) 0
            (λ e. omega (arith, home_positive (watched_at w.own id) (watched_at w.other id), e))))
        | inr off_0 ↦ elim (cases_eq l list) [
          | inl here ↦ rw (here, at_list) (poured.counts id ∙ h.here id c has)
          | inr off ↦ rw (at_other l off_0 off) (h.elsewhere id c has l off_0 off)
        ]
      ];
      fresh = λ id past. same_times id ∙ h.fresh id past;
    }

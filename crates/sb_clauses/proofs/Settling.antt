-- Propagation to its end: what walks keep, and what they give.
use Rattle.std.proofs.Common.{◌≡◌, ℕ, ◌+◌, ◌<◌, Bool, true, false, not, ◌||◌, List, [], ◌∷◌, ◌++◌, length, take, Option, Some, None, refl, sym, ◌∙◌, ap, inl, inr, arith}
use Rattle.std.specs.Option.{MatchOption, IfNone, IfSome, is_some}
use Rattle.std.proofs.lemmas.Bool.{cases_Bool, false≢true, true≢false, or_cases, and_from, not_from_false, false_from_ne_true}
use Rattle.std.proofs.lemmas.List.{length-map, take_more, take-append-le, map-append}
use Rattle.std.proofs.lemmas.List.Folds.{list_any-append}
use Rattle.sb_lit.specs.declared.clause.Lit.{Lit}
use Rattle.sb_lit.specs.Clauses.{negation, is_same_literal, is_among, is_true_under, is_false_under, is_open_under}
use Rattle.sb_lit.specs.Kept.{Kept, KeptClause, kept_at}
use Rattle.sb_trail.specs.declared.assigned.Assigned.{Assigned}
use Rattle.sb_trail.specs.Assignments.{Assignments, held, IsConsistent}
use Rattle.sb_clauses.specs.WatchLists.{WatchLists}
use Rattle.sb_clauses.specs.Looking.{IsHeld}
use Rattle.sb_clauses.specs.Examining.{IsIdle}
use Rattle.sb_clauses.specs.Propagation.{GrowsBy, IsSettled}
use Rattle.sb_clauses.specs.Watching.{list_of, no_literal, is_short, home, IsPlaced, HasClause, watched_at, IsSide, AreWatched, stands}
use Rattle.sb_clauses.specs.Walking.{IsMoved, Advances, AreHeld}
use Rattle.sb_clauses.specs.Settling.{Grown, IsFine, IsFineSide, AreFine, Settles, IsFalseAt}
use Rattle.sb_lit.proofs.CallerLemmas.{is_same_literal-true, is_same_literal-self, negation_twice}
use Rattle.sb_clauses.proofs.Literals.{idle_by_true, idle_by_two, among_at, among_front, some_among}
use Rattle.sb_clauses.proofs.Growing.{GrowsBy-none, GrowsBy-then}
use Rattle.sb_clauses.proofs.Walking.{grown_by, held_more}

-- short one way is short the other way
pub short_back : (a b : Lit) → is_short a b ≡ true → is_short b a ≡ true
short_back a b h =
    let same : a ≡ b = is_same_literal-true a b h in
    rw same (is_same_literal-self b)

pub long_back : (a b : Lit) → is_short a b ≡ false → is_short b a ≡ false
long_back a b h = false_from_ne_true (is_short b a) (λ is. false≢true (sym h ∙ short_back b a is))

fine_own : (walked literals held0 c : List Lit) (a b other : Lit) → Grown walked held0 → IsMoved held0 a b other
    → IsFine walked literals c a other → IsFine walked literals c b other
fine_own walked literals held0 c a b other grown (inl same) fine = rw same fine
fine_own walked literals held0 c a b other grown (inr away) fine = record {
  short = λ is. absurd (false≢true (sym away.now_long ∙ is));
  watched = λ is. absurd (false≢true (sym away.came ∙ grown (negation b) is));
}

fine_other : (walked literals held0 c : List Lit) (a b other : Lit) → Grown literals held0 → IsMoved held0 a b other
    → IsFine walked literals c other a → IsFine walked literals c other b
fine_other walked literals held0 c a b other grown (inl same) fine = rw same fine
fine_other walked literals held0 c a b other grown (inr away) fine = record {
  short = λ is. absurd (false≢true (sym (long_back b other away.now_long) ∙ is));
  watched = λ is. absurd (false≢true (sym away.left ∙ grown a (fine.watched is).holds));
}

fine_grown : (walked literals more c : List Lit) (a b : Lit) → Grown literals more → IsFine walked literals c a b
    → IsFine walked more c a b
fine_grown walked literals more c a b grown fine = record {
  short = λ is. held_more literals more c b grown (fine.short is);
  watched = λ is. held_more literals more c b grown (fine.watched is);
}

-- one more literal whose clauses were walked over
fine_more : (walked literals c : List Lit) (a b : Lit) (l : Lit) → (home a b ≡ list_of l → IsHeld literals c b)
    → IsFine walked literals c a b → IsFine (walked ++ negation l ∷ []) literals c a b
fine_more walked literals c a b l holds fine = record {
  short = fine.short;
  watched = λ is. elim (or_cases (is_false_under walked a)
      (is_same_literal (negation l) (negation a) || false)
      (sym (list_any-append (λ m. is_same_literal m (negation a)) walked (negation l ∷ [])) ∙ is)) [
        | inl before ↦ fine.watched before
        | inr here ↦
            let same : l ≡ a =
            sym (negation_twice l)
            ∙ ap negation
            (is_same_literal-true (negation l) (negation a)
            (drop_false (is_same_literal (negation l) (negation a)) here))
            ∙ negation_twice a in
            elim (cases_Bool (is_short a b)) [
              | inl short ↦ fine.short short
              | inr long ↦ holds (rw (long, same) refl)
            ]
      ];
}
  where
    drop_false : (x : Bool) → (x || false) ≡ true → x ≡ true
    drop_false true h = refl
    drop_false false h = h

module _ (kept : Kept) (other own0 own1 : List ℕ) (all0 all1 : WatchLists) (trail0 trail1 : Assignments)
    (h : Advances (record { kept = kept; own = own0; other = other; all = all0; trail = trail0 })
    (record { kept = kept; own = own1; other = other; all = all1; trail = trail1 })) where
  pub own_stays : (walked literals : List Lit) → Grown walked (held trail0.literals)
      → IsFineSide kept walked literals own0 other → IsFineSide kept walked literals own1 other
  own_stays walked literals grown fine id c has =
      fine_own walked literals (held trail0.literals) c (watched_at own0 id) (watched_at own1 id) (watched_at other id) grown
      (h.moved id c has) (fine id c has)

  pub other_stays : (walked literals : List Lit) → Grown literals (held trail0.literals)
      → IsFineSide kept walked literals other own0 → IsFineSide kept walked literals other own1
  other_stays walked literals grown fine id c has =
      fine_other walked literals (held trail0.literals) c (watched_at own0 id) (watched_at own1 id) (watched_at other id)
      grown (h.moved id c has) (fine id c has)

  pub grown_here : Grown (held trail0.literals) (held trail1.literals)
  grown_here = grown_by kept trail0 trail1 h.grows

  pub own_more : (walked : List Lit) (l : Lit) → Grown walked (held trail0.literals)
      → AreHeld (list_of l) (record { kept = kept; own = own1; other = other; all = all1; trail = trail1 })
      → IsFineSide kept walked (held trail0.literals) own0 other
      → IsFineSide kept (walked ++ negation l ∷ []) (held trail1.literals) own1 other
  own_more walked l grown holds fine id c has =
      fine_more walked (held trail1.literals) c (watched_at own1 id) (watched_at other id) l (holds id c has)
      (fine_grown walked (held trail0.literals) (held trail1.literals) c (watched_at own1 id) (watched_at other id)
      grown_here (own_stays walked (held trail0.literals) grown fine id c has))

  pub other_more : (walked : List Lit) → IsFineSide kept walked (held trail0.literals) other own0
      → IsFineSide kept walked (held trail1.literals) other own1
  other_more walked fine id c has =
      fine_grown walked (held trail0.literals) (held trail1.literals) c (watched_at other id) (watched_at own1 id)
      grown_here (other_stays walked (held trail0.literals) (λ l among. among) fine id c has)

  -- the own places have moved, and the other side watches as before
  other_placed : (lists more : ℕ) (c : List Lit) (a b o : Lit) → IsMoved (held trail0.literals) a b o
      → IsPlaced more c b o → IsPlaced lists c o a → IsPlaced lists c o b
  other_placed lists more c a b o (inl same) new old = rw same old
  other_placed lists more c a b o (inr away) new old = record {
    inside = λ some. ((new.inside some).1, (new.inside some).0);
    bare = λ none. ((new.bare none).1, (new.bare none).0);
    short = λ is. absurd (false≢true (sym (long_back b o away.now_long) ∙ is));
    small = old.small;
    listed = old.listed;
    begun = old.begun;
  }

  other_home : (a b o : Lit) → IsMoved (held trail0.literals) a b o → home o a ≡ home o b
  other_home a b o (inl same) = ap (home o) (sym same)
  other_home a b o (inr away) = rw (long_back a o away.old_long, long_back b o away.now_long) refl

  other_side : (all : WatchLists) → IsSide kept own1 other all1 → IsSide kept other own0 all
      → IsSide kept other own1 all
  other_side all new old = record {
    own_places = old.own_places;
    other_places = new.own_places;
    nodes = old.nodes;
    placed = λ id c has. other_placed (length all.lists) (length all1.lists) c (watched_at own0 id) (watched_at own1 id)
        (watched_at other id) (h.moved id c has) (new.placed id c has) (old.placed id c has);
    listed = λ id c has list. old.listed id c has list
        ∙ ap (λ n. stands n list)
        (other_home (watched_at own0 id) (watched_at own1 id) (watched_at other id) (h.moved id c has));
    fresh = old.fresh;
  }

  pub watched_step : (all : WatchLists) → AreWatched kept own0 all0 other all → IsSide kept own1 other all1
      → AreWatched kept own1 all1 other all
  watched_step all old new = record { at_first = new; at_second = other_side all new old.at_second }

  pub settles_step : Settles kept own0 other own1 other trail0 trail1
  settles_step = record {
    grows = h.grows;
    keeps = λ walked literals a b fine. record {
      at_first = own_stays walked literals a fine.at_first;
      at_second = other_stays walked literals b fine.at_second;
    };
  }

pub watched_back : (kept : Kept) (firsts seconds : List ℕ) (first second : WatchLists)
    → AreWatched kept firsts first seconds second → AreWatched kept seconds second firsts first
watched_back kept firsts seconds first second h = record { at_first = h.at_second; at_second = h.at_first }

fine_back : (kept : Kept) (walked literals : List Lit) (firsts seconds : List ℕ)
    → AreFine kept walked literals firsts seconds → AreFine kept walked literals seconds firsts
fine_back kept walked literals firsts seconds h = record { at_first = h.at_second; at_second = h.at_first }

pub settles_back : (kept : Kept) (f0 s0 f1 s1 : List ℕ) (trail0 trail1 : Assignments)
    → Settles kept f0 s0 f1 s1 trail0 trail1 → Settles kept s0 f0 s1 f1 trail0 trail1
settles_back kept f0 s0 f1 s1 trail0 trail1 h = record {
  grows = h.grows;
  keeps = λ walked literals a b fine. fine_back kept walked literals f1 s1
      (h.keeps walked literals a b (fine_back kept walked literals s0 f0 fine));
}

pub fine_longer : (kept : Kept) (walked literals more : List Lit) (firsts seconds : List ℕ) → Grown literals more
    → AreFine kept walked literals firsts seconds → AreFine kept walked more firsts seconds
fine_longer kept walked literals more firsts seconds grown h = record {
  at_first = λ id c has. fine_grown walked literals more c (watched_at firsts id) (watched_at seconds id) grown
      (h.at_first id c has);
  at_second = λ id c has. fine_grown walked literals more c (watched_at seconds id) (watched_at firsts id) grown
      (h.at_second id c has);
}

pub settles_none : (kept : Kept) (firsts seconds : List ℕ) (trail : Assignments)
    → Settles kept firsts seconds firsts seconds trail trail
settles_none kept firsts seconds trail =
    record { grows = GrowsBy-none kept trail; keeps = λ walked literals a b fine. fine }

pub settles_then : (kept : Kept) (f0 s0 f1 s1 f2 s2 : List ℕ) (trail0 trail1 trail2 : Assignments)
    → Settles kept f0 s0 f1 s1 trail0 trail1 → Settles kept f1 s1 f2 s2 trail1 trail2
    → Settles kept f0 s0 f2 s2 trail0 trail2
settles_then kept f0 s0 f1 s1 f2 s2 trail0 trail1 trail2 h k =
    let grown : Grown (held trail0.literals) (held trail1.literals) = grown_by kept trail0 trail1 h.grows in
    record {
      grows = GrowsBy-then kept trail0 trail1 trail2 h.grows k.grows;
      keeps = λ walked literals a b fine. k.keeps walked literals (λ l among. grown l (a l among))
          (λ l among. grown l (b l among)) (h.keeps walked literals a b fine);
    }

-- a walk at the first places, and then one at the second places
module _ (kept : Kept) (f0 s0 f1 s1 : List ℕ) (a0 a1 b0 b1 : WatchLists) (trail0 trail1 trail2 : Assignments)
    (h : Advances (record { kept = kept; own = f0; other = s0; all = a0; trail = trail0 })
    (record { kept = kept; own = f1; other = s0; all = a1; trail = trail1 }))
    (k : Advances (record { kept = kept; own = s0; other = f1; all = b0; trail = trail1 })
    (record { kept = kept; own = s1; other = f1; all = b1; trail = trail2 })) where
  pub both_settle : Settles kept f0 s0 f1 s1 trail0 trail2
  both_settle =
      settles_then kept f0 s0 f1 s0 f1 s1 trail0 trail1 trail2 (settles_step kept s0 f0 f1 a0 a1 trail0 trail1 h)
      (settles_back kept s0 f1 s1 f1 trail1 trail2 (settles_step kept f1 s0 s1 b0 b1 trail1 trail2 k))

  pub both_watched : AreWatched kept f0 a0 s0 b0 → IsSide kept f1 s0 a1 → IsSide kept s1 f1 b1
      → AreWatched kept f1 a1 s1 b1
  both_watched old new newer =
      watched_back kept s1 f1 b1 a1
      (watched_step kept f1 s0 s1 b0 b1 trail1 trail2 k a1
      (watched_back kept f1 s0 a1 b0 (watched_step kept s0 f0 f1 a0 a1 trail0 trail1 h b0 old new)) newer)

  pub both_fine : (l : Lit) → is_false_under (held trail0.literals) l ≡ true
      → AreHeld (list_of l) (record { kept = kept; own = f1; other = s0; all = a1; trail = trail1 })
      → AreHeld (list_of l) (record { kept = kept; own = s1; other = f1; all = b1; trail = trail2 })
      → (walked : List Lit) → Grown walked (held trail0.literals) → AreFine kept walked (held trail0.literals) f0 s0
      → AreFine kept (walked ++ negation l ∷ []) (held trail2.literals) f1 s1
  both_fine l is_false holds also walked grown fine =
      let grown1 : Grown walked (held trail1.literals) =
      λ m among. grown_here kept s0 f0 f1 a0 a1 trail0 trail1 h m (grown m among) in
      record {
        at_first = other_more kept f1 s0 s1 b0 b1 trail1 trail2 k (walked ++ negation l ∷ [])
            (own_more kept s0 f0 f1 a0 a1 trail0 trail1 h walked l grown holds fine.at_first);
        at_second = own_more kept f1 s0 s1 b0 b1 trail1 trail2 k walked l grown1 also
            (other_more kept s0 f0 f1 a0 a1 trail0 trail1 h walked fine.at_second);
      }

pub if_none : {X : Type 0} (r : Option X) (A : Type 0) (B : X → Type 0) (P : Type 0) → MatchOption r A B → (A → P)
    → IfNone r P
if_none None A B P h give = give h
if_none (Some x) A B P h give = tt

pub at_none : {X : Type 0} (r : Option X) (A : Type 0) (B : X → Type 0) → is_some r ≡ false → MatchOption r A B → A
at_none None A B h is = is
at_none (Some x) A B h is = absurd (true≢false h)

-- the literals of a front are in the list
pub front_grown : (n : ℕ) (ls : List Lit) → Grown (take n ls) ls
front_grown n ls l among = among_front ls n ls l among

pub false_here : (entries : List Assigned) (at : ℕ) (l : Lit) → IsFalseAt entries at l
    → is_false_under (held entries) l ≡ true
false_here entries at l h =
    let within : at < length (held entries) = omega (arith, h.inside, length-map entries (λ (e : Assigned). e.literal))
    in
    ap (is_among (held entries)) h.negated ∙ among_at (held entries) (held entries) at no_literal within

-- the literals that are walked over, with one more
pub front_more : (kept : Kept) (old now : Assignments) (at : ℕ) (l : Lit) → GrowsBy kept old now
    → IsFalseAt old.literals at l → take at (held old.literals) ++ negation l ∷ [] ≡ take (at + 1) (held now.literals)
front_more kept old now at l grows h =
    let f : Assigned → Lit = λ e. e.literal in
    let within : at < length (held old.literals) = omega (arith, h.inside, length-map old.literals f) in
    let same : held now.literals ≡ held old.literals ++ held grows.added =
    ap held grows.literals ∙ map-append f old.literals grows.added in
    rw same (sym (take-append-le (at + 1) (held old.literals) (held grows.added) (omega arith)
    ∙ take_more (held old.literals) at no_literal within
    ∙ ap (λ m. take at (held old.literals) ++ m ∷ []) (sym h.negated)))

-- the watched literals of a clause without literals are the same
pub bare_short : (lists : ℕ) (c : List Lit) (a b : Lit) → IsPlaced lists c a b → c ≡ [] → is_short a b ≡ true
bare_short lists c a b h none = rw ((h.bare none).0, (h.bare none).1) refl

idle_if : (ls : List Lit) → IsConsistent ls → (lists : ℕ) (c : List Lit) (a b : Lit) → IsPlaced lists c a b
    → IsFine ls ls c a b → IsFine ls ls c b a → IsIdle ls c
idle_if ls consistent lists c a b placed fine back =
    let by_held : (l : Lit) → IsHeld ls c l → IsIdle ls c =
    λ l h. idle_by_true ls consistent c l h.inside h.holds in
    elim (cases_Bool (is_short a b)) [
      | inl short ↦ by_held b (fine.short short)
      | inr long ↦ long_idle (nonempty c (bare_short lists c a b placed) long) long by_held
    ]
  where
    nonempty : (c : List Lit) → (c ≡ [] → is_short a b ≡ true) → is_short a b ≡ false → 0 < length c
    nonempty [] short h = absurd (false≢true (sym h ∙ short refl))
    nonempty (x ∷ xs) short h = omega arith

    open_from : (l : Lit) → is_true_under ls l ≡ false → is_false_under ls l ≡ false → is_open_under ls l ≡ true
    open_from l t f = and_from (not (is_true_under ls l)) (not (is_false_under ls l))
        (not_from_false (is_true_under ls l) t) (not_from_false (is_false_under ls l) f)

    long_idle : 0 < length c → is_short a b ≡ false → ((l : Lit) → IsHeld ls c l → IsIdle ls c) → IsIdle ls c
    long_idle some long by_held =
        let inside = placed.inside some in
        elim (cases_Bool (is_false_under ls a)) [
          | inl first_false ↦ by_held b (fine.watched first_false)
          | inr first_not ↦ elim (cases_Bool (is_false_under ls b)) [
            | inl second_false ↦ by_held a (back.watched second_false)
            | inr second_not ↦ elim (cases_Bool (is_true_under ls a)) [
              | inl is ↦ by_held a (record { inside = inside.0; holds = is })
              | inr first_unset ↦ elim (cases_Bool (is_true_under ls b)) [
                | inl is ↦ by_held b (record { inside = inside.1; holds = is })
                | inr second_unset ↦
                    idle_by_two ls c b a inside.1 inside.0
                    (open_from a first_unset first_not)
                    (open_from b second_unset second_not)
                    (λ same. false≢true (sym long ∙ rw same (is_same_literal-self b)))
              ]
            ]
          ]
        ]

pub all_settled : (kept : Kept) (firsts seconds : List ℕ) (first second : WatchLists) (ls : List Lit) → IsConsistent ls
    → AreWatched kept firsts first seconds second → AreFine kept ls ls firsts seconds → IsSettled kept ls
all_settled kept firsts seconds first second ls consistent watched fine =
    let idle : (id : ℕ) (k : KeptClause) → kept_at kept id ≡ Some k → IsIdle ls k.literals = λ id k there.
    let has : HasClause kept id k.literals = record { found = k; there = there; literals = refl } in
    idle_if ls consistent (length first.lists) k.literals (watched_at firsts id) (watched_at seconds id)
    (watched.at_first.placed id k.literals has) (fine.at_first id k.literals has) (fine.at_second id k.literals has)
    in
    record {
      none_false = λ id k there. (idle id k there).no_conflict;
      none_forces = λ id k there. (idle id k there).forces_none;
    }

-- a walk over the short clauses makes a start
pub fine_by_short : (kept : Kept) (own0 own1 other : List ℕ) (all0 all1 : WatchLists) (trail0 trail1 : Assignments)
    → AreHeld 1 (record { kept = kept; own = own1; other = other; all = all1; trail = trail1 })
    → IsSide kept own1 other all1 → AreFine kept [] (held trail1.literals) own1 other
fine_by_short kept own0 own1 other all0 all1 trail0 trail1 holds side =
    let short_held : (id : ℕ) (c : List Lit) → HasClause kept id c
    → is_short (watched_at own1 id) (watched_at other id) ≡ true
    → IsHeld (held trail1.literals) c (watched_at other id) = λ id c has short.
    holds id c has (rw short refl) in
    record {
      at_first = λ id c has. record { short = short_held id c has; watched = λ is. absurd (false≢true is) };
      at_second = λ id c has. record {
        short = λ back.
            let short : is_short (watched_at own1 id) (watched_at other id) ≡ true =
            short_back (watched_at other id) (watched_at own1 id) back in
            let h : IsHeld (held trail1.literals) c (watched_at other id) = short_held id c has short in
            record {
              inside = ((side.placed id c has).inside (some_among c (watched_at other id) h.inside)).0;
              holds = ap (is_true_under (held trail1.literals))
                  (is_same_literal-true (watched_at own1 id) (watched_at other id) short)
                  ∙ h.holds;
            };
        watched = λ is. absurd (false≢true is);
      };
    }

pub none_given : {X : Type 0} (r : Option X) (P : Type 0) → is_some r ≡ false → IfNone r P → P
none_given None P h is = is
none_given (Some x) P h is = absurd (true≢false h)

pub some_given : {X : Type 0} (r : Option X) (P : Type 0) → is_some r ≡ true → IfNone r P
some_given None P is = absurd (false≢true is)
some_given (Some x) P is = tt

pub some_answer : {X : Type 0} (r : Option X) (A P : Type 0) (B : X → Type 0) → is_some r ≡ true → MatchOption r A B
    → MatchOption r P B
some_answer None A P B is h = absurd (false≢true is)
some_answer (Some x) A P B is h = h

pub some_found : {X : Type 0} (r : Option X) (A : Type 0) (B : X → Type 0) → is_some r ≡ true → IfSome r B
    → MatchOption r A B
some_found None A B is h = absurd (false≢true is)
some_found (Some x) A B is h = h

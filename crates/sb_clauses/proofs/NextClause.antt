-- New clauses come to the lists.
use Rattle.std.proofs.Common.{◌≡◌, ℕ, zero, suc, ◌+◌, ◌^◌, ◌<◌, ◌≤◌, true, false, List, [], ◌∷◌, ◌++◌, length, get_or, set, take, Option, Some, None, Result, Ok, Err, refl, sym, ◌∙◌, ap, subst, inl, inr, arith}
use Rattle.std.specs.List.{list_all}
use Rattle.std.specs.Result.{IfOk, OnErr}
use Rattle.std.specs.Option.{option_map}
use Rattle.std.proofs.lemmas.Bool.{false≢true, cases_eq, false_from_ne_true}
use Rattle.std.proofs.lemmas.Option.{none-some}
use Rattle.std.proofs.lemmas.List.{length-map, length-set, length-take-le, length_push, take_more, take-append-le}
use Rattle.sb_lit.specs.declared.clause.Lit.{Lit}
use Rattle.sb_lit.specs.Clauses.{negation, is_same_literal, is_among, is_true_under, is_false_under, is_false_clause, leaves_only}
use Rattle.sb_lit.specs.Kept.{Kept, KeptClause, kept_at}
use Rattle.sb_clauses.specs.declared.record.Record.{Record}
use Rattle.sb_trail.specs.declared.assigned.Assigned.{Assigned}
use Rattle.sb_trail.specs.Assignments.{Assignments, held, current_level}
use Rattle.sb_lit.specs.declared.clause.ClauseId.{ClauseId}
use Rattle.sb_clauses.specs.Propagation.{has_room_for, GrowsBy, IsConflict}
use Rattle.sb_clauses.specs.Records.{clause_of, kept_of}
use Rattle.sb_clauses.specs.WatchLists.{WatchLists}
use Rattle.sb_clauses.specs.Watching.{list_of, literal_of, home, IsPlaced, HasClause, watched_at, IsSide, AreWatched}
use Rattle.sb_clauses.specs.Settling.{Grown, IsFine, IsFineSide, AreFine}
use Rattle.sb_clauses.specs.Adding.{IsRoomier, HasRoom, AreEnough}
use Rattle.sb_clauses.specs.Looking.{IsHeld, IsLeft}
use Rattle.sb_clauses.specs.Marking.{mark_at, held_up_to, AreMarked, IsFront, IsHead, AreReady}
use Rattle.sb_clauses.specs.Waiting.{AreWatchable, HaveRoom, AreOpen, AreLate, IsStaying, AreStored}
use Rattle.sb_lit.proofs.CallerLemmas.{is_same_literal-true, open-not_false, among_push_same}
use Rattle.sb_clauses.proofs.Literals.{leaves_only-parts, some_among}
use Rattle.sb_clauses.proofs.Marked.{ascending_front, below_front, marked_front, marked_push, head_by, head_push, held_push, taken_push}
use Rattle.sb_trail.proofs.CallerLemmas.{level_after-push}
use Rattle.sb_clauses.proofs.Growing.{kept_place, place_of_forced, GrowsBy-none, GrowsBy-push}
use Rattle.sb_clauses.proofs.Moving.{list_at, pushed}
use Rattle.sb_clauses.proofs.Walked.{home_inside}
use Rattle.sb_clauses.proofs.Codes.{watched-set_same, watched-set_other, watched_small}
use Rattle.sb_clauses.proofs.Settling.{front_grown, short_back, long_back}
use Rattle.sb_clauses.proofs.Adding.{clause_below, kept_last, last_clause, earlier_clause, added_watched, both_roomier, enough_wider}

-- an empty place is no clause
none_before : (kept : Kept) (id : ℕ) (c : List Lit) → HasClause (kept ++ None ∷ []) id c → HasClause kept id c
none_before kept id c has =
    elim (cases_eq id (length kept)) [
      | inl last ↦ absurd (none-some has.found (sym (kept_last kept None) ∙ ap (kept_at (kept ++ None ∷ [])) (sym last)
          ∙ has.there))
      | inr apart ↦ earlier_clause kept None id c apart has
    ]

none_side : (kept : Kept) (own other : List ℕ) (all : WatchLists) → length kept < length own
    → length kept < length other
    → length kept < all.nodes → IsSide kept own other all → IsSide (kept ++ None ∷ []) own other all
none_side kept own other all a b n side =
    let more : length (kept ++ None ∷ []) ≡ length kept + 1 = length_push kept None in
    record {
      own_places = omega (arith, more, a);
      other_places = omega (arith, more, b);
      nodes = omega (arith, more, n);
      placed = λ id c has. side.placed id c (none_before kept id c has);
      listed = λ id c has. side.listed id c (none_before kept id c has);
      fresh = λ id past. side.fresh id (omega (arith, more));
    }

none_fine : (kept : Kept) (walked literals : List Lit) (firsts seconds : List ℕ)
    → AreFine kept walked literals firsts seconds → AreFine (kept ++ None ∷ []) walked literals firsts seconds
none_fine kept walked literals firsts seconds h = record {
  at_first = λ id c has. h.at_first id c (none_before kept id c has);
  at_second = λ id c has. h.at_second id c (none_before kept id c has);
}

none_ready : (kept : Kept) (firsts : List ℕ) (first : WatchLists) (seconds : List ℕ) (second : WatchLists)
    (entries : List Assigned) (marks : List ℕ) (level : ℕ)
    → length kept < length firsts → length kept < length seconds → length kept < first.nodes
    → length kept < second.nodes
    → AreReady kept firsts first seconds second entries marks level
    → AreReady (kept ++ None ∷ []) firsts first seconds second entries marks level
none_ready kept firsts first seconds second entries marks level a b m n h = record {
  watched = record {
    at_first = none_side kept firsts seconds first a b m h.watched.at_first;
    at_second = none_side kept seconds firsts second b a n h.watched.at_second;
  };
  ascending = h.ascending;
  below = h.below;
  marked = λ i within. none_fine kept (held_up_to (mark_at marks i) entries) (held_up_to (mark_at marks i) entries)
      firsts seconds (h.marked i within);
}

-- a clause whose two literals are not false is fine
open_fine : (walked literals more c : List Lit) (a b : Lit) → Grown walked literals → AreOpen literals a b
    → IsFine walked more c a b
open_fine walked literals more c a b grown h = record {
  short = λ is. absurd (false≢true (sym h.long ∙ is));
  watched = λ is. absurd (false≢true (sym h.own_open ∙ grown (negation a) is));
}

open_back : (literals : List Lit) (a b : Lit) → AreOpen literals a b → AreOpen literals b a
open_back literals a b h = record { long = long_back a b h.long; own_open = h.other_open; other_open = h.own_open }

-- and one whose first literal is true
held_fine : (walked literals c : List Lit) (a b : Lit) → AreWatchable c a b
    → is_false_under walked a ≡ false → IsHeld literals c a → IsFine walked literals c a b
held_fine walked literals c a b places not_false h = record {
  short = λ is. record {
    inside = (places.inside (some_among c a h.inside)).1;
    holds = ap (is_true_under literals) (sym (is_same_literal-true a b is)) ∙ h.holds;
  };
  watched = λ is. absurd (false≢true (sym not_false ∙ is));
}

held_back : (walked literals c : List Lit) (a b : Lit) → IsHeld literals c a → IsFine walked literals c b a
held_back walked literals c a b h = record { short = λ is. h; watched = λ is. h }

some_side : (kept : Kept) (k : KeptClause) (walked literals : List Lit) (own other : List ℕ) (n : ℕ) (a b : Lit)
    → n ≡ length kept → n < length own → n < length other → IsFine walked literals k.literals a b
    → IsFineSide kept walked literals own other
    → IsFineSide (kept ++ Some k ∷ []) walked literals (set own n (list_of a)) (set other n (list_of b))
some_side kept k walked literals own other n a b is_n own_room other_room new old id c has =
    elim (cases_eq id n) [
      | inl here ↦ rw (
        here,
        last_clause kept k id c (here ∙ is_n) has,
        watched-set_same own n a own_room,
        watched-set_same other n b other_room,
      ) new
      | inr apart ↦ rw (watched-set_other own n id a apart, watched-set_other other n id b apart)
          (old id c (earlier_clause kept (Some k) id c (λ same. apart (same ∙ sym is_n)) has))
    ]

some_fine : (kept : Kept) (k : KeptClause) (walked literals : List Lit) (firsts seconds : List ℕ) (n : ℕ) (a b : Lit)
    → n ≡ length kept → n < length firsts → n < length seconds → IsFine walked literals k.literals a b
    → IsFine walked literals k.literals b a → AreFine kept walked literals firsts seconds
    → AreFine (kept ++ Some k ∷ []) walked literals (set firsts n (list_of a)) (set seconds n (list_of b))
some_fine kept k walked literals firsts seconds n a b is_n f s here there h = record {
  at_first = some_side kept k walked literals firsts seconds n a b is_n f s here h.at_first;
  at_second = some_side kept k walked literals seconds firsts n b a is_n s f there h.at_second;
}

some_marked : (kept : Kept) (k : KeptClause) (entries : List Assigned) (marks firsts seconds : List ℕ) (n : ℕ) (a b : Lit)
    → n ≡ length kept → n < length firsts → n < length seconds → AreLate entries marks a b
    → AreMarked kept entries marks firsts seconds
    → AreMarked (kept ++ Some k ∷ []) entries marks (set firsts n (list_of a)) (set seconds n (list_of b))
some_marked kept k entries marks firsts seconds n a b is_n f s late h i within =
    let ls : List Lit = held_up_to (mark_at marks i) entries in
    some_fine kept k ls ls firsts seconds n a b is_n f s
    (open_fine ls ls ls k.literals a b (λ l among. among) (late i within))
    (open_fine ls ls ls k.literals b a (λ l among. among) (open_back ls a b (late i within))) (h i within)

placed_by : (lists : ℕ) (c : List Lit) (a b : Lit) → AreEnough c lists → AreWatchable c a b → IsPlaced lists c a b
placed_by lists c a b enough h =
    record { inside = h.inside; bare = h.bare; short = h.short; small = enough.small; listed = enough.listed; begun = enough.begun }

places_back : (c : List Lit) (a b : Lit) → AreWatchable c a b → AreWatchable c b a
places_back c a b h = record {
  inside = λ some. ((h.inside some).1, (h.inside some).0);
  bare = λ none. ((h.bare none).1, (h.bare none).0);
  short = λ is. subst (λ l. list_all (λ m. is_same_literal m l) c ≡ true)
      (is_same_literal-true b a is) (h.short (short_back b a is));
}

-- what a step needs
module _ (records : List (Option Record)) (n : ℕ) (place : Option Record) (firsts : List ℕ) (first : WatchLists)
    (seconds : List ℕ) (second : WatchLists) (below : n < length (kept_of records))
    (here : place ≡ get_or records n place)
    (room : HaveRoom (kept_of records) firsts first seconds second) where
  abbrev all_kept : Kept
  all_kept = kept_of records

  in_records : n < length records
  in_records = omega (arith, below, length-map records (option_map clause_of))

  is_n : n ≡ length (take n all_kept)
  is_n = sym (length-take-le n all_kept (omega (arith, below)))

  more : take (n + 1) all_kept ≡ take n all_kept ++ option_map clause_of place ∷ []
  more = take_more all_kept n None below
      ∙ ap (λ o. take n all_kept ++ o ∷ []) (kept_place all_kept records records n place refl refl in_records here).1

  pub next_none : (entries : List Assigned) (marks : List ℕ) (level : ℕ) → place ≡ None
      → AreReady (take n all_kept) firsts first seconds second entries marks level
      → AreReady (take (n + 1) all_kept) firsts first seconds second entries marks level
  next_none entries marks level none h =
      rw (more, none) (none_ready (take n all_kept) firsts first seconds second entries marks level
      (omega (arith, is_n, room.first_places)) (omega (arith, is_n, room.second_places))
      (omega (arith, is_n, room.first_nodes)) (omega (arith, is_n, room.second_nodes)) h)

  pub head_none : (entries : List Assigned) → place ≡ None → (head : ℕ)
      → IsHead (take n all_kept) entries firsts seconds head → IsHead (take (n + 1) all_kept) entries firsts seconds head
  head_none entries none head h = rw (more, none) (record {
    inside = h.inside;
    fine = none_fine (take n all_kept) (take head (held entries)) (held entries) firsts seconds h.fine;
  })

  module _ (r : Record) (c : List Lit) (is : place ≡ Some r) (same : c ≡ r.literals.items) (a b : Lit)
      (places : AreWatchable c a b) where
    there_of : kept_at all_kept n ≡ Some (clause_of r)
    there_of = kept_at_get all_kept n below ∙ (kept_place all_kept records records n place refl refl in_records here).1
        ∙ ap (option_map clause_of) is
      where
        kept_at_get : (ks : Kept) (i : ℕ) → i < length ks → kept_at ks i ≡ get_or ks i None
        kept_at_get [] i within = refl
        kept_at_get (x ∷ xs) zero within = refl
        kept_at_get (x ∷ xs) (suc i) within = kept_at_get xs i (omega arith)

    has : HasClause all_kept n c
    has = record { found = clause_of r; there = there_of; literals = sym same }

    first_placed : IsPlaced (length first.lists) c a b
    first_placed = placed_by (length first.lists) c a b (room.first_lists n c has) places

    second_placed : IsPlaced (length second.lists) c b a
    second_placed = placed_by (length second.lists) c b a (room.second_lists n c has) (places_back c a b places)

    pub first_home : home a b < length first.lists
    first_home = home_inside (length first.lists) c a b first_placed

    pub second_home : home b a < length second.lists
    second_home = home_inside (length second.lists) c b a second_placed

    pub first_small : a.atom < 2 ^ 30
    first_small = watched_small c a b (room.first_lists n c has).small places

    pub second_small : b.atom < 2 ^ 30
    second_small = watched_small c b a (room.first_lists n c has).small (places_back c a b places)

    whole : take (n + 1) all_kept ≡ take n all_kept ++ Some (clause_of r) ∷ []
    whole = more ∙ ap (λ o. take n all_kept ++ option_map clause_of o ∷ []) is

    in_firsts : n < length firsts
    in_firsts = omega (arith, below, room.first_places)

    in_seconds : n < length seconds
    in_seconds = omega (arith, below, room.second_places)

    pub next_some : (entries : List Assigned) (old marks : List ℕ) (level : ℕ) → AreLate entries marks a b
        → IsFront old marks → AreReady (take n all_kept) firsts first seconds second entries old level
        → AreReady (take (n + 1) all_kept) (set firsts n (list_of a)) (record first { lists = pushed first.lists (home a b) n })
        (set seconds n (list_of b)) (record second { lists = pushed second.lists (home b a) n }) entries marks level
    next_some entries old marks level late front h =
        rw whole (record {
          watched = added_watched (take n all_kept) (clause_of r) firsts seconds first second n a b h.watched is_n
              in_firsts in_seconds (omega (arith, below, room.first_nodes)) (omega (arith, below, room.second_nodes))
              (rw same at first_placed) (rw same at second_placed);
          ascending = ascending_front old marks front h.ascending;
          below = below_front old marks level front h.below;
          marked = some_marked (take n all_kept) (clause_of r) entries marks firsts seconds n a b is_n in_firsts
              in_seconds late
              (marked_front (take n all_kept) entries old marks firsts seconds front h.marked);
        })

    -- a head stays one where the clause is fine
    next_head : (entries : List Assigned) (head : ℕ) → IsFine (take head (held entries)) (held entries) c a b
        → IsFine (take head (held entries)) (held entries) c b a → IsHead (take n all_kept) entries firsts seconds head
        → IsHead (take (n + 1) all_kept) entries (set firsts n (list_of a)) (set seconds n (list_of b)) head
    next_head entries head here there h = rw whole (record {
      inside = h.inside;
      fine = some_fine (take n all_kept) (clause_of r) (take head (held entries)) (held entries) firsts seconds n a b
          is_n in_firsts in_seconds (rw same at here) (rw same at there) h.fine;
    })

    pub head_stays : (entries : List Assigned) → IsStaying (held entries) c a b → (head : ℕ)
        → IsHead (take n all_kept) entries firsts seconds head
        → IsHead (take (n + 1) all_kept) entries (set firsts n (list_of a)) (set seconds n (list_of b)) head
    head_stays entries h head is_head =
        let ls : List Lit = held entries in
        let walked : List Lit = take head ls in
        let grown : Grown walked ls = front_grown head ls in
        elim h.stays [
          | inl holds ↦
              let not_false : is_false_under walked a ≡ false =
              false_from_ne_true (is_false_under walked a) (λ is.
              false≢true (sym (h.consistent a holds.holds) ∙ grown (negation a) is)) in
              next_head entries head (held_fine walked ls c a b places not_false holds)
              (held_back walked ls c a b holds) is_head
          | inr unset ↦ next_head entries head (open_fine walked ls ls c a b grown unset)
              (open_fine walked ls ls c b a grown (open_back ls a b unset)) is_head
        ]

    pub head_forced : (entries : List Assigned) (e : Assigned) → IsLeft entries c a e.literal → (head : ℕ)
        → IsHead (take n all_kept) entries firsts seconds head
        → IsHead (take (n + 1) all_kept) (entries ++ e ∷ []) (set firsts n (list_of a)) (set seconds n (list_of b)) head
    head_forced entries e h head is_head =
        let ls : List Lit = held (entries ++ e ∷ []) in
        let walked : List Lit = take head ls in
        let parts = leaves_only-parts (held entries) c e.literal h.forces in
        let unset : is_false_under (held entries) a ≡ false =
        ap (is_false_under (held entries)) (sym h.there) ∙ open-not_false (held entries) e.literal parts.1 in
        let not_false : is_false_under walked a ≡ false =
        false_from_ne_true (is_false_under walked a) (λ is.
        false≢true (sym unset ∙ front_grown head (held entries) (negation a)
        (rw (taken_push entries e head is_head.inside) at is))) in
        let holds : IsHeld ls c a = record {
          inside = h.inside;
          holds = ap (is_true_under ls) (sym h.there)
              ∙ ap (λ (ms : List Lit). is_among ms e.literal) (held_push entries e)
              ∙ among_push_same (held entries) e.literal;
        } in
        next_head (entries ++ e ∷ []) head (held_fine walked ls c a b places not_false holds)
        (held_back walked ls c a b holds) (head_push (take n all_kept) entries e firsts seconds head is_head)

    pub forced_place : (trail : Assignments) (l : Lit) → has_room_for trail.reserved all_kept ≡ true
        → IsLeft trail.literals c a l → l.atom < trail.reserved
    forced_place trail l reserved h =
        place_of_forced all_kept trail.reserved n (clause_of r) reserved (there_of) (held trail.literals) l
        (subst (λ (ls : List Lit). leaves_only (held trail.literals) ls l ≡ true) same h.forces)

    pub forced_grows : (trail : Assignments) (id : ClauseId) (l : Lit) → id.0 ≡ n → IsLeft trail.literals c a l
        → GrowsBy all_kept trail (record trail {
          literals =
              trail.literals
              ++ record { literal = l; level = current_level trail.literals; reason = Some id } ∷ [];
        })
    forced_grows trail id l named h =
        GrowsBy-push all_kept trail trail
        (record { literal = l; level = current_level trail.literals; reason = Some id }) (GrowsBy-none all_kept trail)
        (record {
          id = id;
          reason = refl;
          clause = clause_of r;
          there = ap (kept_at all_kept) named ∙ there_of;
          forces = subst (λ (ls : List Lit). leaves_only (held trail.literals) ls l ≡ true) same h.forces;
          level = refl;
        })

    pub forced_ready : (entries : List Assigned) (e : Assigned) (old marks : List ℕ) → e.level ≡ current_level entries
        → AreLate entries marks a b → IsFront old marks
        → AreReady (take n all_kept) firsts first seconds second entries old (current_level entries)
        → AreReady (take (n + 1) all_kept) (set firsts n (list_of a)) (record first { lists = pushed first.lists (home a b) n })
        (set seconds n (list_of b)) (record second { lists = pushed second.lists (home b a) n }) (entries ++ e ∷ []) marks
        (current_level (entries ++ e ∷ []))
    forced_ready entries e old marks level late front h =
        let now = next_some entries old marks (current_level entries) late front h in
        let same_level : current_level (entries ++ e ∷ []) ≡ current_level entries =
        level_after-push 0 entries e ∙ level in
        rw same_level (record {
          watched = now.watched;
          ascending = now.ascending;
          below = now.below;
          marked = marked_push (take (n + 1) all_kept) entries e marks (set firsts n (list_of a)) (set seconds n (list_of b))
              (λ i within. rw level (now.below i within)) now.marked;
        })

    pub false_here : (literals : List Lit) (id : ClauseId) → id.0 ≡ n → is_false_clause literals c ≡ true
        → IsConflict all_kept literals id.0
    false_here literals id named is = rw named (record {
      clause = clause_of r;
      there = there_of;
      is_false = subst (λ (ls : List Lit). is_false_clause literals ls ≡ true) same is;
    })

    pub next_room : HaveRoom all_kept (set firsts n (list_of a)) (record first { lists = pushed first.lists (home a b) n })
        (set seconds n (list_of b)) (record second { lists = pushed second.lists (home b a) n })
    next_room = record {
      first_places = omega (arith, room.first_places, length-set firsts n (list_of a));
      second_places = omega (arith, room.second_places, length-set seconds n (list_of b));
      first_nodes = room.first_nodes;
      second_nodes = room.second_nodes;
      first_lists = λ id d k. rw (length-set first.lists (home a b) (n ∷ list_at first.lists (home a b)))
          (room.first_lists id d k);
      second_lists = λ id d k. rw (length-set second.lists (home b a) (n ∷ list_at second.lists (home b a)))
          (room.second_lists id d k);
    }

pub room_of : (kept : Kept) (firsts : List ℕ) (first : WatchLists) (seconds : List ℕ) (second : WatchLists)
    → AreWatched kept firsts first seconds second → HaveRoom kept firsts first seconds second
room_of kept firsts first seconds second h =
    let enough : (lists : ℕ) (c : List Lit) (a b : Lit) → IsPlaced lists c a b → AreEnough c lists =
    λ lists c a b p. record { begun = p.begun; small = p.small; listed = p.listed } in
    record {
      first_places = h.at_first.own_places;
      second_places = h.at_second.own_places;
      first_nodes = h.at_first.nodes;
      second_nodes = h.at_second.nodes;
      first_lists = λ id c has. enough (length first.lists) c (watched_at firsts id) (watched_at seconds id)
          (h.at_first.placed id c has);
      second_lists = λ id c has. enough (length second.lists) c (watched_at seconds id) (watched_at firsts id)
          (h.at_second.placed id c has);
    }

roomier_room : (kept : Kept) (f0 f1 s0 s1 : List ℕ) (a0 a1 b0 b1 : WatchLists) → IsRoomier f0 a0 f1 a1
    → IsRoomier s0 b0 s1 b1 → HaveRoom kept f0 a0 s0 b0 → HaveRoom kept f1 a1 s1 b1
roomier_room kept f0 f1 s0 s1 a0 a1 b0 b1 h k room = record {
  first_places = omega (arith, room.first_places, h.more_places);
  second_places = omega (arith, room.second_places, k.more_places);
  first_nodes = omega (arith, room.first_nodes, h.more_nodes);
  second_nodes = omega (arith, room.second_nodes, k.more_nodes);
  first_lists = λ id c has. enough_wider (length a0.lists) (length a1.lists) c h.more_lists (room.first_lists id c has);
  second_lists = λ id c has. enough_wider (length b0.lists) (length b1.lists) c k.more_lists
      (room.second_lists id c has);
}

roomier_fine : (kept : Kept) (f0 f1 s0 s1 : List ℕ) (a0 a1 b0 b1 : WatchLists) (walked literals : List Lit)
    → IsRoomier f0 a0 f1 a1 → IsRoomier s0 b0 s1 b1 → length kept ≤ length f0 → length kept ≤ length s0
    → AreFine kept walked literals f0 s0 → AreFine kept walked literals f1 s1
roomier_fine kept f0 f1 s0 s1 a0 a1 b0 b1 walked literals h k a b fine =
    let first : (id : ℕ) (c : List Lit) → HasClause kept id c → watched_at f1 id ≡ watched_at f0 id =
    λ id c has. ap literal_of (h.same_places id (omega (arith, clause_below kept id c has, a))) in
    let second : (id : ℕ) (c : List Lit) → HasClause kept id c → watched_at s1 id ≡ watched_at s0 id =
    λ id c has. ap literal_of (k.same_places id (omega (arith, clause_below kept id c has, b))) in
    record {
      at_first = λ id c has. rw (first id c has, second id c has) (fine.at_first id c has);
      at_second = λ id c has. rw (first id c has, second id c has) (fine.at_second id c has);
    }

pub roomier_none : (places : List ℕ) (all : WatchLists) → IsRoomier places all places all
roomier_none places all = record {
  more_places = omega arith;
  same_places = λ id below. refl;
  more_nodes = omega arith;
  more_lists = omega arith;
  same_lists = λ list. refl;
  same_times = λ id. refl;
}

-- more room, and nothing else
pub stored_roomier : (kept : Kept) (f0 f1 s0 s1 : List ℕ) (a0 a1 b0 b1 : WatchLists) (entries : List Assigned)
    (marks : List ℕ) (head : Option ℕ) (listed : ℕ) → IsRoomier f0 a0 f1 a1 → IsRoomier s0 b0 s1 b1
    → AreStored kept f0 a0 s0 b0 entries marks head listed → AreStored kept f1 a1 s1 b1 entries marks head listed
stored_roomier kept f0 f1 s0 s1 a0 a1 b0 b1 entries marks head listed h k stored =
    let fine : (walked literals : List Lit) → AreFine (take listed kept) walked literals f0 s0
    → AreFine (take listed kept) walked literals f1 s1 =
    λ walked literals. roomier_fine (take listed kept) f0 f1 s0 s1 a0 a1 b0 b1 walked literals h k
    stored.ready.watched.at_first.own_places stored.ready.watched.at_second.own_places
    in
    record {
      ready = record {
        watched = both_roomier (take listed kept) f0 f1 s0 s1 a0 a1 b0 b1 h k stored.ready.watched;
        ascending = stored.ready.ascending;
        below = stored.ready.below;
        marked = λ i within. fine (held_up_to (mark_at marks i) entries) (held_up_to (mark_at marks i) entries)
            (stored.ready.marked i within);
      };
      begins = head_by head (IsHead (take listed kept) entries f0 s0) (IsHead (take listed kept) entries f1 s1)
          (λ n at. record { inside = at.inside; fine = fine (take n (held entries)) (held entries) at.fine })
          stored.begins;
      room = roomier_room kept f0 f1 s0 s1 a0 a1 b0 b1 h k stored.room;
      within = stored.within;
    }

-- one more clause, not listed
pub stored_more : (kept new : Kept) (k : KeptClause) (c : List Lit) (firsts : List ℕ) (first : WatchLists)
    (seconds : List ℕ) (second : WatchLists) (entries : List Assigned) (marks : List ℕ) (head : Option ℕ)
    (listed n lists : ℕ) → new ≡ kept ++ Some k ∷ [] → k.literals ≡ c → n ≡ length kept → AreEnough c lists
    → HasRoom (n + 1) lists firsts first → HasRoom (n + 1) lists seconds second
    → AreStored kept firsts first seconds second entries marks head listed
    → AreStored new firsts first seconds second entries marks head listed
stored_more kept new k c firsts first seconds second entries marks head listed n lists grown same is_n enough f s stored =
    let one_more : length (kept ++ Some k ∷ []) ≡ n + 1 =
    length_push kept (Some k) ∙ ap (λ m. m + 1) (sym is_n) in
    let last : (id : ℕ) (d : List Lit) → id ≡ length kept → HasClause (kept ++ Some k ∷ []) id d → d ≡ c =
    λ id d here has. last_clause kept k id d here has ∙ same in
    let front : take listed (kept ++ Some k ∷ []) ≡ take listed kept =
    take-append-le listed kept (Some k ∷ []) stored.within in
    rw grown (record {
      ready = rw front stored.ready;
      begins = rw front stored.begins;
      room = record {
        first_places = omega (arith, one_more, f.enough_places);
        second_places = omega (arith, one_more, s.enough_places);
        first_nodes = omega (arith, one_more, f.enough_nodes);
        second_nodes = omega (arith, one_more, s.enough_nodes);
        first_lists = λ id d has. elim (cases_eq id (length kept)) [
          | inl here ↦ rw (last id d here has) (enough_wider lists (length first.lists) c f.enough_lists enough)
          | inr apart ↦ stored.room.first_lists id d (earlier_clause kept (Some k) id d apart has)
        ];
        second_lists = λ id d has. elim (cases_eq id (length kept)) [
          | inl here ↦ rw (last id d here has) (enough_wider lists (length second.lists) c s.enough_lists enough)
          | inr apart ↦ stored.room.second_lists id d (earlier_clause kept (Some k) id d apart has)
        ];
      };
      within = omega (arith, stored.within, length_push kept (Some k));
    })

-- the same, where there may be no room for it
pub stored_either : {E : Type 0} (result : Result ClauseId E) (kept new : Kept) (k : KeptClause) (c : List Lit)
    (firsts : List ℕ) (first : WatchLists) (seconds : List ℕ) (second : WatchLists) (entries : List Assigned)
    (marks : List ℕ) (head : Option ℕ) (listed n lists : ℕ) → IfOk result (λ _. new ≡ kept ++ Some k ∷ [])
    → OnErr result (new ≡ kept) → k.literals ≡ c → n ≡ length kept → AreEnough c lists
    → HasRoom (n + 1) lists firsts first → HasRoom (n + 1) lists seconds second
    → AreStored kept firsts first seconds second entries marks head listed
    → AreStored new firsts first seconds second entries marks head listed
stored_either (Ok id) kept new k c firsts first seconds second entries marks head listed n lists ok err same is_n enough f
    s stored =
    stored_more kept new k c firsts first seconds second entries marks head listed n lists ok same is_n enough f s stored
stored_either (Err e) kept new k c firsts first seconds second entries marks head listed n lists ok err same is_n enough
    f s stored = rw err stored

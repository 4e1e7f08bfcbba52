-- Clauses that are all dropped.
use Rattle.std.proofs.Common.{◌≡◌, ℕ, zero, suc, ◌+◌, ◌<◌, ◌≤◌, List, [], ◌∷◌, ◌++◌, length, set, take, Option, None, refl, sym, ◌∙◌, ap, ap₂, inl, inr, arith}
use Rattle.std.specs.BinaryHeap.{IsHeap}
use Rattle.std.specs.Option.{option_map}
use Rattle.std.proofs.lemmas.Bool.{cases_eq}
use Rattle.std.proofs.lemmas.List.{length-map, length-set, length_push, take-map, map-append}
use Rattle.std.proofs.lemmas.Option.{none-some}
use Rattle.sb_lit.specs.declared.clause.Lit.{Lit}
use Rattle.sb_lit.specs.Kept.{Kept, KeptClause, kept_at, stays_up_to, kept_up_to}
use Rattle.sb_trail.specs.declared.assigned.Assigned.{Assigned}
use Rattle.sb_trail.specs.Assignments.{held, current_level}
use Rattle.sb_clauses.specs.declared.record.Record.{Record}
use Rattle.sb_clauses.specs.Records.{clause_of, kept_of}
use Rattle.sb_clauses.specs.Propagation.{all_dropped}
use Rattle.sb_clauses.specs.WatchLists.{WatchLists}
use Rattle.sb_clauses.specs.Watching.{HasClause, IsSide}
use Rattle.sb_clauses.specs.Settling.{AreFine}
use Rattle.sb_clauses.specs.Marking.{mark_at, held_up_to, IsHead, AreReady}
use Rattle.sb_clauses.specs.Scoped.{scope_order, AreScoped, AreEmptyBefore}
use Rattle.sb_clauses.specs.Sparing.{AreSpared}
use Rattle.sb_clauses.specs.Waiting.{HaveRoom, AreStored}
use Rattle.sb_clauses.proofs.Marked.{head_by}

-- Places that are empty.

none_at : (kept : Kept) (id : ℕ) → kept_at (all_dropped kept) id ≡ None
none_at [] id = refl
none_at (x ∷ xs) zero = refl
none_at (x ∷ xs) (suc id) = none_at xs id

no_clause : (kept : Kept) (id : ℕ) (clause : List Lit) → HasClause (all_dropped kept) id clause → ⊥
no_clause kept id clause has = none-some has.found (sym (none_at kept id) ∙ has.there)

stays_none : (level : ℕ) (kept : Kept) (id : ℕ) → kept_at kept id ≡ None → kept_at (kept_up_to level kept) id ≡ None
stays_none level [] id h = h
stays_none level (x ∷ xs) zero h = ap (stays_up_to level) h
stays_none level (x ∷ xs) (suc id) h = stays_none level xs id h

push_none : (kept : Kept) (x : Option KeptClause) (id : ℕ) → id < length kept → kept_at kept id ≡ None
    → kept_at (kept ++ x ∷ []) id ≡ None
push_none [] x id inside h = absurd (omega (arith, inside))
push_none (k ∷ ks) x zero inside h = h
push_none (k ∷ ks) x (suc id) inside h = push_none ks x id (omega (arith, inside)) h

set_here : (kept : Kept) (number : ℕ) → kept_at (set kept number None) number ≡ None
set_here [] number = refl
set_here (x ∷ xs) zero = refl
set_here (x ∷ xs) (suc number) = set_here xs number

set_none : (kept : Kept) (number id : ℕ) → kept_at kept id ≡ None → kept_at (set kept number None) id ≡ None
set_none [] number id h = h
set_none (x ∷ xs) zero zero h = refl
set_none (x ∷ xs) zero (suc id) h = h
set_none (x ∷ xs) (suc number) zero h = h
set_none (x ∷ xs) (suc number) (suc id) h = set_none xs number id h

-- a record more
pub empty_more : (place : ℕ) (records : List (Option Record)) (r : Option Record)
    → AreEmptyBefore place (kept_of records) → AreEmptyBefore place (kept_of (records ++ r ∷ []))
empty_more place records r h =
    rw (map-append (option_map clause_of) records (r ∷ []))
    (record {
      inside = omega (arith, h.inside, length_push (kept_of records) (option_map clause_of r));
      empty = λ id below.
          push_none (kept_of records) (option_map clause_of r) id (omega (arith, below, h.inside)) (h.empty id below);
    })

-- clauses above a level that go
pub empty_fewer : (place level : ℕ) (kept new : Kept) → new ≡ kept_up_to level kept → AreEmptyBefore place kept
    → AreEmptyBefore place new
empty_fewer place level kept new is h = rw is (record {
  inside = omega (arith, h.inside, length-map kept (stays_up_to level));
  empty = λ id below. stays_none level kept id (h.empty id below);
})

-- one place more that is emptied
pub empty_one : (place : ℕ) (kept new : Kept) → place < length kept → new ≡ set kept place None
    → AreEmptyBefore place kept → AreEmptyBefore (place + 1) new
empty_one place kept new inside is h = rw is (record {
  inside = omega (arith, inside, length-set kept place None);
  empty = λ id below. elim (cases_eq id place) [
    | inl here ↦ rw here (set_here kept place)
    | inr other ↦ set_none kept place id (h.empty id (omega (arith, below, other)))
  ];
})

all_none : (old kept : Kept) → length kept ≡ length old → ((id : ℕ) → id < length kept → kept_at kept id ≡ None)
    → kept ≡ all_dropped old
all_none [] [] same h = refl
all_none [] (x ∷ xs) same h = absurd (omega (arith, same))
all_none (o ∷ os) [] same h = absurd (omega (arith, same))
all_none (o ∷ os) (x ∷ xs) same h =
    ap₂ (λ (y : Option KeptClause) (ys : Kept). y ∷ ys) (h 0 (omega arith))
    (all_none os xs (omega (arith, same)) (λ id below. h (suc id) (omega (arith, below))))

-- in the end
pub empty_all : (place : ℕ) (old kept : Kept) → length kept ≡ length old → length kept ≤ place → AreEmptyBefore place kept
    → kept ≡ all_dropped old
empty_all place old kept same past h =
    all_none old kept same (λ id below. h.empty id (omega (arith, below, past)))

pub empty_whole : (place : ℕ) (old new : Kept) → place ≡ length new → new ≡ all_dropped old → AreEmptyBefore place new
empty_whole place old new whole is = record {
  inside = omega (arith, whole);
  empty = λ id below. ap (λ (kept : Kept). kept_at kept id) is ∙ none_at old id;
}

-- What is kept beside the clauses.

pub scoped_none : (kept new : Kept) (scoped : List (ℕ × ℕ)) → IsHeap scope_order scoped → new ≡ all_dropped kept
    → AreScoped new scoped
scoped_none kept new scoped ordered is = rw is (record {
  ordered = ordered;
  all = λ id clause there scope. absurd (none-some clause (sym (none_at kept id) ∙ there));
})

side_none : (kept : Kept) (own other : List ℕ) (all : WatchLists) → IsSide kept own other all
    → IsSide (all_dropped kept) own other all
side_none kept own other all h =
    let same : length (all_dropped kept) ≡ length kept = length-map {B = Option KeptClause} kept (λ (clause : Option KeptClause). None) in
    record {
      own_places = omega (arith, same, h.own_places);
      other_places = omega (arith, same, h.other_places);
      nodes = omega (arith, same, h.nodes);
      placed = λ id c has. absurd (no_clause kept id c has);
      listed = λ id c has. absurd (no_clause kept id c has);
      fresh = λ id past. h.fresh id (omega (arith, same));
    }

fine_none : (kept : Kept) (walked literals : List Lit) (firsts seconds : List ℕ)
    → AreFine (all_dropped kept) walked literals firsts seconds
fine_none kept walked literals firsts seconds = record {
  at_first = λ id c has. absurd (no_clause kept id c has);
  at_second = λ id c has. absurd (no_clause kept id c has);
}

ready_none : (kept : Kept) (firsts : List ℕ) (first : WatchLists) (seconds : List ℕ) (second : WatchLists)
    (entries : List Assigned) (marks : List ℕ) (bound : ℕ)
    → AreReady kept firsts first seconds second entries marks bound
    → AreReady (all_dropped kept) firsts first seconds second entries marks bound
ready_none kept firsts first seconds second entries marks bound h = record {
  watched = record {
    at_first = side_none kept firsts seconds first h.watched.at_first;
    at_second = side_none kept seconds firsts second h.watched.at_second;
  };
  ascending = h.ascending;
  below = h.below;
  marked = λ i within. fine_none kept (held_up_to (mark_at marks i) entries)
      (held_up_to (mark_at marks i) entries) firsts seconds;
}

room_none : (kept : Kept) (firsts : List ℕ) (first : WatchLists) (seconds : List ℕ) (second : WatchLists)
    → HaveRoom kept firsts first seconds second → HaveRoom (all_dropped kept) firsts first seconds second
room_none kept firsts first seconds second h =
    let same : length (all_dropped kept) ≡ length kept = length-map {B = Option KeptClause} kept (λ (clause : Option KeptClause). None) in
    record {
      first_places = omega (arith, same, h.first_places);
      second_places = omega (arith, same, h.second_places);
      first_nodes = omega (arith, same, h.first_nodes);
      second_nodes = omega (arith, same, h.second_nodes);
      first_lists = λ id c has. absurd (no_clause kept id c has);
      second_lists = λ id c has. absurd (no_clause kept id c has);
    }

pub stored_none : (kept : Kept) (firsts : List ℕ) (first : WatchLists) (seconds : List ℕ) (second : WatchLists)
    (entries : List Assigned) (marks : List ℕ) (head : Option ℕ) (listed : ℕ)
    → AreStored kept firsts first seconds second entries marks head listed
    → AreStored (all_dropped kept) firsts first seconds second entries marks head listed
stored_none kept firsts first seconds second entries marks head listed h =
    let front : take listed (all_dropped kept) ≡ all_dropped (take listed kept) =
    take-map (λ (clause : Option KeptClause). None) listed kept in
    record {
      ready = rw front
          (ready_none (take listed kept) firsts first seconds second entries marks (current_level entries + 1) h.ready);
      begins = rw front (head_by head (IsHead (take listed kept) entries firsts seconds)
          (IsHead (all_dropped (take listed kept)) entries firsts seconds) (λ n at. record {
            inside = at.inside;
            fine = fine_none (take listed kept) (take n (held entries)) (held entries) firsts seconds;
          }) h.begins);
      room = room_none kept firsts first seconds second h.room;
      within = omega (arith, h.within, length-map {B = Option KeptClause} kept (λ (clause : Option KeptClause). None));
    }

pub spared_none : (kept : Kept) (spares : List ℕ) → AreSpared kept spares → AreSpared (all_dropped kept) spares
spared_none kept spares h = record {
  among = λ id c has begun. absurd (no_clause kept id c has);
  past = λ id past. h.past id (omega (arith, past, length-map {B = Option KeptClause} kept (λ (clause : Option KeptClause). None)));
}

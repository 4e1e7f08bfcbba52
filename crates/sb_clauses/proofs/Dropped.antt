-- What holds of the clauses holds of those that stay where some are dropped.
use Rattle.std.proofs.Common.{◌≡◌, ℕ, zero, suc, ◌+◌, Bool, true, false, List, [], ◌∷◌, length, take, Option, Some, refl, arith}
use Rattle.std.proofs.lemmas.List.{length-map, take-map}
use Rattle.std.proofs.lemmas.Option.{none-some}
use Rattle.sb_lit.specs.declared.clause.Lit.{Lit}
use Rattle.sb_lit.specs.Kept.{Kept, KeptClause, kept_at, is_above, stays_up_to, kept_up_to}
use Rattle.sb_clauses.specs.WatchLists.{WatchLists}
use Rattle.sb_clauses.specs.Watching.{HasClause, IsSide, AreWatched}
use Rattle.sb_trail.specs.declared.assigned.Assigned.{Assigned}
use Rattle.sb_trail.specs.Assignments.{held, current_level}
use Rattle.sb_clauses.specs.Settling.{AreFine}
use Rattle.sb_clauses.specs.Marking.{mark_at, held_up_to, IsHead, AreReady}
use Rattle.sb_clauses.proofs.Marked.{head_by}
use Rattle.sb_clauses.specs.Waiting.{HaveRoom, AreStored}

-- a clause that stays was there before
stays_there : (level : ℕ) (place : Option KeptClause) (found : KeptClause) → stays_up_to level place ≡ Some found
    → place ≡ Some found
stays_there level place found h = go (is_above place level) refl
  where
    go : (b : Bool) → is_above place level ≡ b → place ≡ Some found
    go true is = absurd (none-some found (rw is at h))
    go false is = rw is at h

kept_before : (level : ℕ) (kept : Kept) (id : ℕ) (found : KeptClause) → kept_at (kept_up_to level kept) id ≡ Some found
    → kept_at kept id ≡ Some found
kept_before level [] id found h = h
kept_before level (x ∷ xs) zero found h = stays_there level x found h
kept_before level (x ∷ xs) (suc id) found h = kept_before level xs id found h

pub has_before : (level : ℕ) (kept : Kept) (id : ℕ) (clause : List Lit) → HasClause (kept_up_to level kept) id clause
    → HasClause kept id clause
has_before level kept id clause h =
    record { found = h.found; there = kept_before level kept id h.found h.there; literals = h.literals }

dropped_side : (level : ℕ) (kept : Kept) (own other : List ℕ) (all : WatchLists) → IsSide kept own other all
    → IsSide (kept_up_to level kept) own other all
dropped_side level kept own other all h =
    let same : length (kept_up_to level kept) ≡ length kept = length-map kept (stays_up_to level) in
    record {
      own_places = omega (arith, same, h.own_places);
      other_places = omega (arith, same, h.other_places);
      nodes = omega (arith, same, h.nodes);
      placed = λ id c has. h.placed id c (has_before level kept id c has);
      listed = λ id c has. h.listed id c (has_before level kept id c has);
      fresh = λ id past. h.fresh id (omega (arith, same));
    }

dropped_watched : (level : ℕ) (kept : Kept) (firsts : List ℕ) (first : WatchLists) (seconds : List ℕ)
    (second : WatchLists)
    → AreWatched kept firsts first seconds second → AreWatched (kept_up_to level kept) firsts first seconds second
dropped_watched level kept firsts first seconds second h = record {
  at_first = dropped_side level kept firsts seconds first h.at_first;
  at_second = dropped_side level kept seconds firsts second h.at_second;
}

dropped_fine : (level : ℕ) (kept : Kept) (walked literals : List Lit) (firsts seconds : List ℕ)
    → AreFine kept walked literals firsts seconds → AreFine (kept_up_to level kept) walked literals firsts seconds
dropped_fine level kept walked literals firsts seconds h = record {
  at_first = λ id c has. h.at_first id c (has_before level kept id c has);
  at_second = λ id c has. h.at_second id c (has_before level kept id c has);
}

dropped_ready : (level : ℕ) (kept : Kept) (firsts : List ℕ) (first : WatchLists) (seconds : List ℕ)
    (second : WatchLists) (entries : List Assigned) (marks : List ℕ) (bound : ℕ)
    → AreReady kept firsts first seconds second entries marks bound
    → AreReady (kept_up_to level kept) firsts first seconds second entries marks bound
dropped_ready level kept firsts first seconds second entries marks bound h = record {
  watched = dropped_watched level kept firsts first seconds second h.watched;
  ascending = h.ascending;
  below = h.below;
  marked = λ i within. dropped_fine level kept (held_up_to (mark_at marks i) entries)
      (held_up_to (mark_at marks i) entries) firsts seconds (h.marked i within);
}

dropped_room : (level : ℕ) (kept : Kept) (firsts : List ℕ) (first : WatchLists) (seconds : List ℕ) (second : WatchLists)
    → HaveRoom kept firsts first seconds second → HaveRoom (kept_up_to level kept) firsts first seconds second
dropped_room level kept firsts first seconds second h =
    let same : length (kept_up_to level kept) ≡ length kept = length-map kept (stays_up_to level) in
    record {
      first_places = omega (arith, same, h.first_places);
      second_places = omega (arith, same, h.second_places);
      first_nodes = omega (arith, same, h.first_nodes);
      second_nodes = omega (arith, same, h.second_nodes);
      first_lists = λ id c has. h.first_lists id c (has_before level kept id c has);
      second_lists = λ id c has. h.second_lists id c (has_before level kept id c has);
    }

pub dropped_stored : (level : ℕ) (kept : Kept) (firsts : List ℕ) (first : WatchLists) (seconds : List ℕ)
    (second : WatchLists) (entries : List Assigned) (marks : List ℕ) (head : Option ℕ) (listed : ℕ)
    → AreStored kept firsts first seconds second entries marks head listed
    → AreStored (kept_up_to level kept) firsts first seconds second entries marks head listed
dropped_stored level kept firsts first seconds second entries marks head listed h =
    let front : take listed (kept_up_to level kept) ≡ kept_up_to level (take listed kept) =
    take-map (stays_up_to level) listed kept in
    record {
      ready = rw front
          (dropped_ready level (take listed kept) firsts first seconds second entries marks (current_level entries + 1)
          h.ready);
      begins = rw front (head_by head (IsHead (take listed kept) entries firsts seconds)
          (IsHead (kept_up_to level (take listed kept)) entries firsts seconds) (λ n at. record {
            inside = at.inside;
            fine = dropped_fine level (take listed kept) (take n (held entries)) (held entries) firsts seconds at.fine;
          }) h.begins);
      room = dropped_room level kept firsts first seconds second h.room;
      within = omega (arith, h.within, length-map kept (stays_up_to level));
    }

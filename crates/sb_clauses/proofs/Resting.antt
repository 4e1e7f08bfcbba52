-- What is kept beside the clauses from one call to the next.
use Rattle.std.proofs.Common.{◌≡◌, ℕ, ◌+◌, ◌<◌, ◌≤◌, List, [], ◌∷◌, ◌++◌, length, get_or, take, Option, Some, None, refl, sym, ◌∙◌, ap, subst, inl, inr, arith}
use Rattle.std.specs.Option.{IfSome}
use Rattle.std.proofs.lemmas.Bool.{cases_lt}
use Rattle.std.proofs.lemmas.List.{length-map, length-append, length_push, take_all, take-append-le, map-append, get_or_append_left}
use Rattle.sb_lit.specs.Kept.{Kept}
use Rattle.sb_trail.specs.declared.assigned.Assigned.{Assigned}
use Rattle.sb_trail.specs.Assignments.{Assignments, held, current_level, up_to, AreLevelled}
use Rattle.sb_clauses.specs.WatchLists.{WatchLists}
use Rattle.sb_clauses.specs.Watching.{AreWatched}
use Rattle.sb_clauses.specs.Settling.{AreFine, Settles}
use Rattle.sb_clauses.specs.Marking.{mark_at, AreAscending, AreBelow, held_up_to, AreMarked, IsFront, AreNoted, IsEndOf, IsHead, AreReady}
use Rattle.sb_clauses.specs.Waiting.{HaveRoom, AreStored}
use Rattle.sb_trail.proofs.CallerLemmas.{level_after-push, up_to-all, up_to-up_to}
use Rattle.sb_clauses.proofs.Walking.{grown_by}
use Rattle.sb_clauses.proofs.Settling.{front_grown, fine_longer}
use Rattle.sb_clauses.proofs.NextClause.{room_of}
use Rattle.sb_clauses.proofs.Marked.{ascending_front, marked_front, marked_push, marked_later, level_grown, head_by, head_push, head_at_mark}

below_weaker : (marks : List ℕ) (low high : ℕ) → low ≤ high → AreBelow marks low → AreBelow marks high
below_weaker marks low high le h i within = omega (arith, h i within)

pub ready_forgotten : (kept : Kept) (firsts : List ℕ) (first : WatchLists) (seconds : List ℕ) (second : WatchLists)
    (entries : List Assigned) (old new : List ℕ) (level low : ℕ) → IsFront old new → AreBelow new low
    → AreReady kept firsts first seconds second entries old level
    → AreReady kept firsts first seconds second entries new low
ready_forgotten kept firsts first seconds second entries old new level low front below h = record {
  watched = h.watched;
  ascending = ascending_front old new front h.ascending;
  below = below;
  marked = marked_front kept entries old new firsts seconds front h.marked;
}

pub stored_of : (kept : Kept) (firsts : List ℕ) (first : WatchLists) (seconds : List ℕ) (second : WatchLists)
    (entries : List Assigned) (marks : List ℕ) (head : Option ℕ) (listed : ℕ)
    → AreReady (take listed kept) firsts first seconds second entries marks (current_level entries)
    → IfSome head (IsEndOf marks entries) → HaveRoom kept firsts first seconds second → listed ≤ length kept
    → AreStored kept firsts first seconds second entries marks head listed
stored_of kept firsts first seconds second entries marks head listed h end room within = record {
  ready = record {
    watched = h.watched;
    ascending = h.ascending;
    below = below_weaker marks (current_level entries) (current_level entries + 1) (omega arith) h.below;
    marked = h.marked;
  };
  begins = head_at_mark (take listed kept) entries marks firsts seconds head h.marked end;
  room = room;
  within = within;
}

-- where propagation begins, when all clauses are listed
pub begin_fine : (kept : Kept) (f0 s0 f1 s1 : List ℕ) (old now : List Assigned) (head0 head1 : Option ℕ)
    (listed0 listed1 : ℕ) → head1 ≡ head0 → listed1 ≡ length kept → IfSome head0 (IsHead (take listed0 kept) old f0 s0)
    → ((head : ℕ) → IsHead (take listed0 kept) old f0 s0 head → IsHead (take listed1 kept) now f1 s1 head)
    → IfSome head1 (IsHead kept now f1 s1)
begin_fine kept f0 s0 f1 s1 old now head0 head1 listed0 listed1 same all begins fine =
    let whole : take listed1 kept ≡ kept = take_all listed1 kept (omega (arith, all)) in
    rw same (head_by head0 (IsHead (take listed0 kept) old f0 s0) (IsHead kept now f1 s1)
    (λ n h. rw whole at (fine n h)) begins)

pub head_fine : (kept : Kept) (firsts seconds : List ℕ) (entries : List Assigned) (head : Option ℕ)
    → IfSome head (IsHead kept entries firsts seconds)
    → IfSome head (λ start. AreFine kept (take start (held entries)) (held entries) firsts seconds)
head_fine kept firsts seconds entries head h =
    head_by head (IsHead kept entries firsts seconds)
    (λ start. AreFine kept (take start (held entries)) (held entries) firsts seconds) (λ n at. at.fine) h

held_length : (es : List Assigned) → length (held es) ≡ length es
held_length es = length-map es (λ (x : Assigned). x.literal)

-- a head stays one where propagation has moved watches and made the trail longer
head_settled : (kept : Kept) (f0 s0 f1 s1 : List ℕ) (old now : Assignments) (head : ℕ) → Settles kept f0 s0 f1 s1 old now
    → IsHead kept old.literals f0 s0 head → IsHead kept now.literals f1 s1 head
head_settled kept f0 s0 f1 s1 old now head settles h =
    let grows = settles.grows in
    let longer : held now.literals ≡ held old.literals ++ held grows.added =
    ap held grows.literals ∙ map-append (λ (x : Assigned). x.literal) old.literals grows.added in
    let same : take head (held now.literals) ≡ take head (held old.literals) =
    ap (take head) longer
    ∙ take-append-le head (held old.literals) (held grows.added) (omega (arith, h.inside, held_length old.literals)) in
    record {
      inside = omega (
        arith,
        h.inside,
        held_length old.literals,
        held_length now.literals,
        ap length longer,
        length-append (held old.literals) (held grows.added),
      );
      fine = rw same (fine_longer kept (take head (held old.literals)) (held old.literals) (held now.literals) f1 s1
          (grown_by kept old now grows)
          (settles.keeps (take head (held old.literals)) (held old.literals) (front_grown head (held old.literals))
          (λ l among. among) h.fine));
    }

-- a conflict leaves the queue head where it was
pub stored_stopped : (kept : Kept) (f0 s0 f1 s1 : List ℕ) (first second : WatchLists) (old now : Assignments)
    (first0 second0 : WatchLists) (marks : List ℕ) (head : Option ℕ) (listed : ℕ) → listed ≡ length kept
    → AreWatched kept f1 first s1 second
    → AreReady (take listed kept) f0 first0 s0 second0 old.literals marks (current_level old.literals)
    → Settles kept f0 s0 f1 s1 old now → IfSome head (IsHead kept old.literals f0 s0)
    → AreStored kept f1 first s1 second now.literals marks head listed
stored_stopped kept f0 s0 f1 s1 first second old now first0 second0 marks head listed all watched ready settles begins =
    let whole : take listed kept ≡ kept = take_all listed kept (omega (arith, all)) in
    let marked : AreMarked kept old.literals marks f0 s0 =
    subst (λ (k : Kept). AreMarked k old.literals marks f0 s0) whole ready.marked in
    let level : current_level now.literals ≡ current_level old.literals = level_grown kept old now settles.grows in
    record {
      ready = rw (whole, level) (record {
        watched = watched;
        ascending = ready.ascending;
        below = below_weaker marks (current_level old.literals) (current_level old.literals + 1) (omega arith)
            ready.below;
        marked = marked_later kept marks f0 s0 f1 s1 old now ready.below settles marked;
      });
      begins = rw whole (head_by head (IsHead kept old.literals f0 s0) (IsHead kept now.literals f1 s1)
          (λ n h. head_settled kept f0 s0 f1 s1 old now n settles h) begins);
      room = room_of kept f1 first s1 second watched;
      within = omega (arith, all);
    }

-- what is marked and one level more
get_or_last : (xs : List ℕ) (y d : ℕ) → get_or (xs ++ y ∷ []) (length xs) d ≡ y
get_or_last [] y d = refl
get_or_last (x ∷ xs) y d = get_or_last xs y d

record IsMarkedMore (old new : List ℕ) (level i : ℕ) : Type 0 where
  before : i < length old → mark_at new i ≡ mark_at old i
  last : length old ≤ i → mark_at new i ≡ level

marked_more : (old new : List ℕ) (level i : ℕ) → new ≡ old ++ level ∷ [] → i < length new
    → IsMarkedMore old new level i
marked_more old new level i grown within =
    let len : length new ≡ length old + 1 = ap length grown ∙ length_push old level in
    record {
      before = λ below. ap (λ ms. mark_at ms i) grown ∙ get_or_append_left old (level ∷ []) 0 i below;
      last = λ past.
          let here : i ≡ length old = omega (arith, len) in
          ap (λ ms. mark_at ms i) grown ∙ ap (mark_at (old ++ level ∷ [])) here ∙ get_or_last old level 0;
    }

noted_ascending : (old new : List ℕ) (level : ℕ) → AreNoted level old new → AreAscending old → AreBelow old level
    → AreAscending new
noted_ascending old new level (inl same) ascending below i j le within =
    subst AreAscending (sym same) ascending i j le within
noted_ascending old new level (inr grown) ascending below i j le within =
    let len : length new ≡ length old + 1 = ap length grown ∙ length_push old level in
    let a = marked_more old new level i grown (omega arith) in
    let b = marked_more old new level j grown within in
    elim (cases_lt j (length old)) [
      | inl inner ↦ omega (arith, a.before (omega arith), b.before inner, ascending i j le inner)
      | inr last ↦ elim (cases_lt i (length old)) [
        | inl inner ↦ omega (arith, a.before inner, b.last last, below i inner)
        | inr also ↦ omega (arith, a.last also, b.last last)
      ]
    ]

noted_below : (old new : List ℕ) (level : ℕ) → AreNoted level old new → AreBelow old level → AreBelow new (level + 1)
noted_below old new level (inl same) below i within =
    rw same (omega (arith, below i (subst (λ (ms : List ℕ). i < length ms) same within)))
noted_below old new level (inr grown) below i within =
    let a = marked_more old new level i grown within in
    elim (cases_lt i (length old)) [
      | inl inner ↦ omega (arith, a.before inner, below i inner)
      | inr last ↦ omega (arith, a.last last)
    ]

noted_marked : (kept : Kept) (entries : List Assigned) (old new firsts seconds : List ℕ) (level : ℕ)
    → AreNoted level old new → AreMarked kept entries old firsts seconds
    → AreFine kept (held_up_to level entries) (held_up_to level entries) firsts seconds
    → AreMarked kept entries new firsts seconds
noted_marked kept entries old new firsts seconds level (inl same) marked fine i within =
    subst (λ (ms : List ℕ). AreMarked kept entries ms firsts seconds) (sym same) marked i within
noted_marked kept entries old new firsts seconds level (inr grown) marked fine i within =
    let a = marked_more old new level i grown within in
    elim (cases_lt i (length old)) [
      | inl inner ↦ rw (a.before inner) (marked i inner)
      | inr last ↦ rw (a.last last) fine
    ]

-- propagation has come to its end
pub stored_settled : (kept : Kept) (f0 s0 f1 s1 : List ℕ) (first second : WatchLists) (old now : Assignments)
    (first0 second0 : WatchLists) (marks more : List ℕ) (len listed : ℕ) → listed ≡ length kept
    → len ≡ length now.literals
    → AreLevelled 0 now.literals → AreWatched kept f1 first s1 second
    → AreReady (take listed kept) f0 first0 s0 second0 old.literals marks (current_level old.literals)
    → Settles kept f0 s0 f1 s1 old now → AreFine kept (held now.literals) (held now.literals) f1 s1
    → AreNoted (current_level now.literals) marks more
    → AreStored kept f1 first s1 second now.literals more (Some len) listed
stored_settled kept f0 s0 f1 s1 first second old now first0 second0 marks more len listed all is_len levelled watched
    ready settles fine noted =
    let whole : take listed kept ≡ kept = take_all listed kept (omega (arith, all)) in
    let marked : AreMarked kept old.literals marks f0 s0 =
    subst (λ (k : Kept). AreMarked k old.literals marks f0 s0) whole ready.marked in
    let level : current_level now.literals ≡ current_level old.literals = level_grown kept old now settles.grows in
    let low : AreBelow marks (current_level now.literals) = rw level ready.below in
    let every : up_to (current_level now.literals) now.literals ≡ now.literals =
    up_to-all (current_level now.literals) 0 now.literals levelled (omega arith) in
    record {
      ready = rw whole (record {
        watched = watched;
        ascending = noted_ascending marks more (current_level now.literals) noted ready.ascending low;
        below = noted_below marks more (current_level now.literals) noted low;
        marked = noted_marked kept now.literals marks more f1 s1 (current_level now.literals) noted
            (marked_later kept marks f0 s0 f1 s1 old now ready.below settles marked) (rw every fine);
      });
      begins = rw whole (record {
        inside = omega (arith, is_len);
        fine = rw (take_all len (held now.literals) (omega (arith, is_len, held_length now.literals))) fine;
      });
      room = room_of kept f1 first s1 second watched;
      within = omega (arith, all);
    }

-- one more literal on the trail
pub stored_pushed : (kept : Kept) (firsts : List ℕ) (first : WatchLists) (seconds : List ℕ) (second : WatchLists)
    (entries : List Assigned) (e : Assigned) (old marks : List ℕ) (head : Option ℕ) (listed : ℕ) → IsFront old marks
    → AreBelow marks e.level → AreStored kept firsts first seconds second entries old head listed
    → AreStored kept firsts first seconds second (entries ++ e ∷ []) marks head listed
stored_pushed kept firsts first seconds second entries e old marks head listed front below h =
    let level : current_level (entries ++ e ∷ []) ≡ e.level = level_after-push 0 entries e in
    record {
      ready = rw level (record {
        watched = h.ready.watched;
        ascending = ascending_front old marks front h.ready.ascending;
        below = below_weaker marks e.level (e.level + 1) (omega arith) below;
        marked = marked_push (take listed kept) entries e marks firsts seconds below
            (marked_front (take listed kept) entries old marks firsts seconds front h.ready.marked);
      });
      begins = head_by head (IsHead (take listed kept) entries firsts seconds)
          (IsHead (take listed kept) (entries ++ e ∷ []) firsts seconds)
          (λ n at. head_push (take listed kept) entries e firsts seconds n at) h.begins;
      room = h.room;
      within = h.within;
    }

pub front_same : (marks : List ℕ) → IsFront marks marks
front_same marks =
    record { count = length marks; within = omega arith; is_front = sym (take_all (length marks) marks (omega arith)) }

-- the trail has gone back
pub stored_back : (kept : Kept) (firsts : List ℕ) (first : WatchLists) (seconds : List ℕ) (second : WatchLists)
    (entries now : List Assigned) (level : ℕ) (old marks : List ℕ) (before head : Option ℕ) (listed : ℕ)
    → now ≡ up_to level entries
    → IsFront old marks → AreBelow marks (level + 1) → AreBelow marks (current_level now + 1)
    → IfSome head (IsEndOf marks now) → AreStored kept firsts first seconds second entries old before listed
    → AreStored kept firsts first seconds second now marks head listed
stored_back kept firsts first seconds second entries now level old marks before head listed is front low below end h =
    let marked : AreMarked (take listed kept) now marks firsts seconds = λ i within.
    let m : ℕ = mark_at marks i in
    let same : held_up_to m now ≡ held_up_to m entries =
    ap held (ap (up_to m) is ∙ up_to-up_to m level entries (omega (arith, low i within))) in
    rw same (marked_front (take listed kept) entries old marks firsts seconds front h.ready.marked i within) in
    record {
      ready = record {
        watched = h.ready.watched;
        ascending = ascending_front old marks front h.ready.ascending;
        below = below;
        marked = marked;
      };
      begins = head_at_mark (take listed kept) now marks firsts seconds head marked end;
      room = h.room;
      within = h.within;
    }

-- all literals have gone from the trail
pub stored_cleared : (kept : Kept) (firsts : List ℕ) (first : WatchLists) (seconds : List ℕ) (second : WatchLists)
    (entries : List Assigned) (old : List ℕ) (before : Option ℕ) (listed : ℕ)
    → AreStored kept firsts first seconds second entries old before listed
    → AreStored kept firsts first seconds second [] [] None listed
stored_cleared kept firsts first seconds second entries old before listed h = record {
  ready = record {
    watched = h.ready.watched;
    ascending = λ i j le within. absurd (omega (arith, within));
    below = λ i within. absurd (omega (arith, within));
    marked = λ i within. absurd (omega (arith, within));
  };
  begins = tt;
  room = h.room;
  within = h.within;
}

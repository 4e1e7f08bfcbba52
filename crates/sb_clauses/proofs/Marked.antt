-- Marks of levels, and what is on the trail up to them.
use Rattle.std.proofs.Common.{◌≡◌, ℕ, zero, suc, ◌+◌, ◌-◌, ◌<◌, ◌≤◌, Bool, true, false, ◌||◌, leb, List, [], ◌∷◌, ◌++◌, length, get_or, take, Option, Some, None, refl, sym, ◌∙◌, ap, inl, inr, append_assoc, arith}
use Rattle.std.specs.Option.{IfSome}
use Rattle.std.proofs.lemmas.Bool.{or_cases, or_left, or_right}
use Rattle.std.proofs.lemmas.List.{length-map, length-take-le, length_push, take-map, take-take, get_or-take, take_more, take-append-le, map-append, append-nil}
use Rattle.std.proofs.lemmas.List.Folds.{list_any-append}
use Rattle.sb_lit.specs.declared.clause.Lit.{Lit}
use Rattle.sb_lit.specs.Clauses.{is_same_literal, is_among}
use Rattle.sb_lit.specs.Kept.{Kept}
use Rattle.sb_trail.specs.declared.assigned.Assigned.{Assigned}
use Rattle.sb_trail.specs.Assignments.{Assignments, held, level_after, current_level, up_to, AreLevelled}
use Rattle.sb_clauses.specs.Propagation.{AreForced, GrowsBy}
use Rattle.sb_clauses.specs.Watching.{no_literal}
use Rattle.sb_clauses.specs.Settling.{Grown, Settles}
use Rattle.sb_clauses.specs.Marking.{mark_at, AreAscending, AreBelow, held_up_to, AreMarked, IsFront, IsEndOf, IsHead}
use Rattle.sb_trail.proofs.CallerLemmas.{level_after-push, up_to-all, up_to-push_above, AreLevelled-front}
use Rattle.sb_clauses.proofs.Settling.{fine_longer}

-- a front of the marks
pub front_at : (old new : List ℕ) (i : ℕ) → IsFront old new → i < length new
    → (i < length old) × (mark_at new i ≡ mark_at old i)
front_at old new i h within =
    let len : length new ≡ h.count = ap length h.is_front ∙ length-take-le h.count old h.within in
    let inside : i < h.count = omega (arith, len) in
    (omega (arith, h.within), ap (λ ms. mark_at ms i) h.is_front ∙ get_or-take h.count old i 0 inside)

pub ascending_front : (old new : List ℕ) → IsFront old new → AreAscending old → AreAscending new
ascending_front old new h ascending i j le within =
    let b = front_at old new j h within in
    let a = front_at old new i h (omega arith) in
    omega (arith, a.1, b.1, ascending i j le b.0)

pub below_front : (old new : List ℕ) (level : ℕ) → IsFront old new → AreBelow old level → AreBelow new level
below_front old new level h below i within =
    let a = front_at old new i h within in
    omega (arith, a.1, below i a.0)

pub marked_front : (kept : Kept) (entries : List Assigned) (old new firsts seconds : List ℕ) → IsFront old new
    → AreMarked kept entries old firsts seconds → AreMarked kept entries new firsts seconds
marked_front kept entries old new firsts seconds h marked i within =
    let a = front_at old new i h within in
    rw a.1 (marked i a.0)

pub front_then : (a b c : List ℕ) → IsFront a b → IsFront b c → IsFront a c
front_then a b c h k =
    let inner : length b ≡ h.count = ap length h.is_front ∙ length-take-le h.count a h.within in
    record {
      count = k.count;
      within = omega (arith, h.within, k.within, inner);
      is_front = k.is_front ∙ ap (take k.count) h.is_front
          ∙ take-take k.count h.count a (omega (arith, k.within, inner));
    }

pub front_none : (old new : List ℕ) → new ≡ [] → IsFront old new
front_none old new h = record { count = 0; within = omega arith; is_front = h }

-- what is left where higher marks are taken off the end
pub left_below : (marks : List ℕ) (count level : ℕ) → AreAscending marks → count ≤ length marks
    → ((at : ℕ) → count ≡ at + 1 → mark_at marks at ≤ level) → AreBelow (take count marks) (level + 1)
left_below marks count level ascending within ends i inside =
    let len : length (take count marks) ≡ count = length-take-le count marks within in
    let below : i < count = omega (arith, len) in
    omega (
      arith,
      get_or-take count marks i 0 below,
      ascending i (count - 1) (omega arith) (omega arith),
      ends (count - 1) (omega arith),
    )

pub left_front : (marks new : List ℕ) (count : ℕ) → count ≤ length marks → new ≡ take count marks → IsFront marks new
left_front marks new count within same = record { count = count; within = within; is_front = same }

-- what is read past the end of a trail
abbrev pub no_entry : Assigned
no_entry = record { literal = no_literal; level = 0; reason = None }

-- the level of the newest one
level_after_front : (n at : ℕ) (es : List Assigned) → at < length es
    → level_after n (take (suc at) es) ≡ (get_or es at no_entry).level
level_after_front n at [] within = absurd (omega arith)
level_after_front n zero (e ∷ es) within = refl
level_after_front n (suc at) (e ∷ es) within = level_after_front e.level at es (omega arith)

-- the last one of so many entries goes, which is above the level
pub end_less : (level count : ℕ) (es : List Assigned) → 0 < count → count ≤ length es
    → level < (get_or es (count - 1) no_entry).level → up_to level (take count es) ≡ up_to level es
    → up_to level (take (count - 1) es) ≡ up_to level es
end_less level count es some within above h =
    let n : ℕ = count - 1 in
    let e : Assigned = get_or es n no_entry in
    let is_count : n + 1 ≡ count = omega arith in
    sym (up_to-push_above level (take n es) e above)
    ∙ ap (up_to level) (sym (take_more es n no_entry (omega arith)) ∙ ap (λ k. take k es) is_count) ∙ h

-- and the last one stays, which is not
pub end_here : (level count : ℕ) (es : List Assigned) → AreLevelled 0 es → count ≤ length es
    → (0 < count → (get_or es (count - 1) no_entry).level ≤ level) → up_to level (take count es) ≡ up_to level es
    → take count es ≡ up_to level es
end_here level count es levelled within ends h =
    sym (up_to-all level 0 (take count es) (AreLevelled-front 0 count es levelled) (newest count within ends)) ∙ h
  where
    newest : (n : ℕ) → n ≤ length es → (0 < n → (get_or es (n - 1) no_entry).level ≤ level)
        → level_after 0 (take n es) ≤ level
    newest zero inside low = omega arith
    newest (suc n) inside low =
        let is_n : suc n - 1 ≡ n = omega arith in
        omega (arith, level_after_front 0 n es (omega arith), rw is_n at (low (omega arith)))

-- entries of levels up to one, where one more is added above
pub up_to_push : (level : ℕ) (es : List Assigned) (e : Assigned) → level < e.level
    → held_up_to level (es ++ e ∷ []) ≡ held_up_to level es
up_to_push level es e above = ap held (up_to-push_above level es e above)

pub marked_push : (kept : Kept) (es : List Assigned) (e : Assigned) (marks firsts seconds : List ℕ)
    → AreBelow marks e.level
    → AreMarked kept es marks firsts seconds → AreMarked kept (es ++ e ∷ []) marks firsts seconds
marked_push kept es e marks firsts seconds below marked i within =
    rw (up_to_push (mark_at marks i) es e (below i within)) (marked i within)

-- forced entries are of the current level
level_forced : (kept : Kept) (before added : List Assigned) → AreForced kept before added
    → current_level (before ++ added) ≡ current_level before
level_forced kept before [] h = ap current_level (append-nil before)
level_forced kept before (e ∷ es) h =
    ap current_level (sym (append_assoc before (e ∷ []) es))
    ∙ level_forced kept (before ++ e ∷ []) es h.1 ∙ level_after-push 0 before e ∙ h.0.level

up_to_forced : (kept : Kept) (before added : List Assigned) (level : ℕ) → AreForced kept before added
    → level < current_level before → up_to level (before ++ added) ≡ up_to level before
up_to_forced kept before [] level h below = ap (up_to level) (append-nil before)
up_to_forced kept before (e ∷ es) level h below =
    ap (up_to level) (sym (append_assoc before (e ∷ []) es))
    ∙ up_to_forced kept (before ++ e ∷ []) es level h.1 (omega (arith, level_after-push 0 before e, h.0.level))
    ∙ up_to-push_above level before e (omega (arith, h.0.level))

pub level_grown : (kept : Kept) (old now : Assignments) → GrowsBy kept old now
    → current_level now.literals ≡ current_level old.literals
level_grown kept old now h = ap current_level h.literals ∙ level_forced kept old.literals h.added h.forced

pub up_to_grown : (kept : Kept) (old now : Assignments) (level : ℕ) → GrowsBy kept old now
    → level < current_level old.literals → held_up_to level now.literals ≡ held_up_to level old.literals
up_to_grown kept old now level h below =
    ap held (ap (up_to level) h.literals ∙ up_to_forced kept old.literals h.added level h.forced below)

-- what is up to a level is on the trail
up_to_has : (level : ℕ) (es : List Assigned) → Grown (held_up_to level es) (held es)
up_to_has level [] l among = among
up_to_has level (e ∷ es) l among = go (leb e.level level) refl (up_to_has level es l)
  where
    go : (b : Bool) → leb e.level level ≡ b
        → (is_among (held_up_to level es) l ≡ true → is_among (held es) l ≡ true) → is_among (held (e ∷ es)) l ≡ true
    go true is rest =
        elim (or_cases (is_same_literal e.literal l) (is_among (held_up_to level es) l) (rw is at among)) [
          | inl here ↦ or_left (is_same_literal e.literal l) (is_among (held es) l) here
          | inr later ↦ or_right (is_same_literal e.literal l) (is_among (held es) l) (rest later)
        ]
    go false is rest = or_right (is_same_literal e.literal l) (is_among (held es) l) (rest (rw is at among))

pub up_to_in : (level : ℕ) (es : List Assigned) → Grown (held_up_to level es) (held es)
up_to_in = up_to_has

pub marked_later : (kept : Kept) (marks f0 s0 f1 s1 : List ℕ) (old now : Assignments)
    → AreBelow marks (current_level old.literals) → Settles kept f0 s0 f1 s1 old now
    → AreMarked kept old.literals marks f0 s0 → AreMarked kept now.literals marks f1 s1
marked_later kept marks f0 s0 f1 s1 old now below settles h i within =
    let grown : Grown (held_up_to (mark_at marks i) old.literals) (held old.literals) =
    up_to_has (mark_at marks i) old.literals in
    rw (up_to_grown kept old now (mark_at marks i) settles.grows (below i within))
    (settles.keeps (held_up_to (mark_at marks i) old.literals) (held_up_to (mark_at marks i) old.literals) grown grown
    (h i within))

-- the queue head on a trail with one more literal
pub held_push : (es : List Assigned) (e : Assigned) → held (es ++ e ∷ []) ≡ held es ++ e.literal ∷ []
held_push es e = map-append (λ (x : Assigned). x.literal) es (e ∷ [])

held_length : (es : List Assigned) → length (held es) ≡ length es
held_length es = length-map es (λ (x : Assigned). x.literal)

pub taken_push : (es : List Assigned) (e : Assigned) (n : ℕ) → n ≤ length es
    → take n (held (es ++ e ∷ [])) ≡ take n (held es)
taken_push es e n within = ap (take n) (held_push es e)
    ∙ take-append-le n (held es) (e.literal ∷ []) (omega (arith, within, held_length es))

pub head_by : (head : Option ℕ) (P Q : ℕ → Type 0) → ((n : ℕ) → P n → Q n) → IfSome head P → IfSome head Q
head_by None P Q give h = tt
head_by (Some n) P Q give h = give n h

held_grown : (es : List Assigned) (e : Assigned) → Grown (held es) (held (es ++ e ∷ []))
held_grown es e l among =
    ap (λ (ms : List Lit). is_among ms l) (held_push es e)
    ∙ list_any-append (λ m. is_same_literal m l) (held es) (e.literal ∷ [])
    ∙ or_left (is_among (held es) l) (is_same_literal e.literal l || false) among

pub head_push : (kept : Kept) (es : List Assigned) (e : Assigned) (firsts seconds : List ℕ) (head : ℕ)
    → IsHead kept es firsts seconds head → IsHead kept (es ++ e ∷ []) firsts seconds head
head_push kept es e firsts seconds head h = record {
  inside = omega (arith, h.inside, length_push es e);
  fine = rw (taken_push es e head h.inside)
      (fine_longer kept (take head (held es)) (held es) (held (es ++ e ∷ [])) firsts seconds (held_grown es e) h.fine);
}

-- a queue head at the end of a mark
pub head_at_mark : (kept : Kept) (entries : List Assigned) (marks firsts seconds : List ℕ) (found : Option ℕ)
    → AreMarked kept entries marks firsts seconds → IfSome found (IsEndOf marks entries)
    → IfSome found (IsHead kept entries firsts seconds)
head_at_mark kept entries marks firsts seconds found marked h =
    head_by found (IsEndOf marks entries) (IsHead kept entries firsts seconds) (λ n end. record {
      inside = end.within;
      fine =
          let level : ℕ = mark_at marks end.at in
          let same : take n (held entries) ≡ held_up_to level entries =
          take-map (λ (x : Assigned). x.literal) n entries ∙ ap held end.end in
          rw same (fine_longer kept (held_up_to level entries) (held_up_to level entries) (held entries) firsts seconds
          (up_to_in level entries) (marked end.at end.inside));
    }) h

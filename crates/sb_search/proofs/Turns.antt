-- What the moves of a search keep.
use Rattle.sb_search.proofs.Words.{◌≡◌, ◌⊎◌, ℕ, ◌+◌, ◌<◌, ◌≤◌, true, leb, ltb, take, List, [], ◌∷◌, ◌++◌, Some, None, refl, sym, ◌∙◌, ap, subst, inl, inr, arith, cases_Bool, leb-true, ltb-true, ltb-false, false_from_ne_true, append-nil, Lit, ClauseId, is_among, is_false_clause, leaves_only, Kept, KeptClause, Assigned, IsTrail, held, current_level, AreLevelled, up_to, up_to-all, up_to-up_to, State, GrowsBy, has_room_for, are_reserved, AreReasoned, AreAssumed, reasoned_more, below_up_to, decided, are_true, have_places, IsSearching, Widens, IsKept, IsLowest, lt-leb, filter-append, level_behind, level_after-push, IsSettled, IsSettledBelow, level_forced, level_up_to, settled_more, reasoned_grown, reasoned_decided, reasoned_up_to, below_grown, below_decided}
use Rattle.sb_search.proofs.Truths.{true_front, all_true, assumed_append, assumed_up_to, assumed_forced}
use Rattle.sb_search.proofs.Places.{more_places, more_reserved, more_room}

-- propagation
pub searching_grown : (wanted : List ℕ) (assumptions : List Lit) (levels next : ℕ) (old new : State)
    → IsSearching wanted assumptions levels next old → new.kept ≡ old.kept → GrowsBy old.kept old.trail new.trail
    → IsSearching wanted assumptions levels next new
searching_grown wanted assumptions levels next old new h kept grows =
    let same : current_level new.trail.literals ≡ current_level old.trail.literals =
    ap current_level grows.literals ∙ level_forced old.kept old.trail.literals grows.added grows.forced in
    let front : up_to levels new.trail.literals ≡ up_to levels old.trail.literals ++ up_to levels grows.added =
    ap (up_to levels) grows.literals ∙ filter-append (λ x. leb x.level levels) old.trail.literals grows.added in
    record {
      reasoned = subst (λ (k : Kept). AreReasoned k [] new.trail.literals) (sym kept)
          (reasoned_grown old.kept old.trail new.trail h.reasoned grows);
      below = subst (λ (k : Kept). IsSettledBelow k new.trail.literals) (sym kept)
          (below_grown old.kept old.trail new.trail h.below grows);
      room = subst (λ (r : ℕ). has_room_for r new.kept ≡ true) (sym grows.reserved)
          (subst (λ (k : Kept). has_room_for old.trail.reserved k ≡ true) (sym kept) h.room);
      places = subst (λ (r : ℕ). have_places r wanted ≡ true) (sym grows.reserved) h.places;
      assumption_places = subst (λ (r : ℕ). are_reserved r assumptions ≡ true) (sym grows.reserved) h.assumption_places;
      assumed = subst (λ (es : List Assigned). AreAssumed assumptions es) (sym front)
          (assumed_append assumptions (up_to levels old.trail.literals) (up_to levels grows.added) h.assumed
          (assumed_up_to assumptions levels grows.added
          (assumed_forced assumptions old.kept old.trail.literals grows.added grows.forced)));
      given = λ low. subst (λ (es : List Assigned). are_true (held es) assumptions ≡ true) (sym front)
          (all_true (held (up_to levels old.trail.literals))
          (held (up_to levels old.trail.literals ++ up_to levels grows.added)) assumptions
          (true_front (up_to levels old.trail.literals) (up_to levels grows.added))
          (h.given (omega (arith, low, same))));
      first = λ high. subst (λ (es : List Assigned). are_true (held es) (take next assumptions) ≡ true)
          (sym grows.literals)
          (all_true (held old.trail.literals) (held (old.trail.literals ++ grows.added)) (take next assumptions)
          (true_front old.trail.literals grows.added) (h.first (omega (arith, high, same))));
    }

level_decided : (es : List Assigned) (l : Lit) → current_level (decided es l) ≡ current_level es + 1
level_decided es l = level_after-push 0 es (record { literal = l; level = current_level es + 1; reason = None })

-- an assumption is decided
pub searching_assumed : (wanted : List ℕ) (assumptions : List Lit) (levels next now : ℕ) (old : State) (l : Lit)
    → IsTrail old.trail → IsSettled old.kept (held old.trail.literals)
    → now ≡ current_level (decided old.trail.literals l) → IsSearching wanted assumptions levels next old → is_among assumptions l ≡ true
    → current_level old.trail.literals ≤ levels
    → IsSearching wanted assumptions now next
    (record old { trail = record old.trail { literals = decided old.trail.literals l } })
searching_assumed wanted assumptions levels next now old l is_trail settled is_now h among le =
    let e : Assigned = record { literal = l; level = current_level old.trail.literals + 1; reason = None } in
    let whole : AreAssumed assumptions old.trail.literals =
    subst (λ (es : List Assigned). AreAssumed assumptions es)
    (up_to-all levels 0 old.trail.literals is_trail.levelled le) h.assumed in
    record {
      reasoned = reasoned_decided old.kept old.trail.literals e h.reasoned refl;
      below = below_decided old.kept old.trail (decided old.trail.literals l) e is_trail h.below settled refl refl;
      room = h.room;
      places = h.places;
      assumption_places = h.assumption_places;
      assumed = assumed_up_to assumptions now (decided old.trail.literals l)
          (assumed_append assumptions old.trail.literals (e ∷ []) whole ((λ _. among), tt));
      given = λ low. absurd (omega (arith, low, is_now));
      first = λ _. all_true (held old.trail.literals) (held (decided old.trail.literals l)) (take next assumptions)
          (true_front old.trail.literals (e ∷ [])) (h.first le);
    }

-- another literal is decided
pub searching_free : (wanted : List ℕ) (assumptions : List Lit) (levels next now : ℕ) (old : State) (l : Lit)
    → IsTrail old.trail → IsSettled old.kept (held old.trail.literals) → now ≤ levels
    → now ≤ current_level old.trail.literals → (now < current_level old.trail.literals → now ≡ levels)
    → IsSearching wanted assumptions levels next old → are_true (held old.trail.literals) assumptions ≡ true
    → IsSearching wanted assumptions now next
    (record old { trail = record old.trail { literals = decided old.trail.literals l } })
searching_free wanted assumptions levels next now old l is_trail settled low at is_same h given =
    let e : Assigned = record { literal = l; level = current_level old.trail.literals + 1; reason = None } in
    let none : up_to now (e ∷ []) ≡ [] = rw (lt-leb e.level now (omega (arith, at))) refl in
    let front : up_to now (decided old.trail.literals l) ≡ up_to now old.trail.literals =
    filter-append (λ x. leb x.level now) old.trail.literals (e ∷ [])
    ∙ ap (λ (es : List Assigned). up_to now old.trail.literals ++ es) none
    ∙ append-nil (up_to now old.trail.literals) in
    let lower : AreAssumed assumptions (up_to now old.trail.literals) =
    subst (λ (es : List Assigned). AreAssumed assumptions es) (up_to-up_to now levels old.trail.literals low)
    (assumed_up_to assumptions now (up_to levels old.trail.literals) h.assumed) in
    record {
      reasoned = reasoned_decided old.kept old.trail.literals e h.reasoned refl;
      below = below_decided old.kept old.trail (decided old.trail.literals l) e is_trail h.below settled refl refl;
      room = h.room;
      places = h.places;
      assumption_places = h.assumption_places;
      assumed = subst (λ (es : List Assigned). AreAssumed assumptions es) (sym front) lower;
      given = λ _. subst (λ (es : List Assigned). are_true (held es) assumptions ≡ true) (sym front)
          (elim (cases_Bool (ltb now (current_level old.trail.literals))) [
            | inl below ↦
                let under = ltb-true now (current_level old.trail.literals) below in
                let same = is_same under in
                subst (λ (n : ℕ). are_true (held (up_to n old.trail.literals)) assumptions ≡ true) (sym same)
                (h.given (omega (arith, under, same)))
            | inr top ↦
                subst (λ (es : List Assigned). are_true (held es) assumptions ≡ true)
                (sym (up_to-all now 0 old.trail.literals is_trail.levelled
                (omega (arith, ltb-false now (current_level old.trail.literals) top)))) given
          ]);
      first = λ high. absurd (omega (arith, high, level_decided old.trail.literals l, at));
    }

assumed_back : (assumptions : List Lit) (levels level : ℕ) (es : List Assigned)
    → AreAssumed assumptions (up_to levels es) → AreAssumed assumptions (up_to levels (up_to level es))
assumed_back assumptions levels level es h =
    elim (cases_Bool (ltb level levels)) [
      | inl below ↦
          let le : level ≤ levels = omega (arith, ltb-true level levels below) in
          assumed_up_to assumptions levels (up_to level es)
          (subst (λ (xs : List Assigned). AreAssumed assumptions xs) (up_to-up_to level levels es le)
          (assumed_up_to assumptions level (up_to levels es) h))
      | inr above ↦
          subst (λ (xs : List Assigned). AreAssumed assumptions xs)
          (sym (up_to-up_to levels level es (omega (arith, ltb-false level levels above)))) h
    ]

pub below_back : (kept : Kept) (es : List Assigned) (level : ℕ) → AreLevelled 0 es → IsSettledBelow kept es
    → IsSettledBelow kept (up_to level es)
below_back kept es level levelled h =
    elim (cases_Bool (ltb level (current_level es))) [
      | inl under ↦ below_up_to kept es level h (ltb-true level (current_level es) under)
      | inr top ↦ subst (λ (xs : List Assigned). IsSettledBelow kept xs)
          (sym (up_to-all level 0 es levelled (omega (arith, ltb-false level (current_level es) top)))) h
    ]

-- levels are taken back
pub searching_back : (wanted : List ℕ) (assumptions : List Lit) (levels next level : ℕ) (old : State)
    → IsTrail old.trail → IsSearching wanted assumptions levels next old
    → IsSearching wanted assumptions levels 0
    (record old { trail = record old.trail { literals = up_to level old.trail.literals } })
searching_back wanted assumptions levels next level old is_trail h =
    record {
      reasoned = reasoned_up_to old.kept [] old.trail.literals level 0 h.reasoned is_trail.levelled;
      below = below_back old.kept old.trail.literals level is_trail.levelled h.below;
      room = h.room;
      places = h.places;
      assumption_places = h.assumption_places;
      assumed = assumed_back assumptions levels level old.trail.literals h.assumed;
      given = λ low.
          let high : levels < level = omega (arith, low, level_up_to level 0 old.trail.literals (omega arith)) in
          subst (λ (xs : List Assigned). are_true (held xs) assumptions ≡ true)
          (sym (up_to-up_to levels level old.trail.literals (omega (arith, high))))
          (h.given (elim (cases_Bool (ltb level (current_level old.trail.literals))) [
            | inl under ↦ omega (arith, high, ltb-true level (current_level old.trail.literals) under)
            | inr top ↦ subst (λ (xs : List Assigned). levels < current_level xs)
                (up_to-all level 0 old.trail.literals is_trail.levelled
                (omega (arith, ltb-false level (current_level old.trail.literals) top))) low
          ]));
      first = λ _. refl;
    }

-- the trail stays, atoms get places, and other clauses are kept
pub searching_wider : (wanted : List ℕ) (assumptions : List Lit) (levels next : ℕ) (old new : State)
    → new.trail.literals ≡ old.trail.literals → old.trail.reserved ≤ new.trail.reserved
    → has_room_for new.trail.reserved new.kept ≡ true → AreReasoned new.kept [] old.trail.literals
    → IsSettledBelow new.kept old.trail.literals → IsSearching wanted assumptions levels next old
    → IsSearching wanted assumptions levels next new
searching_wider wanted assumptions levels next old new same more room reasoned below h = record {
  reasoned = subst (λ (es : List Assigned). AreReasoned new.kept [] es) (sym same) reasoned;
  below = subst (λ (es : List Assigned). IsSettledBelow new.kept es) (sym same) below;
  room = room;
  places = more_places old.trail.reserved new.trail.reserved wanted more h.places;
  assumption_places = more_reserved old.trail.reserved new.trail.reserved assumptions more h.assumption_places;
  assumed = subst (λ (es : List Assigned). AreAssumed assumptions (up_to levels es)) (sym same) h.assumed;
  given = subst (λ (es : List Assigned). levels < current_level es
      → are_true (held (up_to levels es)) assumptions ≡ true) (sym same) h.given;
  first = subst (λ (es : List Assigned). current_level es ≤ levels
      → are_true (held es) (take next assumptions) ≡ true) (sym same) h.first;
}

-- atoms get places
pub searching_placed : (wanted : List ℕ) (assumptions : List Lit) (levels next : ℕ) (old new : State)
    → Widens old new → IsSearching wanted assumptions levels next old → IsSearching wanted assumptions levels next new
searching_placed wanted assumptions levels next old new w h =
    searching_wider wanted assumptions levels next old new w.literals w.reserved
    (subst (λ (k : Kept). has_room_for new.trail.reserved k ≡ true) (sym w.kept)
    (more_room old.trail.reserved new.trail.reserved old.kept w.reserved h.room))
    (subst (λ (k : Kept). AreReasoned k [] old.trail.literals) (sym w.kept) h.reasoned)
    (subst (λ (k : Kept). IsSettledBelow k old.trail.literals) (sym w.kept) h.below) h

-- a lemma is kept where it is neither false nor leaves a literal on each level below
pub below_lemma : (kept : Kept) (k : KeptClause) (es : List Assigned) (level : ℕ) → IsLowest es k.literals level
    → IsSettledBelow kept (up_to level es) → IsSettledBelow (kept ++ Some k ∷ []) (up_to level es)
below_lemma kept k es level lowest h = λ n low.
    let under : n < level = omega (arith, low, level_up_to level 0 es (omega arith)) in
    let same : up_to n (up_to level es) ≡ up_to n es = up_to-up_to n level es (omega (arith, under)) in
    subst (λ (xs : List Assigned). IsSettled (kept ++ Some k ∷ []) (held xs)) (sym same)
    (settled_more kept k (held (up_to n es))
    (subst (λ (xs : List Assigned). IsSettled kept (held xs)) same (h n low))
    (false_from_ne_true (is_false_clause (held (up_to n es)) k.literals)
    (λ is_false. lowest.none_below n under (inl is_false)))
    (λ l. false_from_ne_true (leaves_only (held (up_to n es)) k.literals l)
    (λ leaves. lowest.none_below n under (inr (l, leaves)))))

-- levels are taken back, and a clause is kept there
pub searching_after : (wanted wanted_now : List ℕ) (assumptions : List Lit) (levels next levels_now next_now level : ℕ)
    (old middle new : State) (k : KeptClause) (id : ClauseId) → IsTrail old.trail
    → middle ≡ record old { trail = record old.trail { literals = up_to level old.trail.literals } }
    → wanted_now ≡ wanted → levels_now ≡ levels → next_now ≡ 0 → IsKept middle new k id
    → IsSearching wanted assumptions levels next old
    → IsSettledBelow (old.kept ++ Some k ∷ []) (up_to level old.trail.literals)
    → IsSearching wanted_now assumptions levels_now next_now new
searching_after wanted wanted_now assumptions levels next levels_now next_now level old middle new k id is_trail
    is_middle same_wanted same_levels none kept h below =
    let before = searching_back wanted assumptions levels next level old is_trail h in
    let is_kept = kept.kept ∙ ap (λ (s : State). s.kept ++ Some k ∷ []) is_middle in
    subst (λ (w : List ℕ). IsSearching w assumptions levels_now next_now new) (sym same_wanted)
    (subst (λ (n : ℕ). IsSearching wanted assumptions n next_now new) (sym same_levels)
    (subst (λ (n : ℕ). IsSearching wanted assumptions levels n new) (sym none)
    (searching_wider wanted assumptions levels 0
    (record old { trail = record old.trail { literals = up_to level old.trail.literals } }) new
    (kept.literals ∙ ap (λ (s : State). s.trail.literals) is_middle)
    (omega (arith, kept.reserved, ap (λ (s : State). s.trail.reserved) is_middle)) kept.room
    (subst (λ (ks : Kept). AreReasoned ks [] (up_to level old.trail.literals)) (sym is_kept)
    (reasoned_more old.kept (Some k) [] (up_to level old.trail.literals) before.reasoned))
    (subst (λ (ks : Kept). IsSettledBelow ks (up_to level old.trail.literals)) (sym is_kept) below) before)))

assumed_base : (assumptions : List Lit) (n : ℕ) (es : List Assigned) → AreLevelled n es
    → AreAssumed assumptions (up_to 0 es)
assumed_base assumptions n [] h = tt
assumed_base assumptions n (e ∷ es) h =
    elim (cases_Bool (leb e.level 0)) [
      | inl low ↦ rw low (
        λ none. absurd (omega (arith, leb-true e.level 0 low, h.0 ∙ ap (level_behind n) none)),
        assumed_base assumptions e.level es h.1,
      )
      | inr high ↦ rw high (assumed_base assumptions e.level es h.1)
    ]

-- where a search begins
pub searching_begun : (wanted : List ℕ) (assumptions : List Lit) (levels : ℕ) (old new : State) → IsTrail old.trail
    → AreReasoned old.kept [] old.trail.literals → new.kept ≡ old.kept → new.trail.literals ≡ up_to 0 old.trail.literals
    → has_room_for new.trail.reserved new.kept ≡ true → have_places new.trail.reserved wanted ≡ true
    → are_reserved new.trail.reserved assumptions ≡ true → IsSearching wanted assumptions levels 0 new
searching_begun wanted assumptions levels old new is_trail reasoned kept same room places more =
    let flat : current_level new.trail.literals ≤ 0 =
    subst (λ (es : List Assigned). current_level es ≤ 0) (sym same)
    (level_up_to 0 0 old.trail.literals (omega arith)) in
    record {
      reasoned = subst (λ (k : Kept). AreReasoned k [] new.trail.literals) (sym kept)
          (subst (λ (es : List Assigned). AreReasoned old.kept [] es) (sym same)
          (reasoned_up_to old.kept [] old.trail.literals 0 0 reasoned is_trail.levelled));
      below = λ n low. absurd (omega (arith, low, flat));
      room = room;
      places = places;
      assumption_places = more;
      assumed = subst (λ (es : List Assigned). AreAssumed assumptions (up_to levels es)) (sym same)
          (assumed_up_to assumptions levels (up_to 0 old.trail.literals)
          (assumed_base assumptions 0 old.trail.literals is_trail.levelled));
      given = λ low. absurd (omega (arith, low, flat));
      first = λ _. refl;
    }

-- on a level of which this is known, or on level 0
pub below_at : (kept : Kept) (es : List Assigned) (level back : ℕ) → (level ≡ back) ⊎ (level ≡ 0)
    → IsSettledBelow kept (up_to back es) → IsSettledBelow kept (up_to level es)
below_at kept es level back cases h =
    elim cases [
      | inl same ↦ subst (λ n. IsSettledBelow kept (up_to n es)) (sym same) h
      | inr zero ↦ λ n low. absurd (omega (arith, low, zero, level_up_to level 0 es (omega arith)))
    ]
